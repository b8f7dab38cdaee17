-- How a made script is put together, and that its requests are right-hand sides within the limit.
use Rattle.std.proofs.Common.{◌≡◌, ℕ, ◌+◌, ◌*◌, ◌%◌, ◌≤◌, List, [], ◌∷◌, ◌++◌, length, map, take, All, refl, sym, subst, ap, ◌∙◌, arith}
use Rattle.std.proofs.lemmas.List.{take_all}
use Rattle.std.proofs.lemmas.List.Elements.{All-nil, All-cons, All-map}
use Rattle.ct_vectors.specs.declared.limits.TheConstants.{RIGHT_LIMIT}
use Rattle.ct_input.specs.declared.script.Request.{Request}
use Rattle.ct_input.specs.declared.script.Phase.{Phase}
use Rattle.ct_input.specs.declared.script.Script.{Script}
use Rattle.ct_input.specs.Script.{IsRequest, IsPhase, IsScript}
use Rattle.ct_gen.specs.declared.making.TheConstants.{MADE_COLUMNS, MADE_REQUESTS}
use Rattle.ct_gen.specs.Draws.{draws}
use Rattle.ct_gen.specs.Made.{made_request, made_session, made_phase, made_script}

-- what holds of everything
all_of : {A : Type 0} (P : A → Type 0) → ((x : A) → P x) → (xs : List A) → All P xs
all_of P holds [] = All-nil P
all_of P holds (x ∷ xs) = All-cons P x xs (holds x) (all_of P holds xs)

-- what holds of each image
pub all_made : {A B : Type 0} (P : B → Type 0) (f : A → B) → ((x : A) → P (f x)) → (xs : List A) → All P (map f xs)
all_made P f holds xs = All-map P f xs (all_of (λ x. P (f x)) holds xs)

-- ---- the script

request-is : (d : ℕ) → IsRequest 1 (made_request d)
request-is d = record { right = refl; limit = All-cons (λ x. x ≤ RIGHT_LIMIT) (d % 100000) [] (omega arith) (All-nil (λ x. x ≤ RIGHT_LIMIT)) }

session-is : (number index : ℕ) → All (IsRequest 1) (made_session number index)
session-is number index = all_made (IsRequest 1) made_request request-is (draws number (2 * MADE_COLUMNS + index * MADE_REQUESTS) MADE_REQUESTS)

phase-is : (number index : ℕ) → IsPhase 1 (made_phase number index)
phase-is number index =
    let all : List Request → Type 0 = λ rs. All (IsRequest 1) rs in
    record {
      target = omega arith;
      few = omega arith;
      sessions = All-cons all (made_session number index) (made_session number (index + 1) ∷ []) (session-is number index) (All-cons all (made_session number (index + 1)) [] (session-is number (index + 1)) (All-nil all));
    }

script-is : (number : ℕ) → IsScript 1 (made_script number)
script-is number =
    All-cons (IsPhase 1) (made_phase number 0) (made_phase number 2 ∷ []) (phase-is number 0) (All-cons (IsPhase 1) (made_phase number 2) [] (phase-is number 2) (All-nil (IsPhase 1)))

pub right_is : (number : ℕ) (script : Script) → script ≡ made_script number → IsScript 1 script
right_is number script is = subst (λ (s : Script). IsScript 1 s) (sym is) (script-is number)

-- ---- its parts

pub session_made : (number index from i : ℕ) (drawn items : List ℕ) (rs : List Request) → items ≡ drawn → drawn ≡ draws number from MADE_REQUESTS → from ≡ 2 * MADE_COLUMNS + index * MADE_REQUESTS
    → rs ≡ map made_request (take i items) → length items ≤ i → rs ≡ made_session number index
session_made number index from i drawn items rs same are here so_far past =
    so_far ∙ ap (λ (ds : List ℕ). map made_request ds) (take_all i items past ∙ same ∙ are ∙ ap (λ (k : ℕ). draws number k MADE_REQUESTS) here)

-- two, as they are pushed to an empty list
pub two_pushed : {A : Type 0} (a b : A) (none one two : List A) → none ≡ [] → one ≡ none ++ a ∷ [] → two ≡ one ++ b ∷ [] → two ≡ a ∷ b ∷ []
two_pushed {A} a b none one two empty first second =
    second ∙ ap (λ (xs : List A). xs ++ b ∷ []) (first ∙ ap (λ (xs : List A). xs ++ a ∷ []) empty)

pub phase_made : (number index x : ℕ) (mid : ℕ × ℕ) (a b : List Request) (found : List (List Request)) → mid ≡ (number, x) → a ≡ made_session number index → b ≡ made_session mid.0 (index + 1)
    → found ≡ a ∷ b ∷ [] → ◌≡◌ {A = Phase} (record { target = 0; sessions = found }) (made_phase number index)
phase_made number index x mid a b found source first second are =
    let later : b ≡ made_session number (index + 1) = second ∙ ap (λ (s : ℕ × ℕ). made_session s.0 (index + 1)) source in
    rw (are, first, later) refl

pub script_made : (number x y z : ℕ) (s0 s1 s2 : ℕ × ℕ) (a b : Phase) (found : List Phase) → s0 ≡ (number, x) → s1 ≡ (s0.0, y) → s2 ≡ (s1.0, z) → a ≡ made_phase s1.0 0 → b ≡ made_phase s2.0 2
    → found ≡ a ∷ b ∷ [] → ◌≡◌ {A = Script} (record { phases = found }) (made_script number)
script_made number x y z s0 s1 s2 a b found h0 h1 h2 first second are =
    let n1 : s1.0 ≡ number = ap (λ (s : ℕ × ℕ). s.0) h1 ∙ ap (λ (s : ℕ × ℕ). s.0) h0 in
    let n2 : s2.0 ≡ number = ap (λ (s : ℕ × ℕ). s.0) h2 ∙ n1 in
    let front : a ≡ made_phase number 0 = first ∙ ap (λ (n : ℕ). made_phase n 0) n1 in
    let back : b ≡ made_phase number 2 = second ∙ ap (λ (n : ℕ). made_phase n 2) n2 in
    rw (are, front, back) refl

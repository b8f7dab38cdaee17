-- What the values are that a grammar can give: the requests of a script are right-hand sides within the limit.
use Rattle.std.proofs.Common.{◌≡◌, ℕ, zero, suc, ◌-◌, ◌≤◌, ℤ, pos, negsuc, nat_abs, cond, eqb, Bool, true, false, if◌then◌else◌, List, [], ◌∷◌, All, length, drop, get_or, nat_le, IfOk, Option, Some, None, Result, Ok, Err, refl, sym, ap, ◌∙◌, subst, arith}
use Rattle.std.proofs.lemmas.Bool.{leb-true}
use Rattle.std.proofs.lemmas.Bool.Decides.{nat_tests}
use Rattle.std.proofs.lemmas.List.Elements.{All-cons, All-nil}
use Rattle.ct_text.specs.Tokens.{Lexeme}
use Rattle.ct_text.specs.declared.place.Place.{Place}
use Rattle.ct_text.specs.declared.number.NumberFault.{NumberFault}
use Rattle.ct_text.specs.declared.number.NumberFault.TheVariants.{Spelling, Over}
use Rattle.ct_text.specs.Numbers.{is_natural, value_of, natural_of, positive, negative, signed_of}
use Rattle.ct_vectors.specs.declared.limits.TheConstants.{RIGHT_LIMIT, SESSION_LIMIT}
use Rattle.ct_input.specs.declared.limits.TheConstants.{PHASE_LIMIT, REQUEST_LIMIT}
use Rattle.ct_input.specs.declared.fault.Fault.{Fault}
use Rattle.ct_input.specs.declared.script.Request.{Request}
use Rattle.ct_input.specs.declared.script.Script.{Script}
use Rattle.ct_input.specs.declared.fault.InputStop.{InputStop}
use Rattle.ct_input.specs.Sheet.{Sheet, ◌>>=◌, Gives}
use Rattle.ct_input.specs.Grammar.{Grammar, done, nothing, word, number, signed, fork, barred, only, part, numbers, upto, if_some, read, token_at, word_in, number_in, number_fault, signed_in, only_in, is_next, after_next, nothing_at, barred_at}
use Rattle.ct_input.specs.SessionText.{request, no_request, requests, session, no_session, sessions, phase, no_phase, phases, session_text}
use Rattle.ct_input.specs.Script.{IsRequest, IsPhase, IsScript}
use Rattle.ct_input.specs.Accepted.{IsAcceptedScript}

-- each value that the grammar can give has P
abbrev pub Yields : {A : Type 0} → (A → Type 0) → Grammar A → Type 0
Yields P (done x) = P x
Yields P (nothing next) = Yields P next
Yields P (word w next) = Yields P next
Yields P (number low high next) = (n : ℕ) → low ≤ n → n ≤ high → Yields P (next n)
Yields P (signed size next) = (n : ℤ) → nat_abs n ≤ size → Yields P (next n)
Yields P (fork w first second) = Yields P first × Yields P second
Yields P (barred w next) = Yields P next
Yields P (only w next) = Yields P next

-- ---- what was read has P

pub ok_same : {A E : Type 0} (a b : A) → ◌≡◌ {A = Result A E} (Ok a) (Ok b) → a ≡ b
ok_same a b same = cc

pub bind-ok : {A B : Type 0} (r : Result A Fault) (f : A → Result B Fault) (y : B) → (r >>= f) ≡ Ok y → (x : A) × ((r ≡ Ok x) × (f x ≡ Ok y))
bind-ok (Ok x) f y same = (x, (refl, same))
bind-ok (Err e) f y same = absurd (cc)

chosen-le : (spelled within : Bool) (value limit n : ℕ) → (within ≡ true → value ≤ limit) →
    ◌≡◌ {A = Result ℕ NumberFault} (if spelled then if within then Ok value else Err Over else Err Spelling) (Ok n) → n ≤ limit
chosen-le true true value limit n below same = subst (λ (k : ℕ). k ≤ limit) (ok_same value n same) (below refl)
chosen-le true false value limit n below same = absurd (cc)
chosen-le false within value limit n below same = absurd (cc)

natural_of-le : (text : List ℕ) (limit n : ℕ) → natural_of text limit ≡ Ok n → n ≤ limit
unfolding natural_of
natural_of-le text limit n same = chosen-le (is_natural text) (nat_le (value_of text) limit) (value_of text) limit n (leb-true (value_of text) limit) same

number_fault_is : {A : Type 0} (place : Place) (r : Result A NumberFault) (x : A) → number_fault place r ≡ Ok x → r ≡ Ok x
number_fault_is place (Ok y) x same = ap (λ z. Ok z) (ok_same y x same)
number_fault_is place (Err Spelling) x same = absurd (cc)
number_fault_is place (Err Over) x same = absurd (cc)

if_ok : (b : Bool) (m n : ℕ) (e : Fault) → ◌≡◌ {A = Result ℕ Fault} (if b then Ok m else Err e) (Ok n) → (b ≡ true) × (m ≡ n)
if_ok true m n e same = (refl, ok_same m n same)
if_ok false m n e same = absurd (cc)

number_in_within : (low high : ℕ) (token : Lexeme) (n : ℕ) → number_in low high token ≡ Ok n → (low ≤ n) × (n ≤ high)
number_in_within low high token n same =
    let b = bind-ok (number_fault token.place (natural_of token.text high)) _ n same in
    let below : b.0 ≤ high = natural_of-le token.text high b.0 (number_fault_is token.place (natural_of token.text high) b.0 b.1.0) in
    let is = if_ok (nat_le low b.0) b.0 n _ b.1.1 in
    (subst (λ (k : ℕ). low ≤ k) is.1 (leb-true low b.0 is.0), subst (λ (k : ℕ). k ≤ high) is.1 below)

positive_within : (r : Result ℕ NumberFault) (size : ℕ) (z : ℤ) → ((m : ℕ) → r ≡ Ok m → m ≤ size) → positive r ≡ Ok z → nat_abs z ≤ size
positive_within (Ok m) size z below same = subst (λ (y : ℤ). nat_abs y ≤ size) (ok_same (pos m) z same) (below m refl)
positive_within (Err e) size z below same = absurd (cc)

suc_some : (n : ℕ) → eqb (suc n) 0 ≡ false
suc_some n = grind (arith, nat_tests)

negative-suc : (n : ℕ) → negative (Ok (suc n)) ≡ Ok (negsuc n)
negative-suc n = rw (suc_some n) refl

negative_within : (r : Result ℕ NumberFault) (size : ℕ) (z : ℤ) → ((m : ℕ) → r ≡ Ok m → m ≤ size) → negative r ≡ Ok z → nat_abs z ≤ size
negative_within (Ok zero) size z below same = absurd (cc)
negative_within (Ok (suc m)) size z below same = subst (λ (y : ℤ). nat_abs y ≤ size) (ok_same (negsuc m) z (sym (negative-suc m) ∙ same)) (below (suc m) refl)
negative_within (Err e) size z below same = absurd (cc)

signed_of-le : (text : List ℕ) (size : ℕ) (z : ℤ) → signed_of text size ≡ Ok z → nat_abs z ≤ size
unfolding signed_of
signed_of-le text size z =
    elim (eqb (get_or text 0 0) 45) as (λ (v : Bool). cond v (negative (natural_of (drop 1 text) size)) (positive (natural_of text size)) ≡ Ok z → nat_abs z ≤ size) [
      | true ↦ λ same. negative_within (natural_of (drop 1 text) size) size z (λ m. natural_of-le (drop 1 text) size m) same
      | false ↦ λ same. positive_within (natural_of text size) size z (λ m. natural_of-le text size m) same
    ]

-- what a token gives has what its reading has
token_at_has : {A : Type 0} (P : A → Type 0) (reading : Lexeme → Result A Fault) → ((token : Lexeme) (y : A) → reading token ≡ Ok y → P y) →
    (s : Sheet) (x : A × Sheet) → token_at reading s ≡ Ok x → P x.0
token_at_has {A} P reading has s x = elim s.tokens as (λ (ts : List Lexeme). token_at reading (record { tokens = ts; end = s.end }) ≡ Ok x → P x.0) [
  | [] ↦ λ same. absurd (cc)
  | token ∷ others ↦ λ same.
      let b = bind-ok (reading token) _ x same in
      subst P (ap (λ (y : A × Sheet). y.0) (ok_same _ x b.1.1)) (has token b.0 b.1.0)
]

pub read_yields : {A : Type 0} (P : A → Type 0) (g : Grammar A) (s : Sheet) (x : A × Sheet) → Yields P g → read g s ≡ Ok x → P x.0
read_yields {A} P (done y) s x all same = subst P (ap (λ (z : A × Sheet). z.0) (ok_same (y, s) x same)) all
read_yields P (nothing next) s x all same = read_yields P next s x all (bind-ok (nothing_at s) (λ _. read next s) x same).1.1
read_yields P (word w next) s x all same =
    let b = bind-ok (token_at (word_in w) s) (λ y. read next y.1) x same in
    read_yields P next b.0.1 x all b.1.1
read_yields P (number low high next) s x all same =
    let b = bind-ok (token_at (number_in low high) s) (λ y. read (next y.0) y.1) x same in
    let within = token_at_has (λ n. (low ≤ n) × (n ≤ high)) (number_in low high) (number_in_within low high) s b.0 b.1.0 in
    read_yields P (next b.0.0) b.0.1 x (all b.0.0 within.0 within.1) b.1.1
read_yields P (signed size next) s x all same =
    let b = bind-ok (token_at (signed_in size) s) (λ y. read (next y.0) y.1) x same in
    let within = token_at_has (λ z. nat_abs z ≤ size) (signed_in size) (λ token z same. signed_of-le token.text size z (number_fault_is token.place (signed_of token.text size) z same)) s b.0 b.1.0 in
    read_yields P (next b.0.0) b.0.1 x (all b.0.0 within) b.1.1
read_yields P (fork w first second) s x all same =
    elim (is_next w s) as (λ (v : Bool). (if v then read first (after_next s) else read second s) ≡ Ok x → P x.0) [
      | true ↦ λ here. read_yields P first (after_next s) x all.0 here
      | false ↦ λ here. read_yields P second s x all.1 here
    ] same
read_yields P (barred w next) s x all same = read_yields P next s x all (bind-ok (barred_at w s) (λ _. read next s) x same).1.1
read_yields P (only w next) s x all same =
    let b = bind-ok (token_at (only_in w) s) (λ y. read next y.1) x same in
    read_yields P next b.0.1 x all b.1.1

-- ---- the parts of a grammar

pub yields-part : {A B : Type 0} (P : A → Type 0) (Q : B → Type 0) (g : Grammar A) (f : A → Grammar B) → Yields P g → ((x : A) → P x → Yields Q (f x)) → Yields Q (part g f)
unfolding part
yields-part P Q (done x) f all goes = goes x all
yields-part P Q (nothing next) f all goes = yields-part P Q next f all goes
yields-part P Q (word w next) f all goes = yields-part P Q next f all goes
yields-part P Q (number low high next) f all goes = λ n above below. yields-part P Q (next n) f (all n above below) goes
yields-part P Q (signed size next) f all goes = λ n within. yields-part P Q (next n) f (all n within) goes
yields-part P Q (fork w first second) f all goes = (yields-part P Q first f all.0 goes, yields-part P Q second f all.1 goes)
yields-part P Q (barred w next) f all goes = yields-part P Q next f all goes
yields-part P Q (only w next) f all goes = yields-part P Q next f all goes

-- so many numbers up to a limit
pub record AreNumbers (count high : ℕ) (ns : List ℕ) : Type 0 where
  pub count_is : length ns ≡ count
  pub limit : All (λ n. n ≤ high) ns

pub yields-numbers : (count high : ℕ) → Yields (AreNumbers count high) (numbers count high)
unfolding numbers
yields-numbers zero high = record { count_is = refl; limit = All-nil (λ n. n ≤ high) }
yields-numbers (suc count) high = λ n _ below.
    yields-part (AreNumbers count high) (AreNumbers (suc count) high) (numbers count high) _ (yields-numbers count high)
    (λ ns are. record { count_is = ap suc are.count_is; limit = All-cons (λ m. m ≤ high) n ns below are.limit })

-- P holds of what was found
abbrev pub OnFound : {X : Type 0} → (X → Type 0) → Option X → Type 0
OnFound P None = Unit {0}
OnFound P (Some x) = P x

-- at most so many, and P holds of each
pub record AreUpto {X : Type 0} (P : X → Type 0) (most : ℕ) (xs : List X) : Type 0 where
  pub all : All P xs
  pub few : length xs ≤ most

are-none : {X : Type 0} (P : X → Type 0) (most : ℕ) → AreUpto P most []
are-none P most = record { all = All-nil P; few = omega arith }

are-more : {X : Type 0} (P : X → Type 0) (most : ℕ) (x : X) (xs : List X) → P x → AreUpto P most xs → AreUpto P (suc most) (x ∷ xs)
are-more P most x xs here are = record { all = All-cons P x xs here are.all; few = let few : length xs ≤ most = are.few in omega (arith, few) }

module _ {X : Type 0} (P : X → Type 0) (item : ℕ → Grammar (Option X)) (uses : X → ℕ) (over : Grammar (List X))
    (items : (spare : ℕ) → Yields (OnFound P) (item spare)) (overs : Yields (AreUpto P 0) over) where
  yields-found : (most : ℕ) (rest : X → Grammar (List X)) → ((x : X) → Yields (AreUpto P most) (rest x)) → (found : Option X) → OnFound P found →
      Yields (AreUpto P (suc most)) (if_some found (λ x. part (rest x) (λ xs. done (x ∷ xs))))
  yields-found most rest rests None here = are-none P (suc most)
  yields-found most rest rests (Some x) here =
      yields-part (AreUpto P most) (AreUpto P (suc most)) (rest x) (λ xs. done (x ∷ xs)) (rests x) (λ xs are. are-more P most x xs here are)

  pub yields-upto : (count spare : ℕ) → Yields (AreUpto P count) (upto item uses over count spare)
  unfolding upto
  yields-upto zero spare = overs
  yields-upto (suc count) spare =
      yields-part (OnFound P) (AreUpto P (suc count)) (item spare) _ (items spare)
      (yields-found count (λ x. upto item uses over count (spare - uses x)) (λ x. yields-upto count (spare - uses x)))

-- ---- the session text

yields-request : (m : ℕ) → Yields (OnFound (IsRequest m)) (request m)
unfolding request
yields-request m = (
  yields-part (AreNumbers m RIGHT_LIMIT) (OnFound (IsRequest m)) (numbers m RIGHT_LIMIT) _ (yields-numbers m RIGHT_LIMIT) (λ b are. record { right = are.count_is; limit = are.limit }),
  (yields-part (AreNumbers m RIGHT_LIMIT) (OnFound (IsRequest m)) (numbers m RIGHT_LIMIT) _ (yields-numbers m RIGHT_LIMIT) (λ b are. record { right = are.count_is; limit = are.limit }), tt),
)

yields-requests : (m spare : ℕ) → Yields (AreUpto (IsRequest m) spare) (requests m spare)
yields-requests m spare = yields-upto (IsRequest m) (λ _. request m) (λ _. 1) no_request (λ _. yields-request m) (are-none (IsRequest m) 0) spare spare

yields-session : (m spare : ℕ) → Yields (OnFound (All (IsRequest m))) (session m spare)
unfolding session
yields-session m spare =
    (yields-part (AreUpto (IsRequest m) spare) (OnFound (All (IsRequest m))) (requests m spare) _ (yields-requests m spare) (λ rs are. are.all), tt)

yields-sessions : (m spare : ℕ) → Yields (AreUpto (λ rs. All (IsRequest m) rs) SESSION_LIMIT) (sessions m spare)
yields-sessions m spare =
    yields-upto (λ rs. All (IsRequest m) rs) (session m) length no_session (yields-session m) (are-none (λ (rs : List Request). All (IsRequest m) rs) 0) SESSION_LIMIT spare

yields-phase : (m spare : ℕ) → Yields (OnFound (IsPhase m)) (phase m spare)
unfolding phase
yields-phase m spare = (
  λ target _ below.
      yields-part (AreUpto (λ rs. All (IsRequest m) rs) SESSION_LIMIT) (OnFound (IsPhase m)) (sessions m spare) _ (yields-sessions m spare)
      (λ ss are. record { target = below; few = are.few; sessions = are.all }),
  tt,
)

yields-phases : (m spare : ℕ) → Yields (AreUpto (IsPhase m) PHASE_LIMIT) (phases m spare)
yields-phases m spare = yields-upto (IsPhase m) (phase m) _ no_phase (yields-phase m) (are-none (IsPhase m) 0) PHASE_LIMIT spare

pub yields-session_text : (m : ℕ) → Yields (IsAcceptedScript m) (session_text m)
unfolding session_text
yields-session_text m = yields-part (AreUpto (IsPhase m) PHASE_LIMIT) (IsAcceptedScript m) (phases m REQUEST_LIMIT) _ (yields-phases m REQUEST_LIMIT) (λ ps are. (are.all, are.few))

-- the script that was read is one for so many rows
pub script_read : (m : ℕ) (s rest : Sheet) (r : Result Script InputStop) → Gives (λ (script : Script). (script, rest)) r (read (session_text m) s) → IfOk r (IsScript m)
script_read m s rest (Ok script) e = (read_yields (IsAcceptedScript m) (session_text m) s (script, rest) (yields-session_text m) e).0
script_read m s rest (Err e) gives = tt

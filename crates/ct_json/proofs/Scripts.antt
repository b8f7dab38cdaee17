-- The requests of a script have as many numbers as the instance has rows, within the limit.
use Rattle.std.proofs.Common.{◌≡◌, ℕ, suc, ◌+◌, ◌-◌, ◌≤◌, zero, min, nat_lt, Bool, true, false, List, [], ◌∷◌, length, map, take, All, IfOk, Option, Some, None, Result, Ok, Err, refl, sym, ap, ◌∙◌, sum_by, arith}
use Rattle.std.proofs.lemmas.Result.{IfOk-weaker}
use Rattle.std.proofs.lemmas.List.{length-map, take-map}
use Rattle.std.proofs.lemmas.List.Sums.{sum_by-cons}
use Rattle.serde_json.specs.Data.{Data}
use Rattle.serde_json.specs.View.{view}
use Rattle.serde_json.specs.declared.value.Value.{Value}
use Rattle.ct_vectors.specs.declared.limits.TheConstants.{RIGHT_LIMIT, GRADE_LIMIT, SESSION_LIMIT}
use Rattle.ct_input.specs.declared.limits.TheConstants.{PHASE_LIMIT, REQUEST_LIMIT}
use Rattle.ct_input.specs.declared.script.Request.{Request}
use Rattle.ct_input.specs.declared.script.Request.TheVariants as requests
use Rattle.ct_input.specs.declared.script.Phase.{Phase}
use Rattle.ct_input.specs.declared.fault.Fault.{Fault}
use Rattle.ct_input.specs.declared.fault.Fault.TheVariants.{Json}
use Rattle.ct_input.specs.declared.path.PathStep.{PathStep}
use Rattle.ct_input.specs.declared.path.PathStep.TheVariants.{Index}
use Rattle.ct_input.specs.declared.path.Name.{Name}
use Rattle.ct_input.specs.declared.path.Name.TheVariants.{Sessions, Phases, Target, Ask, Solve}
use Rattle.ct_input.specs.declared.path.JsonReason.TheVariants.{Missing, Limit}
use Rattle.ct_input.specs.declared.fault.InputStop.{InputStop}
use Rattle.ct_input.specs.Sheet.{◌>>=◌, Fails}
use Rattle.ct_input.specs.Script.{IsRequest, IsPhase}
use Rattle.ct_input.specs.Accepted.{IsAcceptedScript}
use Rattle.ct_json.specs.Values.{◌▹◌, refuse, only_if, array_at, object_at, has, no_others}
use Rattle.ct_json.specs.Shapes.{Shape, natural, natural_at, form_at, each, list_of, naturals, member_as}
use Rattle.ct_json.specs.SessionShape.{right_in, request_in, request, request_at, session, session_at, phase, phase_at, script_at}
use Rattle.ct_json.proofs.Chains.{ok_bind, ok_any, ok_only_if, ok_either}
use Rattle.ct_json.proofs.Counts.{Says, AreItems, says_natural, says_each, says_list, says_member}

abbrev IsRight : ℕ → List ℕ → Type 0
IsRight m b = AreItems (λ x. x ≤ RIGHT_LIMIT) m m b

right_says : (m : ℕ) (name : Name) (here : List PathStep) (d : Data) → IfOk (right_in m name here d) (IsRight m)
right_says m name here d =
    ok_bind (member_as name ((naturals m m RIGHT_LIMIT).reads 0) here d) _ (IsRight m) (IsRight m)
    (says_member (IsRight m) name ((naturals m m RIGHT_LIMIT).reads 0) (says_list (λ x. x ≤ RIGHT_LIMIT) (natural RIGHT_LIMIT) m m (says_natural RIGHT_LIMIT) 0) here d)
    (λ b are. ok_any (no_others (name ∷ []) here d) _ (IsRight m) (λ _. are))

request_in_says : (m : ℕ) (here : List PathStep) (d : Data) → IfOk (request_in m here d) (IsRequest m)
request_in_says m here d =
    ok_either (has Solve d) _ _ (IsRequest m)
    (ok_bind (right_in m Solve here d) _ (IsRight m) (IsRequest m) (right_says m Solve here d) (λ b are. record { right = omega (arith, are.some, are.few); limit = are.all }))
    (ok_either (has Ask d) _ _ (IsRequest m)
    (ok_bind (right_in m Ask here d) _ (IsRight m) (IsRequest m) (right_says m Ask here d) (λ b are. record { right = omega (arith, are.some, are.few); limit = are.all }))
    tt)

says_request : (m : ℕ) → Says (IsRequest m) (request m)
unfolding request_at
says_request m spare here d =
    ok_any (object_at here d) _ (IsRequest m) (λ _. ok_any (only_if (nat_lt 0 spare) here Limit true) _ (IsRequest m) (λ _. request_in_says m here d))

says_session : (m : ℕ) → Says (λ rs. All (IsRequest m) rs) (session m)
unfolding session_at
says_session m spare here d =
    ok_any (array_at here d) _ (λ rs. All (IsRequest m) rs) (λ ds. IfOk-weaker (each (request m) here 0 spare ds) _ (λ rs. All (IsRequest m) rs) (λ rs are. are.all) (says_each (IsRequest m) (request m) (says_request m) here 0 spare ds))

says_phase : (m : ℕ) → Says (IsPhase m) (phase m)
unfolding phase_at
says_phase m spare here d =
    ok_any (object_at here d) _ (IsPhase m) (λ _.
    ok_bind (member_as Target (natural_at GRADE_LIMIT) here d) _ (λ n. n ≤ GRADE_LIMIT) (IsPhase m)
    (says_member (λ n. n ≤ GRADE_LIMIT) Target (natural_at GRADE_LIMIT) (says_natural GRADE_LIMIT 0) here d) (λ target within.
    ok_bind (member_as Sessions ((list_of 0 SESSION_LIMIT (session m)).reads spare) here d) _ (AreItems (λ rs. All (IsRequest m) rs) 0 SESSION_LIMIT) (IsPhase m)
    (says_member (AreItems (λ rs. All (IsRequest m) rs) 0 SESSION_LIMIT) Sessions ((list_of 0 SESSION_LIMIT (session m)).reads spare) (says_list (λ rs. All (IsRequest m) rs) (session m) 0 SESSION_LIMIT (says_session m) spare) here d) (λ sessions are.
    ok_any (no_others (Target ∷ Sessions ∷ []) here d) _ (IsPhase m) (λ _. record { target = within; few = are.few; sessions = are.all }))))

pub script_says : (m : ℕ) (here : List PathStep) (d : Data) → IfOk (script_at m here d) (IsAcceptedScript m)
unfolding script_at
script_says m here d =
    ok_any (object_at here d) _ (IsAcceptedScript m) (λ _.
    ok_any (member_as Sessions form_at here d) _ (IsAcceptedScript m) (λ _.
    ok_bind (member_as Phases ((list_of 0 PHASE_LIMIT (phase m)).reads REQUEST_LIMIT) here d) _ (AreItems (IsPhase m) 0 PHASE_LIMIT) (IsAcceptedScript m)
    (says_member (AreItems (IsPhase m) 0 PHASE_LIMIT) Phases ((list_of 0 PHASE_LIMIT (phase m)).reads REQUEST_LIMIT) (says_list (IsPhase m) (phase m) 0 PHASE_LIMIT (says_phase m) REQUEST_LIMIT) here d) (λ phases are.
    ok_any (no_others (Sessions ∷ Phases ∷ []) here d) _ (IsAcceptedScript m) (λ _. (are.all, are.few)))))

-- ---- a session with more requests than are spare

always_err : {A B : Type 0} (r : Result A Fault) (f : Fault) → (g : Fault) × (◌≡◌ {A = Result B Fault} (r >>= λ _. Err f) (Err g))
always_err (Ok x) f = (f, refl)
always_err (Err g) f = (g, refl)

none_spare : (m : ℕ) (here : List PathStep) (d : Data) → (g : Fault) × (request_at m 0 here d ≡ Err g)
unfolding request_at
none_spare m here d = always_err (object_at here d) (Json here Limit)

module _ (m : ℕ) (here : List PathStep) where
  only_one : (index : ℕ) (d : Data) (ds es : List Data) → each (request m) here index 0 (d ∷ ds) ≡ each (request m) here index 0 (d ∷ es)
  unfolding each
  only_one index d ds es = let e = none_spare m (here ▹ Index index) d in rw e.1 refl

  -- None after the first that isn't spare is read.
  pub only_spare : (n index spare : ℕ) (ds : List Data) → n ≡ min (length ds) (spare + 1) → each (request m) here index spare ds ≡ each (request m) here index spare (take n ds)
  unfolding each
  only_spare zero index spare [] h = refl
  only_spare (suc n) index spare [] h = refl
  only_spare zero index spare (d ∷ ds) h = absurd (omega arith)
  only_spare (suc n) index zero (d ∷ ds) h = only_one index d ds (take n ds)
  only_spare (suc n) index (suc spare) (d ∷ ds) h =
      let later : each (request m) here (index + 1) (suc spare - 1) ds ≡ each (request m) here (index + 1) (suc spare - 1) (take n ds) = only_spare n (index + 1) (suc spare - 1) ds (omega arith) in
      ap (λ (r : Result (List Request) Fault). request_at m (suc spare) (here ▹ Index index) d >>= λ x. r >>= λ xs. Ok (x ∷ xs)) later

  session_front : (spare n : ℕ) (vs : List Value) → n ≡ min (length vs) (spare + 1) → each (request m) here 0 spare (map view vs) ≡ each (request m) here 0 spare (map view (take n vs))
  session_front spare n vs few =
      only_spare n 0 spare (map view vs) (few ∙ ap (λ (k : ℕ). min k (spare + 1)) (sym (length-map vs view))) ∙ ap (each (request m) here 0 spare) (take-map view n vs)

  -- so no more than one of them has to be read
  pub session_reads : (spare n : ℕ) (d : Data) (vs : List Value) (rs : List Request) → array_at here d ≡ Ok (map view vs) → n ≡ min (length vs) (spare + 1) → each (request m) here 0 spare (map view (take n vs)) ≡ Ok rs → session_at m spare here d ≡ Ok rs
  unfolding session_at
  session_reads spare n d vs rs is few reads = rw (is, session_front spare n vs few) reads

  pub session_fails : (e : InputStop) (spare n : ℕ) (d : Data) (vs : List Value) → array_at here d ≡ Ok (map view vs) → n ≡ min (length vs) (spare + 1) → Fails e (each (request m) here 0 spare (map view (take n vs))) → Fails e (session_at m spare here d)
  unfolding session_at
  session_fails e spare n d vs is few fault = rw (is, session_front spare n vs few) fault

-- ---- counts

pub ones : (rs : List Request) → sum_by (λ r. 1) rs ≡ length rs
ones [] = refl
ones (r ∷ rs) =
    let e : sum_by (λ (q : Request). 1) (r ∷ rs) ≡ 1 + sum_by (λ (q : Request). 1) rs = sum_by-cons (λ (q : Request). 1) r rs in
    let later = ones rs in
    omega (arith, e, later)

-- Items read one after another, as a loop does.
use Rattle.std.proofs.Common.{◌≡◌, ℕ, zero, suc, ◌+◌, ◌-◌, ◌≤◌, ◌<◌, List, [], ◌∷◌, ◌++◌, length, map, take, drop, get_or, drop-cons, add-one, sum_by, Result, Ok, Err, refl, sym, ap, ◌∙◌, append_assoc, arith}
use Rattle.std.proofs.lemmas.List.{append-nil}
use Rattle.serde_json.specs.Data.{Data}
use Rattle.serde_json.specs.View.{view}
use Rattle.serde_json.specs.declared.value.Value.{Value}
use Rattle.ct_input.specs.declared.fault.Fault.{Fault}
use Rattle.ct_input.specs.declared.fault.InputStop.{InputStop}
use Rattle.ct_input.specs.declared.fault.InputStop.TheVariants as stops
use Rattle.ct_input.specs.declared.path.PathStep.{PathStep}
use Rattle.ct_input.specs.declared.path.PathStep.TheVariants.{Index}
use Rattle.ct_input.specs.Sheet.{◌>>=◌, Fails}
use Rattle.ct_json.specs.Values.{◌▹◌}
use Rattle.ct_json.specs.Shapes.{Shape, each}
use Rattle.ct_json.proofs.Chains.{fails_bind}

-- what was read before, and what is still read
abbrev pub with_front : {A : Type 0} → List A → Result (List A) Fault → Result (List A) Fault
with_front front read = read >>= λ xs. Ok (front ++ xs)

regroup : {A : Type 0} (front : List A) (x : A) (read : Result (List A) Fault) → with_front front (read >>= λ xs. Ok (x ∷ xs)) ≡ with_front (front ++ x ∷ []) read
regroup {A} front x (Ok xs) = ap (λ (ys : List A). Ok ys) (simp append_assoc)
regroup front x (Err f) = refl

stops_front : {A : Type 0} (e : InputStop) (front : List A) (read : Result (List A) Fault) → Fails e read → Fails e (with_front front read)
stops_front e front read h = fails_bind e read (λ xs. Ok (front ++ xs)) h

module _ {A : Type 0} (shape : Shape A) (here : List PathStep) where
  pub turn_goes_on : (front : List A) (k later spare left : ℕ) (ds rest : List Data) (d : Data) (x : A) (whole : Result (List A) Fault) → ds ≡ d ∷ rest
      → shape.reads spare (here ▹ Index k) d ≡ Ok x → left ≡ spare - shape.uses x → later ≡ k + 1
      → with_front front (each shape here k spare ds) ≡ whole → with_front (front ++ x ∷ []) (each shape here later left rest) ≡ whole
  unfolding each
  turn_goes_on front k later spare left ds rest d x whole are reads uses next_index so_far =
      let step : each shape here k spare ds ≡ (each shape here later left rest >>= λ xs. Ok (x ∷ xs)) = rw (are, uses, next_index, reads) refl in
      sym (regroup front x (each shape here later left rest)) ∙ ap (with_front front) (sym step) ∙ so_far

  pub turn_stops : (e : InputStop) (front : List A) (k spare : ℕ) (ds rest : List Data) (d : Data) (whole : Result (List A) Fault) → ds ≡ d ∷ rest
      → Fails e (shape.reads spare (here ▹ Index k) d) → with_front front (each shape here k spare ds) ≡ whole → Fails e whole
  unfolding each
  turn_stops e front k spare ds rest d whole are fault so_far =
      let fails : Fails e (each shape here k spare (d ∷ rest)) = fails_bind e (shape.reads spare (here ▹ Index k) d) _ fault in
      rw (← so_far, are) (stops_front e front (each shape here k spare (d ∷ rest)) fails)

  pub turns_end : (front : List A) (k spare : ℕ) (ds : List Data) (whole : Result (List A) Fault) → ds ≡ []
      → with_front front (each shape here k spare ds) ≡ whole → whole ≡ Ok front
  unfolding each
  turns_end front k spare ds whole none so_far = rw (← so_far, none) (ap (λ (ys : List A). Ok ys) (append-nil front))

-- ---- the values of a slice from an index on

pub next_value : (vs : List Value) (i : ℕ) (v : Value) → i < length vs → v ≡ get_or vs i v → map view (drop i vs) ≡ view v ∷ map view (drop (i + 1) vs)
next_value vs i v below is =
    let e : map view (drop i vs) ≡ view (get_or vs i v) ∷ map view (drop (suc i) vs) = ap (λ (ws : List Value). map view ws) (drop-cons vs i v below) in
    rw add-one (e ∙ ap (λ (w : Value). view w ∷ map view (drop (suc i) vs)) (sym is))

pub no_value : (vs : List Value) (i : ℕ) → length vs ≤ i → map view (drop i vs) ≡ []
no_value [] zero past = refl
no_value [] (suc i) past = refl
no_value (v ∷ vs) zero past = absurd (omega arith)
no_value (v ∷ vs) (suc i) past = no_value vs i (omega arith)

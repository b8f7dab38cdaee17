-- A file that was fetched leads a plan on, or ends it.
use Rattle.std.proofs.Common.{◌≡◌, ℕ, ◌≤◌, ◌+◌, List, [], ◌∷◌, take, Result, Ok, Err, IsErrAnd, inl, sym, subst}
use Rattle.ct_outside.specs.Shelf.{Told}
use Rattle.ct_input.specs.declared.fault.Fault.{Fault}
use Rattle.ct_input.specs.declared.script.Script.{Script}
use Rattle.ct_run.specs.declared.ending.Ending.{Ending}
use Rattle.ct_run.specs.declared.stop.Stop.{Stop}
use Rattle.ct_run.specs.declared.stop.Stop.TheVariants.{Refused}
use Rattle.ct_run.specs.Outcome.{RunOutcome}
use Rattle.ct_run.specs.Plan.{Plan, asks, reads, script_plan}
use Rattle.ct_run.specs.Running.{HasBytes, IsAmong}
use Rattle.ct_run.specs.Stopping.{Fits, StoppedAt, StoppedBy, EndedBy, Ran, LeadsTo}
use Rattle.ct_run.proofs.Endings.{stopped-along}
use Rattle.ct_run.proofs.Runs.{runs-read, runs-then}

-- what holds of an error holds of the result that hands it up
pub handed_up : {T E : Type 0} (e : E) (Q : Result T E → Type 0) (r : Result T E) → IsErrAnd r (λ y. y ≡ e) → Q (Err e) → Q r
handed_up e Q (Ok x) is q = absurd is
handed_up e Q (Err y) is q = subst (λ z. Q (Err z)) (sym is) q

module _ (told : List ℕ → Told) (before mid : List ℕ → ℕ) (name : List ℕ) (others : (other : List ℕ) → ¬ (other ≡ name) → mid other ≡ before other) where
  apart : (other : List ℕ) → ¬ (IsAmong other (name ∷ [])) → mid other ≡ before other
  apart other out = others other (λ same. out (inl same))

  -- it wasn't fetched
  pub not_read : (go : List ℕ → Plan) (stop : Stop) → StoppedAt stop (before name) (mid name) → Ran (asks name go) told before mid (Err stop)
  not_read go stop cause = inl (apart, cause)

  module _ {A : Type 0} (value_of : List ℕ → Result A Fault) (refused : Fault → RunOutcome) (go : A → Plan) (limit : ℕ) (got : List ℕ)
      (front : (bytes : List ℕ) → value_of (take (limit + 1) bytes) ≡ value_of bytes) (file : HasBytes (told name) (λ bytes. got ≡ take (limit + 1) bytes)) where
    -- it stands for a value
    pub read_leads : ((other : List ℕ) → before other ≤ mid other) → (x : A) → value_of got ≡ Ok x → LeadsTo (reads name value_of refused go) (go x) told before mid
    read_leads later x is = λ now result ran.
        runs-read told before now (EndedBy result) (λ n. StoppedBy result (before n) (now n)) name value_of refused go limit got (Ok x) front file is
        (runs-then told before mid now (EndedBy result) (λ n. StoppedBy result (mid n) (now n)) (λ n. StoppedBy result (before n) (now n)) [] (name ∷ []) (go x)
        (λ n out. (λ h. h, apart n out)) (λ n. stopped-along result (before n) (mid n) (now n) (later n)) ran)

    -- it has a fault
    pub read_refused : (fault : Fault) (ending : Ending) → value_of got ≡ Err fault → Fits (refused fault) ending → Ran (reads name value_of refused go) told before mid (Err (Refused ending))
    read_refused fault ending is fits =
        runs-read told before mid (EndedBy (Err (Refused ending))) (λ n. StoppedBy (Err (Refused ending)) (before n) (mid n)) name value_of refused go limit got (Err fault) front file is
        (apart, fits)

-- after an instance a script was asked for, and the run went on from there
module _ (plan : Plan) (sessions : List ℕ) (m rows : ℕ) (go : Script → Plan) (told mid_told : List ℕ → Told) (before mid now : List ℕ → ℕ) where
  pub goes_on : LeadsTo plan (script_plan sessions rows go) told before mid → mid_told ≡ told → m ≡ rows →
      (result : Result Ending Stop) → Ran (script_plan sessions m go) mid_told mid now result → Ran plan told before now result
  goes_on leads kept same result ran =
      leads now result (subst (λ (k : ℕ). Ran (script_plan sessions k go) told mid now result) same (subst (λ (t : List ℕ → Told). Ran (script_plan sessions m go) t mid now result) kept ran))

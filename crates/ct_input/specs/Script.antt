-- The scripts of an instance with m rows.
use Rattle.std.specs.Prelude.{◌≡◌, ℕ, ◌≤◌, List, All, length}
use Rattle.ct_vectors.specs.declared.limits.TheConstants.{RIGHT_LIMIT, GRADE_LIMIT, SESSION_LIMIT}
use Rattle.ct_input.specs.declared.script.Request.{Request}
use Rattle.ct_input.specs.declared.script.Request.TheVariants.{Ask, Solve}
use Rattle.ct_input.specs.declared.script.Phase.{Phase}
use Rattle.ct_input.specs.declared.script.Script.{Script}

-- the right-hand side of a request
abbrev pub right_of : Request → List ℕ
right_of (Ask b) = b
right_of (Solve b) = b

-- m numbers within the limit
pub record IsRequest (m : ℕ) (request : Request) : Type 0 where
  pub right : length (right_of request) ≡ m
  pub limit : All (λ x. x ≤ RIGHT_LIMIT) (right_of request)

-- a target within the limit, and no more sessions than a phase may have, of such requests
pub record IsPhase (m : ℕ) (phase : Phase) : Type 0 where
  pub target : phase.target ≤ GRADE_LIMIT
  pub few : length phase.sessions ≤ SESSION_LIMIT
  pub sessions : All (λ requests. All (IsRequest m) requests) phase.sessions

abbrev pub IsScript : ℕ → Script → Type 0
IsScript m script = All (IsPhase m) script.phases

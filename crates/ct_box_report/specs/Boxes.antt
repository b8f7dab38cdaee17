-- A box that answers, and what it covers.
use Rattle.std.specs.Prelude.{ℕ, ◌≤◌, ◌≡◌, List, length, All}
use Rattle.ct_vectors.specs.declared.limits.TheConstants.{RIGHT_LIMIT}
use Rattle.ct_vectors.specs.Vectors.{Divides}
use Rattle.ct_instance.specs.Instance.{Problem}
use Rattle.ct_input.specs.declared.script.Request.{Request}
use Rattle.ct_input.specs.declared.script.Phase.{Phase}
use Rattle.ct_input.specs.Script.{right_of, IsRequest}
use Rattle.ct_form.specs.Forms.{Form}
use Rattle.ct_form.specs.EqualityForms.{equal_of, right_for}

-- a completed box is seen as what it is of
pub record BoxSeen : Type 0 where
  pub instance : Problem
  pub top : List ℕ
  pub limit : ℕ

-- numbers within the limit for the rows of the equality form
pub record IsTop (f : Form) (top : List ℕ) : Type 0 where
  pub right : length top ≡ (equal_of f).rows
  pub limit : All (λ x. x ≤ RIGHT_LIMIT) top

-- a request of the form whose right-hand side is within the bound
pub record IsCovered (f : Form) (top : List ℕ) (request : Request) : Type 0 where
  pub asked : IsRequest f.rows request
  pub within : Divides (right_for f (right_of request)) top

abbrev pub IsCoveredPhase : Form → List ℕ → Phase → Type 0
IsCoveredPhase f top phase = All (λ requests. All (IsCovered f top) requests) phase.sessions

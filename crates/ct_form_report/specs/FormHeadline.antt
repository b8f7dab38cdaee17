-- What the lines of a report say to who asked a form.
use Rattle.std.specs.Prelude.{ℕ, Bool, List}
use Rattle.ct_instance.specs.Laws.{IsShort}
use Rattle.ct_input.specs.declared.script.Phase.{Phase}
use Rattle.ct_version.specs.declared.answers.Answer.{Answer}
use Rattle.ct_version.specs.declared.answers.Answer.TheVariants.{Optimum, Infeasible}
use Rattle.ct_report.specs.declared.reports.PhaseReport.{PhaseReport}
use Rattle.ct_legal.specs.Headline.{AreTruePhases}
use Rattle.ct_form.specs.Forms.{Form, IsFormSolution}
use Rattle.ct_form.specs.EqualityForms.{equal_of, right_for}
use Rattle.ct_form.specs.Laws.{IsFormOptimum}

-- what an answer says of b: the least solution of the form, with its costs; or that it has none, and by how much each point
-- of the equality form misses its right-hand side
abbrev pub FormSaysRight : Form → List ℕ → Answer → Type 0
FormSaysRight f b (Optimum x costs) = IsFormOptimum f b x costs
FormSaysRight f b (Infeasible short) = IsShort (equal_of f) (right_for f b) short × ((x : List ℕ) → IsFormSolution f b x → ⊥)

-- walks, levels and grades are those of the equality form, at the sum of b and all bounds
abbrev pub AreTrueOfForm : Form → ℕ → Bool → Bool → List Phase → List PhaseReport → Type 0
AreTrueOfForm f limit walks levels phases told = AreTruePhases (equal_of f) (right_for f) (FormSaysRight f) limit walks levels phases told

-- What holds of the k least solutions of a form. Each statement is the contract of a function in the module `laws`.
use Rattle.std.specs.Prelude.{ℕ, ◌≡◌, List, length, map, take, All}
use Rattle.ct_form.specs.Forms.{Form, form_costs_of}
use Rattle.ct_form.specs.EqualityForms.{equal_of, right_for, IsForm}
use Rattle.ct_best.specs.Best.{AreBest}
use Rattle.ct_best_report.specs.declared.reports.Solution.{Solution}
use Rattle.ct_best_report.specs.BestReport.{AreBestWithCosts}
use Rattle.ct_form_best.specs.FormBest.{AreFormBest}

-- the k least of the equality form, each with its first n numbers alone
abbrev pub CutBestIsBest : Type 0
CutBestIsBest =
    (f : Form) → IsForm f → (k : ℕ) (b : List ℕ) → length b ≡ f.rows → (zs : List (List ℕ)) → AreBest (equal_of f) k (right_for f b) zs →
    AreFormBest f k b (map (take (length f.columns)) zs)

-- and so what is shown of them, each with its costs by the form
abbrev pub ShownIsBest : Type 0
ShownIsBest =
    (f : Form) → IsForm f → (k : ℕ) (b : List ℕ) → length b ≡ f.rows → (solutions : List Solution) →
    AreBestWithCosts (equal_of f) (length f.columns) k (right_for f b) solutions →
    AreFormBest f k b (map (λ s. s.point) solutions) × All (λ s. s.costs ≡ form_costs_of f s.point) solutions

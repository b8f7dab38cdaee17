-- What holds of what is shown. Each statement is the contract of a function in the module `laws`.
use Rattle.std.specs.Prelude.{ℕ, ◌≡◌, List, map, All}
use Rattle.ct_instance.specs.Instance.{Problem, column_count}
use Rattle.ct_instance.specs.Answer.{costs_of}
use Rattle.ct_best.specs.Best.{AreBest}
use Rattle.ct_best_report.specs.declared.reports.Solution.{Solution}
use Rattle.ct_best_report.specs.BestReport.{AreBestWithCosts}

-- where as many numbers are shown as there are columns, what is shown are the k least solutions, whole, each with its costs
abbrev pub AllColumnsAreShown : Type 0
AllColumnsAreShown =
    (i : Problem) (k : ℕ) (b : List ℕ) (solutions : List Solution) → AreBestWithCosts i (column_count i) k b solutions →
    AreBest i k b (map (λ s. s.point) solutions) × All (λ s. s.costs ≡ costs_of i s.point) solutions

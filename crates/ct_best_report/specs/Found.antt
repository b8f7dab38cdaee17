-- What is told by a version.
use Rattle.std.specs.Prelude.{ℕ, List}
use Rattle.ct_instance.specs.Instance.{Problem}
use Rattle.ct_best_report.specs.declared.reports.BestAnswer.{BestAnswer}
use Rattle.ct_best_report.specs.declared.reports.BestAnswer.TheVariants.{Full, Found}
use Rattle.ct_best_report.specs.BestReport.{AreBestWithCosts}

-- the k least solutions, of each its first n numbers, with their costs
abbrev pub IsFound : Problem → ℕ → ℕ → List ℕ → BestAnswer → Type 0
IsFound i n k b (Full grade) = ⊥
IsFound i n k b (Found solutions) = AreBestWithCosts i n k b solutions

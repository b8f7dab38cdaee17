-- What is told of the least solutions of each request.
use Rattle.std.specs.Prelude.{ℕ, ◌≡◌, ◌≤◌, List, take, map, All, Some, None}
use Rattle.std.specs.List.{flat_map, AllZip}
use Rattle.ct_vectors.specs.declared.limits.TheConstants.{RIGHT_LIMIT}
use Rattle.ct_instance.specs.Instance.{Problem, IsRight}
use Rattle.ct_instance.specs.Answer.{costs_of}
use Rattle.ct_instance.specs.Reach.{full_grade_up_to}
use Rattle.ct_input.specs.declared.script.Script.{Script}
use Rattle.ct_input.specs.Script.{right_of}
use Rattle.ct_legal.specs.Cases.{Case, sum_of}
use Rattle.ct_best.specs.Best.{AreBest}
use Rattle.ct_best_report.specs.declared.reports.Solution.{Solution}
use Rattle.ct_best_report.specs.declared.reports.BestAnswer.{BestAnswer}
use Rattle.ct_best_report.specs.declared.reports.BestAnswer.TheVariants.{Full, Found}

-- the numbers of each request, in the order of the file
abbrev pub rights_in : Script → List (List ℕ)
rights_in script = flat_map (λ phase. flat_map (λ requests. map right_of requests) phase.sessions) script.phases

-- a right-hand side of the instance, within the limit
pub record IsAsked (i : Problem) (b : List ℕ) : Type 0 where
  pub right : IsRight i b
  pub limit : All (λ x. x ≤ RIGHT_LIMIT) b

-- the k least solutions for b, of each its first n numbers, with the costs of all its numbers
pub record AreBestWithCosts (i : Problem) (n k : ℕ) (b : List ℕ) (solutions : List Solution) : Type 0 where
  pub points : List (List ℕ)
  pub best : AreBest i k b points
  pub shown : map (λ s. s.point) solutions ≡ map (take n) points
  pub paid : map (λ s. s.costs) solutions ≡ map (costs_of i) points

-- what is told of the numbers of a request: the full grade where it is at most their sum, and else the k least, of each its
-- first n numbers
abbrev pub IsBestAnswer : Case → ℕ → ℕ → List ℕ → BestAnswer → Type 0
IsBestAnswer c n k b (Full grade) = full_grade_up_to c.instance c.limit (sum_of c b) ≡ Some grade
IsBestAnswer c n k b (Found solutions) = (full_grade_up_to c.instance c.limit (sum_of c b) ≡ None) × AreBestWithCosts c.instance n k (c.right b) solutions

-- one answer for each request, in order
abbrev pub IsBestReport : Case → ℕ → ℕ → Script → List BestAnswer → Type 0
IsBestReport c n k script answers = AllZip (IsBestAnswer c n k) (rights_in script) answers

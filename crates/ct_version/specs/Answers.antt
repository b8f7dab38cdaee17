-- What a version answers for a right-hand side.
use Rattle.std.specs.Prelude.{ℕ, ◌<◌, ◌≡◌, List}
use Rattle.ct_vectors.specs.Vectors.{total}
use Rattle.ct_instance.specs.Instance.{start_of}
use Rattle.ct_instance.specs.Fiber.{least_of}
use Rattle.ct_instance.specs.Answer.{Outcome, optimum, infeasible, answer_of}
use Rattle.ct_instance.specs.TestSet.{test_list}
use Rattle.ct_instance.specs.Walk.{IsWalk}
use Rattle.ct_instance.specs.Versions.{Covers, upto, level_of}
use Rattle.ct_version.specs.declared.answers.Answer.{Answer}
use Rattle.ct_version.specs.declared.answers.Answer.TheVariants.{Optimum as AnswerOptimum, Infeasible as AnswerInfeasible}
use Rattle.ct_version.specs.declared.answers.AnswerKind.{AnswerKind}
use Rattle.ct_version.specs.declared.answers.AnswerKind.TheVariants.{Optimum as KindOptimum, Infeasible as KindInfeasible}
use Rattle.ct_version.specs.declared.answers.Answered.{Answered}
use Rattle.ct_version.specs.Editions.{Edition}

-- what an answer says
abbrev pub outcome_seen : Answer → Outcome
outcome_seen (AnswerOptimum point costs) = optimum point costs
outcome_seen (AnswerInfeasible short) = infeasible short

-- the same without the point
abbrev pub kind_of : Outcome → AnswerKind
kind_of (optimum x costs) = KindOptimum costs
kind_of (infeasible short) = KindInfeasible short

-- the version is finished up to f, which is below the sum of b
pub record IsNotYet (v : Edition) (b : List ℕ) (f : ℕ) : Type 0 where
  pub level : level_of v.instance v.number ≡ upto f
  pub below : f < total b

-- the answer to b, with the walk of (0, b) by the test list of the sum of b
pub record IsAnswered (v : Edition) (b : List ℕ) (a : Answered) : Type 0 where
  pub covers : Covers (level_of v.instance v.number) (total b)
  pub answer : outcome_seen a.answer ≡ answer_of v.instance b
  pub walk : IsWalk (test_list v.instance (total b)) (start_of v.instance b) a.walk.steps a.walk.end
  pub end : a.walk.end ≡ least_of v.instance b

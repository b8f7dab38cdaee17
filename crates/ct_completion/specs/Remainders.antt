-- The remainders of a grade's jobs, their points in groups by degree, and the moves that the groups give.
use Rattle.std.specs.Prelude.{ℕ, ◌≡◌, ◌<◌, Option, Some, None, List, [], ◌∷◌, length, get_or, Contains}
use Rattle.ct_instance.specs.declared.jobs.Job.{Job}
use Rattle.ct_instance.specs.Instance.{Problem, degree_of}
use Rattle.ct_instance.specs.Fiber.{IsBelow}
use Rattle.ct_instance.specs.TestSet.{Binomial}
use Rattle.ct_instance.specs.Versions.{IsRemainder}

-- the remainders of these jobs against a list of moves, one each
pub record AreRemainders (i : Problem) (ms : List Binomial) (jobs : List Job) (remainders : List (Option (List ℕ × List ℕ))) : Type 0 where
  pub count : length remainders ≡ length jobs
  pub each : (k : ℕ) (j : Job) → k < length jobs → IsRemainder i ms (get_or jobs k j) (get_or remainders k None)

-- the points of some remainders
abbrev pub points_of : List (Option (List ℕ × List ℕ)) → List (List ℕ)
points_of [] = []
points_of (None ∷ rs) = points_of rs
points_of (Some points ∷ rs) = points.0 ∷ points.1 ∷ points_of rs

-- a group is the points of one degree; its move takes another of its points to the least
pub record IsGroupMove (i : Problem) (points : List (List ℕ)) (m : Binomial) : Type 0 where
  pub head : Contains points m.head
  pub tail : Contains points m.tail
  pub degree : degree_of i.columns m.tail ≡ degree_of i.columns m.head
  pub other : m.head ≡ m.tail → ⊥
  pub least : (p : List ℕ) → Contains points p → degree_of i.columns p ≡ degree_of i.columns m.tail → (p ≡ m.tail → ⊥) → IsBelow i m.tail p

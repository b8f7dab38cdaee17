-- What the jobs of a grade within the bound bring.
use Rattle.std.specs.Prelude.{ℕ, ◌≡◌, ◌↔◌, true, cond, Option, List, [], ◌∷◌, ◌++◌, AllPairs, Contains}
use Rattle.ct_vectors.specs.Vectors.{divides}
use Rattle.ct_instance.specs.declared.jobs.Job.{Job}
use Rattle.ct_instance.specs.Instance.{Problem}
use Rattle.ct_instance.specs.TestSet.{Binomial, ComesBefore}
use Rattle.ct_instance.specs.Jobs.{job_degree_of}
use Rattle.ct_instance.specs.Versions.{IsRemainder}
use Rattle.ct_completion.specs.Remainders.{AreRemainders, points_of, IsGroupMove}
use Rattle.ct_box.specs.Box.{box_jobs_at}

-- the group moves of their remainders, in order
pub record AreBrought (i : Problem) (top : List ℕ) (ms : List Binomial) (d : ℕ) (new : List Binomial) : Type 0 where
  pub remainders : List (Option (List ℕ × List ℕ))
  pub are : AreRemainders i ms (box_jobs_at i top ms d) remainders
  pub exact : (m : Binomial) → Contains new m ↔ IsGroupMove i (points_of remainders) m
  pub ordered : AllPairs (λ m n. ComesBefore i m.head n.head) new

-- the points grow by what the job leaves, if it is within the bound
pub record IsLeftWithin (i : Problem) (ms : List Binomial) (top : List ℕ) (j : Job) (old new : List (List ℕ)) : Type 0 where
  pub remainder : Option (List ℕ × List ℕ)
  pub is : divides (job_degree_of i ms j) top ≡ true → IsRemainder i ms j remainder
  pub points : new ≡ old ++ cond (divides (job_degree_of i ms j) top) (points_of (remainder ∷ [])) []

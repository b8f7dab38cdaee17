-- Words on versions and their levels that the laws share.
use Rattle.std.specs.Prelude.{ℕ, ◌-◌, ◌≤◌, ◌<◌, ◌≡◌, ◌↔◌, List, map, length, Contains, AllPairs}
use Rattle.ct_instance.specs.Instance.{Problem}
use Rattle.ct_instance.specs.TestSet.{Binomial}
use Rattle.ct_instance.specs.Jobs.{all_jobs, job_grade_of, jobs_up_to}
use Rattle.ct_instance.specs.Versions.{Level, upto, Covers, level_of, version_list, IsVersion}

-- the grades of all jobs of a list of moves, in job order
abbrev pub job_grades : Problem → List Binomial → List ℕ
job_grades i ms = map (job_grade_of i ms) (all_jobs i ms)

-- version k covers g, and no version before it does
pub record IsFirstVersion (i : Problem) (g k : ℕ) : Type 0 where
  pub covered : Covers (level_of i k) g
  pub first : (j : ℕ) → j < k → Covers (level_of i j) g → ⊥

-- version k opens the grade f, and its list has at most the limit
pub record IsOpenedWithin (i : Problem) (limit f k : ℕ) : Type 0 where
  pub version : IsVersion i k
  pub some : 1 ≤ f
  pub level : level_of i k ≡ upto (f - 1)
  pub within : length (version_list i k) ≤ limit

-- these are the grades up to g of the jobs of a list of moves, each once, a smaller one first
pub record AreGradesOf (i : Problem) (ms : List Binomial) (g : ℕ) (grades : List ℕ) : Type 0 where
  pub rising : AllPairs (λ (d e : ℕ). d < e) grades
  pub each : (e : ℕ) → Contains grades e ↔ Contains (map (job_grade_of i ms) (jobs_up_to i ms g)) e

-- the level is that of a version whose list has at most the limit
pub record IsLevelWithin (i : Problem) (limit : ℕ) (level : Level) : Type 0 where
  pub number : ℕ
  pub version : IsVersion i number
  pub same : level ≡ level_of i number
  pub within : length (version_list i number) ≤ limit

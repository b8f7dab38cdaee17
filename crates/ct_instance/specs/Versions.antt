-- Versions: the test list grade by grade, with the level up to which it is known to be whole.
use Rattle.std.specs.Prelude.{ℕ, ◌+◌, ◌-◌, ◌≤◌, ◌<◌, ◌≡◌, Bool, true, false, nat_lt, min, Option, Some, None, List, [], ◌∷◌, map, length, zero, suc}
use Rattle.ct_vectors.specs.Vectors.{total}
use Rattle.ct_instance.specs.declared.jobs.Job.{Job}
use Rattle.ct_instance.specs.Instance.{Problem}
use Rattle.ct_instance.specs.TestSet.{Binomial, test_list}
use Rattle.ct_instance.specs.Walk.{IsWalkEnd}
use Rattle.ct_instance.specs.Jobs.{all_jobs, job_grade_of, first_end_of, second_end_of, IsCoprime}

-- how far a version is finished: up to a grade, or for every grade
pub data Level : Type 0 where
  upto : (grade : ℕ) → Level
  everything : Level

-- the level is at least g
abbrev pub Covers : Level → ℕ → Type 0
Covers (upto l) g = g ≤ l
Covers everything g = Unit {0}

-- the least of the numbers above d
abbrev pub least_above : ℕ → List ℕ → Option ℕ
least_above d [] = None
least_above d (g ∷ gs) = lower_above (nat_lt d g) g (least_above d gs)
  where
    lower_above : Bool → ℕ → Option ℕ → Option ℕ
    lower_above false g rest = rest
    lower_above true g None = Some g
    lower_above true g (Some h) = Some (min g h)

-- one less than the least of the numbers above d, and everything where there is none
abbrev pub level_before : ℕ → List ℕ → Level
level_before d gs = before (least_above d gs)
  where
    before : Option ℕ → Level
    before None = everything
    before (Some g) = upto (g - 1)

-- the level that opening the grade d reaches
unfoldable pub level_after : Problem → ℕ → Level
level_after i d = level_before d (map (job_grade_of i (test_list i d)) (all_jobs i (test_list i d)))

-- the level of version k: first the least column sum less 1, then what opening the next grade reaches
unfoldable pub level_of : Problem → ℕ → Level
level_of i zero = level_before 0 (map total i.columns)
level_of i (suc k) = next (level_of i k)
  where
    next : Level → Level
    next (upto l) = level_after i (l + 1)
    next everything = everything

-- the list of version k: first empty, then the test list of the opened grade
unfoldable pub version_list : Problem → ℕ → List Binomial
version_list i zero = []
version_list i (suc k) = opened (level_of i k)
  where
    opened : Level → List Binomial
    opened (upto l) = test_list i (l + 1)
    opened everything = []

-- there is a version k: each one before it has a next grade to open
abbrev pub IsVersion : Problem → ℕ → Type 0
IsVersion i zero = Unit {0}
IsVersion i (suc k) = (l : ℕ) × (level_of i k ≡ upto l)

-- what a job leaves against a list: nothing for a coprime pair, or where the walks of both ends end at one point,
-- and else the two ends of the walks
pub data IsRemainder (i : Problem) (ms : List Binomial) (j : Job) : Option (List ℕ × List ℕ) → Type 0 where
  coprime : IsCoprime ms j → IsRemainder i ms j None
  meet : (p : List ℕ) → (IsCoprime ms j → ⊥) → IsWalkEnd ms (first_end_of i ms j) p → IsWalkEnd ms (second_end_of i ms j) p →
      IsRemainder i ms j None
  differ : (p q : List ℕ) → (IsCoprime ms j → ⊥) → IsWalkEnd ms (first_end_of i ms j) p → IsWalkEnd ms (second_end_of i ms j) q →
      (p ≡ q → ⊥) → IsRemainder i ms j (Some (p, q))

-- g is the least grade whose test list has more moves than the limit
pub record IsFullGrade (i : Problem) (limit g : ℕ) : Type 0 where
  pub more : limit < length (test_list i g)
  pub first : (h : ℕ) → h < g → length (test_list i h) ≤ limit

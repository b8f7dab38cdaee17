-- The ends of a job are points within the grade of a walk, and what their walks leave is the remainder of the job.
use Rattle.std.proofs.Common.{◌≡◌, ℕ, ◌≤◌, Bool, true, false, true≢false, not, List, refl, sym, subst}
use Rattle.std.specs.Bool.{OnFalse}
use Rattle.ct_vectors.specs.declared.limits.TheConstants.{GRADE_LIMIT}
use Rattle.ct_vectors.specs.Vectors.{total}
use Rattle.ct_instance.specs.declared.jobs.Job.{Job}
use Rattle.ct_instance.specs.Instance.{Problem, IsPoint, grade_of}
use Rattle.ct_instance.specs.Fiber.{IsInFiber}
use Rattle.ct_instance.specs.TestSet.{Binomial}
use Rattle.ct_instance.specs.Walk.{IsWalkEnd}
use Rattle.ct_instance.specs.Versions.{IsRemainder, meet, differ}
use Rattle.ct_instance.specs.Jobs.{IsJob, IsCoprime, job_degree_of, job_grade_of, first_end_of, second_end_of}
use Rattle.ct_walk.specs.Moves.{MoveList, IsMoveList, HaveOneEnd}
use Rattle.ct_walk.proofs.Ends.{ends_in_fiber}
use Rattle.ct_walk.proofs.MoveFacts.{are_moves}
use Rattle.ct_jobs.specs.Remainders.{both_if}

pub record IsStart (l : MoveList) (p : List ℕ) : Type 0 where
  pub point : IsPoint l.instance p
  pub grade : grade_of l.instance.columns p ≤ GRADE_LIMIT

from_fiber : (l : MoveList) (b p : List ℕ) → total b ≤ GRADE_LIMIT → IsInFiber l.instance b p → IsStart l p
from_fiber l b p most f = record {
  point = f.point;
  grade = subst (λ (d : List ℕ). total d ≤ GRADE_LIMIT) (sym f.degree) most;
}

pub first_starts : (l : MoveList) → IsMoveList l → (j : Job) → IsJob l.instance l.moves j → job_grade_of l.instance l.moves j ≤ GRADE_LIMIT →
    (p : List ℕ) → p ≡ first_end_of l.instance l.moves j → IsStart l p
first_starts l h j job most p e =
    subst (IsStart l) (sym e)
    (from_fiber l (job_degree_of l.instance l.moves j) (first_end_of l.instance l.moves j) most (ends_in_fiber l.instance h.instance l.moves (are_moves l h) j job).0)

pub second_starts : (l : MoveList) → IsMoveList l → (j : Job) → IsJob l.instance l.moves j → job_grade_of l.instance l.moves j ≤ GRADE_LIMIT →
    (p : List ℕ) → p ≡ second_end_of l.instance l.moves j → IsStart l p
second_starts l h j job most p e =
    subst (IsStart l) (sym e)
    (from_fiber l (job_degree_of l.instance l.moves j) (second_end_of l.instance l.moves j) most (ends_in_fiber l.instance h.instance l.moves (are_moves l h) j job).1)

-- ---- what is left

-- the walks of both ends have one end, or are walked to two
pub left_by_ends : (i : Problem) (ms : List Binomial) (j : Job) (p q x y : List ℕ) (b : Bool) → x ≡ first_end_of i ms j → y ≡ second_end_of i ms j → (IsCoprime ms j → ⊥) →
    (b ≡ true → HaveOneEnd ms x y) → (HaveOneEnd ms x y → b ≡ true) → OnFalse b (IsWalkEnd ms x p × IsWalkEnd ms y q) → IsRemainder i ms j (both_if (not b) p q)
left_by_ends i ms j p q x y true e f apart one two w =
    let h = one refl in
    meet h.end apart (subst (λ (z : List ℕ). IsWalkEnd ms z h.end) e h.first) (subst (λ (z : List ℕ). IsWalkEnd ms z h.end) f h.second)
left_by_ends i ms j p q x y false e f apart one two w =
    differ p q apart (subst (λ (z : List ℕ). IsWalkEnd ms z p) e w.0) (subst (λ (z : List ℕ). IsWalkEnd ms z q) f w.1)
    (λ same. true≢false (sym (two (record { end = p; first = w.0; second = subst (IsWalkEnd ms y) (sym same) w.1 }))))

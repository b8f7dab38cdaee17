-- The walk by a version's list of a point that the version covers is the walk by the test list of the point's grade.
use Rattle.std.proofs.Common.{ℕ, ◌≤◌, ◌≡◌, ◌↔◌, List, sym, subst, arith}
use Rattle.ct_instance.specs.Instance.{Problem, IsInstance, IsPoint, degree_of, grade_of}
use Rattle.ct_instance.specs.Fiber.{least_of}
use Rattle.ct_instance.specs.TestSet.{test_list, IsTestList}
use Rattle.ct_instance.specs.Walk.{IsWalk, IsWalkEnd}
use Rattle.ct_instance.specs.Versions.{Covers, level_of, version_list, IsVersion}
use Rattle.ct_instance.proofs.Fiber.{is_least_of}
use Rattle.ct_instance.proofs.TestList.{is_test_list}
use Rattle.ct_walk.proofs.WalkFacts.{walks_stay, walk_least}
use Rattle.ct_levels.proofs.Lists.{later_list}

pub version_walk : (i : Problem) → IsInstance i → (k : ℕ) → IsVersion i k → (p : List ℕ) → IsPoint i p → Covers (level_of i k) (grade_of i.columns p) →
    (steps : List (ℕ × ℕ)) (q : List ℕ) → IsWalk (version_list i k) p steps q ↔ IsWalk (test_list i (grade_of i.columns p)) p steps q
version_walk i s k v p e c steps q =
    let g : ℕ = grade_of i.columns p in
    let r = later_list i s k g v c in
    walks_stay i s g r.0 r.1 (test_list i g) (version_list i k) (is_test_list i s g) (subst (IsTestList i r.0) (sym r.2) (is_test_list i s r.0)) p e
    (let l : g ≤ g = omega arith in l) steps q

-- and it ends at the least point of its fiber
pub version_walk_end : (i : Problem) → IsInstance i → (k : ℕ) → IsVersion i k → (p : List ℕ) → IsPoint i p → Covers (level_of i k) (grade_of i.columns p) →
    (q : List ℕ) → IsWalkEnd (version_list i k) p q → q ≡ least_of i (degree_of i.columns p)
version_walk_end i s k v p e c q w =
    let r = later_list i s k (grade_of i.columns p) v c in
    is_least_of i s (degree_of i.columns p) q
    (walk_least i s r.0 (version_list i k) (subst (IsTestList i r.0) (sym r.2) (is_test_list i s r.0)) p q e r.1 w)

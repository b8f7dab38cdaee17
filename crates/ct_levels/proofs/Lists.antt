-- A version's list is the test list from the grade that was opened last up to its level.
use Rattle.std.proofs.Common.{ℕ, ◌+◌, ◌≤◌, ◌<◌, ◌≡◌, ⊎_elim, Option, Some, None, List, ◌++◌, length, Contains, refl, sym, subst, ◌∙◌, arith, zero, suc}
use Rattle.std.proofs.lemmas.Bool.{cases_lt}
use Rattle.ct_instance.specs.Instance.{Problem, IsInstance}
use Rattle.ct_instance.specs.TestSet.{Binomial, test_list, IsTestList}
use Rattle.ct_instance.specs.Jobs.{all_jobs, job_grade_of, jobs_at}
use Rattle.ct_instance.specs.Versions.{Covers, least_above, level_of, version_list, IsVersion}
use Rattle.ct_instance.specs.Reach.{opened_grade, last_opened}
use Rattle.ct_instance.proofs.Lists.{Contains-map, map_gives}
use Rattle.ct_instance.proofs.TestList.{is_test_list, test_lists, test_lists_grow}
use Rattle.ct_instance.proofs.JobsList.{jobs_listed, jobs_of_grade_listed}
use Rattle.ct_instance.proofs.Above.{least_above_some, least_above_none, level_under}
use Rattle.ct_walk.proofs.Openings.{NoJobBetween, opening, empty_at_zero}
use Rattle.ct_levels.specs.Levels.{job_grades}
use Rattle.ct_levels.proofs.Levels.{opened_is_next, list_zero, list_next, last_opened_next, level_is, covers_opened}

-- the list of a version is the test list of the grade that was opened last
pub list_of_opened : (i : Problem) → IsInstance i → (k : ℕ) → IsVersion i k → IsTestList i (last_opened i k) (version_list i k)
list_of_opened i s zero v = subst (IsTestList i 0) (sym (list_zero i)) (empty_at_zero i s)
list_of_opened i s (suc k) v =
    subst (λ d. IsTestList i d (version_list i (suc k))) (sym (last_opened_next i k v.0 v.1))
    (subst (IsTestList i (v.0 + 1)) (sym (list_next i k v.0 v.1)) (is_test_list i s (v.0 + 1)))

-- no job of it has a grade above that and up to its level
none_between : (i : Problem) (k g : ℕ) → IsVersion i k → Covers (level_of i k) g → NoJobBetween i (version_list i k) (last_opened i k) g
none_between i k g v c j b l u =
    none (least_above (last_opened i k) (job_grades i (version_list i k))) refl (subst (λ x. Covers x g) (level_is i k v) c)
  where
    listed : Contains (job_grades i (version_list i k)) (job_grade_of i (version_list i k) j)
    listed = Contains-map (job_grade_of i (version_list i k)) (all_jobs i (version_list i k)) j (((jobs_listed i (version_list i k)).0 j).1 b)

    none : (o : Option ℕ) → least_above (last_opened i k) (job_grades i (version_list i k)) ≡ o → Covers (level_under o) g → ⊥
    none None e w = absurd (omega (arith, least_above_none (last_opened i k) (job_grades i (version_list i k)) e (job_grade_of i (version_list i k) j) listed, l))
    none (Some x) e w =
        let a = least_above_some (last_opened i k) (job_grades i (version_list i k)) x e in
        let above : last_opened i k < x = a.0 in
        let least : x ≤ job_grade_of i (version_list i k) j = a.2 (job_grade_of i (version_list i k) j) listed l in
        absurd (omega (arith, l, u, w))

pub is_list_of : (i : Problem) → IsInstance i → (k g : ℕ) → IsVersion i k → last_opened i k ≤ g → Covers (level_of i k) g → IsTestList i g (version_list i k)
is_list_of i s k g v l c = opening i s (last_opened i k) g (version_list i k) l (list_of_opened i s k v) (none_between i k g v c)

pub version_list_is : (i : Problem) → IsInstance i → (k g : ℕ) → IsVersion i k → last_opened i k ≤ g → Covers (level_of i k) g → version_list i k ≡ test_list i g
version_list_is i s k g v l c = (test_lists i s g (version_list i k)).1 (is_list_of i s k g v l c)

-- for a grade that a version covers, its list is the test list of some later grade
pub later_list : (i : Problem) → IsInstance i → (k g : ℕ) → IsVersion i k → Covers (level_of i k) g → (h : ℕ) × (g ≤ h) × (version_list i k ≡ test_list i h)
later_list i s k g v c =
    ⊎_elim (λ l. (last_opened i k, omega arith, version_list_is i s k (last_opened i k) v (omega arith) (covers_opened i k v)))
    (λ l. (g, omega arith, version_list_is i s k g v l c)) (cases_lt g (last_opened i k))

-- so it begins with the test list of that grade
pub list_begins : (i : Problem) → IsInstance i → (k g : ℕ) → IsVersion i k → Covers (level_of i k) g → (more : List Binomial) × (version_list i k ≡ test_list i g ++ more)
list_begins i s k g v c =
    let r = later_list i s k g v c in
    let t = test_lists_grow i g r.0 r.1 in
    (t.0, r.2 ∙ t.1)

-- an opened grade has a job
pub opened_has_job : (i : Problem) (k d : ℕ) → IsVersion i k → opened_grade i k ≡ Some d → 1 ≤ length (jobs_at i (version_list i k) d)
opened_has_job i k d v e =
    let ms = version_list i k in
    let a = least_above_some (last_opened i k) (job_grades i ms) d (sym (opened_is_next i k v) ∙ e) in
    let t = map_gives (job_grade_of i ms) (all_jobs i ms) d a.1 in
    let c = ((jobs_of_grade_listed i ms d).0 t.0).1 (((jobs_listed i ms).0 t.0).0 t.1, t.2) in
    omega (arith, c.1)

-- What bounds the grades of jobs, and so levels.
use Rattle.std.proofs.Common.{ℕ, ◌+◌, ◌*◌, ◌≤◌, ◌<◌, ◌≡◌, Some, List, [], length, get_or, sym, subst, ◌∙◌, arith, zero, suc}
use Rattle.std.proofs.lemmas.List.Elements.{All-get_or}
use Rattle.ct_vectors.specs.declared.limits.TheConstants.{ROW_LIMIT, ENTRY_LIMIT, GRADE_LIMIT, JOB_GRADE_LIMIT}
use Rattle.ct_vectors.specs.Vectors.{total, lcm}
use Rattle.ct_instance.specs.declared.jobs.Job.{Job}
use Rattle.ct_instance.specs.declared.jobs.Job.TheVariants.{Generator, Pair}
use Rattle.ct_instance.specs.Instance.{Problem, IsInstance, IsColumn, column_count, grade_of}
use Rattle.ct_instance.specs.TestSet.{Binomial, IsTestList}
use Rattle.ct_instance.specs.Jobs.{IsJob, all_jobs, job_grade_of, the_move}
use Rattle.ct_instance.specs.Versions.{version_list, IsVersion}
use Rattle.ct_instance.specs.Reach.{opened_grade, last_opened}
use Rattle.ct_instance.proofs.Lists.{map_gives}
use Rattle.ct_instance.proofs.Degree.{grade-lcm}
use Rattle.ct_vectors.proofs.Sums.{total-limit}
use Rattle.ct_instance.proofs.JobsList.{jobs_listed}
use Rattle.ct_instance.proofs.Above.{least_above_some}
use Rattle.ct_walk.proofs.Ends.{the_column_is}
use Rattle.ct_levels.specs.Levels.{job_grades}
use Rattle.ct_levels.proofs.Numbered.{the_test_move}
use Rattle.ct_levels.proofs.Levels.{opened_is_next}
use Rattle.ct_levels.proofs.Lists.{list_of_opened}

-- a column's sum is within the limit of grades
column_small : (i : Problem) → IsInstance i → (j : ℕ) → j < column_count i → total (get_or i.columns j []) ≤ ROW_LIMIT * ENTRY_LIMIT
column_small i s j l =
    let c = All-get_or (IsColumn i.rows) i.columns j [] l s.is_column in
    let wide : length (get_or i.columns j []) ≤ ROW_LIMIT = omega (arith, c.entries, s.row_limit) in
    let sum : total (get_or i.columns j []) ≤ length (get_or i.columns j []) * ENTRY_LIMIT = total-limit ENTRY_LIMIT (get_or i.columns j []) c.limit in
    omega arith

-- a job of a test list within the limit of grades is within the limit of jobs
pub job_within : (i : Problem) → IsInstance i → (g : ℕ) (ms : List Binomial) → IsTestList i g ms → g ≤ GRADE_LIMIT → (j : Job) → IsJob i ms j → job_grade_of i ms j ≤ JOB_GRADE_LIMIT
job_within i s g ms t l (Generator zero) b = absurd (omega (arith, b.0))
job_within i s g ms t l (Generator (suc j)) b =
    let small : total (get_or i.columns j []) ≤ ROW_LIMIT * ENTRY_LIMIT = column_small i s j (omega (arith, b.1)) in
    subst (λ c. total c ≤ JOB_GRADE_LIMIT) (sym (the_column_is i j)) (omega arith)
job_within i s g ms t l (Pair a c) b =
    let first : 1 ≤ a = b.0 in
    let between : a < c = b.1 in
    let last : c ≤ length ms = b.2 in
    let m = the_test_move i g ms t a first (omega arith) in
    let n = the_test_move i g ms t c (omega arith) last in
    let sum : grade_of i.columns (lcm (the_move ms a).head (the_move ms c).head) ≤ grade_of i.columns (the_move ms a).head + grade_of i.columns (the_move ms c).head =
    grade-lcm i.columns (the_move ms a).head (the_move ms c).head (((m.0).head).point ∙ sym ((n.0).head).point) in
    omega (arith, m.1, n.1)

-- where the grade that was opened last is within the limit of grades, the next is within the limit of jobs
pub opened_within : (i : Problem) → IsInstance i → (k d : ℕ) → IsVersion i k → last_opened i k ≤ GRADE_LIMIT → opened_grade i k ≡ Some d → d ≤ JOB_GRADE_LIMIT
opened_within i s k d v l e =
    let ms = version_list i k in
    let a = least_above_some (last_opened i k) (job_grades i ms) d (sym (opened_is_next i k v) ∙ e) in
    let t = map_gives (job_grade_of i ms) (all_jobs i ms) d a.1 in
    subst (λ g. g ≤ JOB_GRADE_LIMIT) t.2
    (job_within i s (last_opened i k) ms (list_of_opened i s k v) l t.0 (((jobs_listed i ms).0 t.0).0 t.1))

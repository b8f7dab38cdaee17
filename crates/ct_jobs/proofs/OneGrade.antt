-- The jobs of one grade among all jobs of a list of moves.
use Rattle.std.proofs.Common.{ℕ, ◌+◌, ◌≡◌, Bool, true, false, cond, nat_eq, List, [], ◌∷◌, map, filter, IsPermutation, sum_by, refl, sym, ap, ap₂, ◌∙◌, arith}
use Rattle.std.proofs.lemmas.List.Sums.{sum_by-cons}
use Rattle.std.proofs.lemmas.List.Sorted.{sum_by-IsPermutation}
use Rattle.ct_instance.specs.declared.jobs.Job.{Job}
use Rattle.ct_instance.specs.Instance.{Problem}
use Rattle.ct_instance.specs.TestSet.{Binomial}
use Rattle.ct_instance.specs.Jobs.{job_grade_of, all_jobs, jobs_at}
use Rattle.ct_instance.proofs.JobsList.{jobs_of_grade_listed}
use Rattle.ct_jobs.specs.declared.graded.GradedJob.{GradedJob}
use Rattle.ct_jobs.specs.GradedJobs.{with_grade, graded_jobs, AreJobsOf, of_grade, IsInJobOrder}
use Rattle.ct_jobs.proofs.JobOrder.{HaveSame, order_is_one}

-- a sum over the jobs of one grade, over all jobs
sum_by-of_grade : (g : ℕ) (f : Job → ℕ) (js : List GradedJob) → sum_by f (of_grade g js) ≡ sum_by (λ (j : GradedJob). cond (nat_eq j.grade g) (f j.job) 0) js
sum_by-of_grade g f [] = refl
sum_by-of_grade g f (j ∷ js) = go (nat_eq j.grade g) refl (sum_by-of_grade g f js)
  where
    go : (b : Bool) → nat_eq j.grade g ≡ b → sum_by f (of_grade g js) ≡ sum_by (λ (j : GradedJob). cond (nat_eq j.grade g) (f j.job) 0) js →
        sum_by f (of_grade g (j ∷ js)) ≡ sum_by (λ (j : GradedJob). cond (nat_eq j.grade g) (f j.job) 0) (j ∷ js)
    go true e rest =
        ap (λ b. sum_by f (map (λ (j : GradedJob). j.job) (cond b (j ∷ filter (λ (j : GradedJob). nat_eq j.grade g) js) (filter (λ (j : GradedJob). nat_eq j.grade g) js)))) e ∙
        sum_by-cons f j.job (of_grade g js) ∙ ap₂ ◌+◌ (sym (ap (λ b. cond b (f j.job) 0) e)) rest ∙
        sym (sum_by-cons (λ (j : GradedJob). cond (nat_eq j.grade g) (f j.job) 0) j js)
    go false e rest =
        let none : cond (nat_eq j.grade g) (f j.job) 0 ≡ 0 = ap (λ b. cond b (f j.job) 0) e in
        ap (λ b. sum_by f (map (λ (j : GradedJob). j.job) (cond b (j ∷ filter (λ (j : GradedJob). nat_eq j.grade g) js) (filter (λ (j : GradedJob). nat_eq j.grade g) js)))) e ∙
        rest ∙ (let c = sum_by-cons (λ (j : GradedJob). cond (nat_eq j.grade g) (f j.job) 0) j js in omega (arith, c, none))

of_grade-graded : (i : Problem) (ms : List Binomial) (g : ℕ) (js : List Job) → of_grade g (map (with_grade i ms) js) ≡ filter (λ j. nat_eq (job_grade_of i ms j) g) js
of_grade-graded i ms g [] = refl
of_grade-graded i ms g (j ∷ js) = go (nat_eq (job_grade_of i ms j) g) (of_grade-graded i ms g js)
  where
    go : (b : Bool) → of_grade g (map (with_grade i ms) js) ≡ filter (λ j. nat_eq (job_grade_of i ms j) g) js →
        map (λ (k : GradedJob). k.job) (cond b (with_grade i ms j ∷ filter (λ (k : GradedJob). nat_eq k.grade g) (map (with_grade i ms) js)) (filter (λ (k : GradedJob). nat_eq k.grade g) (map (with_grade i ms) js))) ≡
        cond b (j ∷ filter (λ j. nat_eq (job_grade_of i ms j) g) js) (filter (λ j. nat_eq (job_grade_of i ms j) g) js)
    go true rest = ap (λ l. j ∷ l) rest
    go false rest = rest

pub of_grade_all : (i : Problem) (ms : List Binomial) (g : ℕ) → of_grade g (graded_jobs i ms) ≡ jobs_at i ms g
unfolding jobs_at
of_grade_all i ms g = of_grade-graded i ms g (all_jobs i ms)

-- the jobs of one grade in job order are those that are listed
pub jobs_are_listed : (i : Problem) (ms : List Binomial) (g : ℕ) (all : List GradedJob) (js : List Job) → AreJobsOf i ms all → IsPermutation (of_grade g all) js → IsInJobOrder js → js ≡ jobs_at i ms g
jobs_are_listed i ms g all js a p o = order_is_one js (jobs_at i ms g) o (jobs_of_grade_listed i ms g).1 same
  where
    same : HaveSame js (jobs_at i ms g)
    same f =
        sum_by-IsPermutation f (of_grade g all) js p ∙ sum_by-of_grade g f all ∙
        sum_by-IsPermutation (λ (j : GradedJob). cond (nat_eq j.grade g) (f j.job) 0) (graded_jobs i ms) all a ∙
        sym (sum_by-of_grade g f (graded_jobs i ms)) ∙ ap (sum_by f) (of_grade_all i ms g)

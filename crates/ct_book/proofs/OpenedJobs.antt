-- The jobs of the opened grade: each is of that grade, and stands once.
use Rattle.std.proofs.Common.{◌≡◌, ℕ, ◌<◌, Option, Some, None, List, [], length, get_or, AllPairs, Contains, ⊎_elim, sym, subst, subst₂, refl, arith}
use Rattle.std.proofs.lemmas.Bool.{cases_order}
use Rattle.ct_instance.specs.declared.jobs.Job.{Job}
use Rattle.ct_instance.specs.declared.jobs.Job.TheVariants.{Generator, Pair}
use Rattle.ct_instance.specs.Instance.{Problem}
use Rattle.ct_instance.specs.Jobs.{IsJob, JobComesBefore, job_grade_of}
use Rattle.ct_instance.specs.Versions.{version_list}
use Rattle.ct_instance.specs.Reach.{opened_grade}
use Rattle.ct_instance.proofs.JobsList.{jobs_of_grade_listed}
use Rattle.ct_instance.proofs.Lists.{Contains-nil}
use Rattle.ct_completion.specs.Machine.{opened_jobs}
use Rattle.ct_completion.proofs.Remainders.{opened_is}
use Rattle.ct_book.specs.Openings.{jobs_by}

pub opened_none : (i : Problem) (k : ℕ) → opened_grade i k ≡ None → opened_jobs i k ≡ []
unfolding opened_jobs
opened_none i k e = rw e refl

opened_by : (i : Problem) (k : ℕ) (o : Option ℕ) → opened_grade i k ≡ o → opened_jobs i k ≡ jobs_by i (version_list i k) o
opened_by i k None e = opened_none i k e
opened_by i k (Some d) e = opened_is i k d e

-- they are the jobs of that grade by the version's list
pub opened_jobs_by : (i : Problem) (k : ℕ) → opened_jobs i k ≡ jobs_by i (version_list i k) (opened_grade i k)
opened_jobs_by i k = opened_by i k (opened_grade i k) refl

-- what a job of the opened grade is
pub record IsOpened (i : Problem) (k : ℕ) (j : Job) : Type 0 where
  pub grade : ℕ
  pub opened : opened_grade i k ≡ Some grade
  pub job : IsJob i (version_list i k) j
  pub same : job_grade_of i (version_list i k) j ≡ grade

opened_from : (i : Problem) (k : ℕ) (j : Job) (o : Option ℕ) → opened_grade i k ≡ o → Contains (opened_jobs i k) j → IsOpened i k j
opened_from i k j None e c = absurd (Contains-nil j (subst (λ (js : List Job). Contains js j) (opened_none i k e) c))
opened_from i k j (Some d) e c =
    let r = ((jobs_of_grade_listed i (version_list i k) d).0 j).0 (subst (λ (js : List Job). Contains js j) (opened_is i k d e) c) in
    record { grade = d; opened = e; job = r.0; same = r.1 }

pub job_opened : (i : Problem) (k : ℕ) (j : Job) → Contains (opened_jobs i k) j → IsOpened i k j
job_opened i k j c = opened_from i k j (opened_grade i k) refl c

-- a job doesn't come before itself
pub not_before_itself : (j : Job) → JobComesBefore j j → ⊥
not_before_itself (Generator j) h = omega arith
not_before_itself (Pair a b) h = ⊎_elim (λ (l : a < a). omega arith) (λ (l : (a ≡ a) × (b < b)). let m : b < b = l.1 in omega arith) h

in_order : (i : Problem) (k : ℕ) (o : Option ℕ) → opened_grade i k ≡ o → AllPairs JobComesBefore (opened_jobs i k)
in_order i k None e = subst (AllPairs JobComesBefore) (sym (opened_none i k e)) (λ p r d a b. absurd (let l : r < 0 = b in omega arith))
in_order i k (Some d) e = subst (AllPairs JobComesBefore) (sym (opened_is i k d e)) (jobs_of_grade_listed i (version_list i k) d).1

-- a job stands at one place
pub one_place : (i : Problem) (k p r : ℕ) (j : Job) → p < length (opened_jobs i k) → r < length (opened_jobs i k) →
    get_or (opened_jobs i k) p j ≡ j → get_or (opened_jobs i k) r j ≡ j → p ≡ r
one_place i k p r j a b e f =
    ⊎_elim (λ same. same) (λ o. ⊎_elim (λ l. absurd (apart p r b e f l)) (λ l. absurd (apart r p a f e l)) o) (cases_order p r)
  where
    apart : (p r : ℕ) → r < length (opened_jobs i k) → get_or (opened_jobs i k) p j ≡ j → get_or (opened_jobs i k) r j ≡ j → p < r → ⊥
    apart p r b e f l =
        let before : JobComesBefore (get_or (opened_jobs i k) p j) (get_or (opened_jobs i k) r j) = in_order i k (opened_grade i k) refl p r j l b in
        not_before_itself j (subst₂ JobComesBefore e f before)

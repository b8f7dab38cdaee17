-- The check of the entries of a ledger, one by one.
use Rattle.std.proofs.Common.{ℕ, All, Contains, ◌≤◌, ◌<◌, ◌≡◌, true, false, not, cond, Option, Some, List, [], ◌∷◌, map, length, drop, get_or, refl, sym, subst, ap, ap₂, ◌∙◌, arith, zero, suc}
use Rattle.std.proofs.lemmas.Bool.{cond-true, not-false}
use Rattle.std.proofs.lemmas.List.{drop_more}
use Rattle.std.proofs.lemmas.List.Elements.{Contains-get_or}
use Rattle.ct_vectors.specs.Vectors.{total}
use Rattle.ct_vectors.specs.declared.limits.TheConstants.{GRADE_LIMIT}
use Rattle.ct_instance.specs.declared.jobs.Job.{Job}
use Rattle.ct_instance.specs.contracts.jobs.JobPartialEq.TheImpl as derived
use Rattle.ct_instance.specs.Instance.{Problem, IsPoint, grade_of}
use Rattle.ct_instance.specs.TestSet.{Binomial}
use Rattle.ct_instance.specs.Jobs.{is_same_job, first_end_of, second_end_of, jobs_up_to}
use Rattle.ct_instance.proofs.Lists.{Contains-map}
use Rattle.ct_instance.proofs.SameJobs.{same_job_test, derived_same_job}
use Rattle.ct_instance.proofs.JobsList.{jobs_up_to_listed}
use Rattle.ct_walk.specs.Moves.{MoveList, IsMoveList}
use Rattle.ct_walk.proofs.MoveFacts.{are_moves}
use Rattle.ct_walk.proofs.Ends.{ends_in_fiber}
use Rattle.ct_jobs.specs.declared.graded.GradedJob.{GradedJob}
use Rattle.ct_ledger.specs.declared.entries.LedgerEntry.{LedgerEntry}
use Rattle.ct_ledger.specs.declared.entries.LedgerEntry.TheVariants as entry
use Rattle.ct_checker.specs.declared.verdicts.Reason.{Reason}
use Rattle.ct_checker.specs.declared.verdicts.Reason.TheVariants.{Entry, Coprime}
use Rattle.ct_checker.specs.Accepted.{job_of}
use Rattle.ct_checker.specs.Refusals.{is_coprime, end_of_steps, walks_reason, words_reason, entry_reason, refused_entry}
use Rattle.ct_checker.specs.Checking.{IsJobWithin}

-- ---- one entry

abbrev MayWalk : Problem → List ℕ → Type 0
MayWalk i p = IsPoint i p × (grade_of i.columns p ≤ GRADE_LIMIT)

-- the ends of a job that may be walked from
pub walked_from : (i : Problem) (l : MoveList) → IsMoveList l → l.instance ≡ i → (j : Job) → IsJobWithin i l.moves j →
    MayWalk l.instance (first_end_of i l.moves j) × MayWalk l.instance (second_end_of i l.moves j)
walked_from i l h e j w =
    let k : IsJobWithin l.instance l.moves j = subst (λ x. IsJobWithin x l.moves j) (sym e) w in
    let f = ends_in_fiber l.instance h.instance l.moves (are_moves l h) j k.job in
    let one : MayWalk l.instance (first_end_of l.instance l.moves j) = (f.0.point, subst (λ b. total b ≤ GRADE_LIMIT) (sym f.0.degree) k.grade) in
    let other : MayWalk l.instance (second_end_of l.instance l.moves j) = (f.1.point, subst (λ b. total b ≤ GRADE_LIMIT) (sym f.1.degree) k.grade) in
    subst (λ x. MayWalk l.instance (first_end_of x l.moves j) × MayWalk l.instance (second_end_of x l.moves j)) e (one, other)

-- what the derived comparison tells
pub same_from_ne : (j k l : Job) → false ≡ not ((derived.ghosts).eq j k) → k ≡ l → true ≡ is_same_job j l
same_from_ne j k l e f = sym (ap (is_same_job j) (sym f) ∙ sym (derived_same_job j k) ∙ not-false ((derived.ghosts).eq j k) (sym e))

-- what is wrong with walks of the job that is next
pub walks_wrong : (i : Problem) (ms : List Binomial) (j k : Job) (e : LedgerEntry) (first second : List (ℕ × ℕ)) → e ≡ entry.Walks k first second → true ≡ is_same_job j (job_of e) →
    entry_reason i ms j e ≡ cond (is_coprime ms j) (Some Coprime) (walks_reason (end_of_steps ms (first_end_of i ms j) first) (end_of_steps ms (second_end_of i ms j) second))
walks_wrong i ms j k e first second f t =
    cond-true (is_same_job j (job_of e)) (words_reason i ms e) (Some Entry) (sym t) ∙ ap (words_reason i ms) f ∙
    ap (λ x. words_reason i ms (entry.Walks x first second)) (sym ((same_job_test j k).0 (sym (t ∙ ap (λ x. is_same_job j (job_of x)) f))))

-- the jobs up to a grade within the limit may be walked from
pub jobs_within : (i : Problem) (ms : List Binomial) (g : ℕ) (js : List GradedJob) → map (λ j. j.job) js ≡ jobs_up_to i ms g → g ≤ GRADE_LIMIT → All (λ j. IsJobWithin i ms j.job) js
jobs_within i ms g js e l k d h =
    let c : Contains (jobs_up_to i ms g) (get_or js k d).job =
    subst (λ xs. Contains xs (get_or js k d).job) e (Contains-map (λ (j : GradedJob). j.job) js (get_or js k d) (Contains-get_or js k d h)) in
    let u = ((jobs_up_to_listed i ms g).0 (get_or js k d).job).0 c in
    record { job = u.0; grade = omega (arith, u.1) }

-- ---- one after the other

abbrev jobs_left : List GradedJob → ℕ → List Job
jobs_left js k = map (λ j. j.job) (drop k js)

drop_all : {X : Type 0} (xs : List X) (k : ℕ) → length xs ≤ k → drop k xs ≡ []
drop_all [] zero l = refl
drop_all [] (suc k) l = refl
drop_all (x ∷ xs) zero l = absurd (omega arith)
drop_all (x ∷ xs) (suc k) l = drop_all xs k (omega arith)

module _ (i : Problem) (ms : List Binomial) (js : List GradedJob) (es : List LedgerEntry) (n k : ℕ) where
  abbrev left : Option (ℕ × Reason)
  left = refused_entry i ms n (jobs_left js k) (drop k es)

  pub entry_beyond : (e : LedgerEntry) → length js ≤ k → k < length es → left ≡ Some (n, Entry)
  entry_beyond e l h = ap₂ (λ xs ys. refused_entry i ms n (map (λ j. j.job) xs) ys) (drop_all js k l) (drop_more es k e h)

  pub entry_missing : (d : GradedJob) → k < length js → length es ≤ k → left ≡ Some (n, Entry)
  entry_missing d l h = ap₂ (λ xs ys. refused_entry i ms n (map (λ j. j.job) xs) ys) (drop_more js k d l) (drop_all es k h)

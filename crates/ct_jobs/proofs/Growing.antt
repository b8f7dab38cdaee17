-- The jobs of a list of moves to which moves are added, and the next grade among all jobs.
use Rattle.std.proofs.Common.{ℕ, ◌+◌, ◌≤◌, ◌<◌, ◌≡◌, Bool, true, false, true≢false, not, nat_le, List, [], ◌∷◌, ◌++◌, map, filter, length, Contains, IsPermutation, refl, sym, ap, ap₂, subst, ◌∙◌, arith}
use Rattle.std.proofs.lemmas.Bool.{lt-leb, leb-false}
use Rattle.std.proofs.lemmas.List.{map-append}
use Rattle.std.proofs.lemmas.List.Sorted.{IsPermutation-filter_both, IsPermutation-map, IsPermutation-append_left, IsPermutation-trans, IsPermutation-sym, Contains-permutation}
use Rattle.ct_instance.specs.declared.jobs.Job.{Job}
use Rattle.ct_instance.specs.declared.jobs.Job.TheVariants.{Generator, Pair}
use Rattle.ct_instance.specs.Instance.{Problem}
use Rattle.ct_instance.specs.TestSet.{Binomial}
use Rattle.ct_instance.specs.Jobs.{IsJob, JobComesBefore, job_grade_of, all_jobs}
use Rattle.ct_instance.specs.Versions.{least_above}
use Rattle.ct_instance.proofs.Lists.{Contains-here, Contains-there, Contains-filter, filter_gives}
use Rattle.ct_instance.proofs.Ordered.{InOrder-filter, InOrder-unique}
use Rattle.ct_instance.proofs.Above.{least_above-same}
use Rattle.ct_instance.proofs.JobsList.{jobs_listed, jobs_in_order}
use Rattle.ct_walk.proofs.StrictJobs.{never_before_itself, before_chain}
use Rattle.ct_walk.proofs.Ends.{job_stays, grade_stays}
use Rattle.ct_jobs.specs.declared.graded.GradedJob.{GradedJob}
use Rattle.ct_jobs.specs.GradedJobs.{with_grade, graded_jobs, AreJobsOf, is_pair_from, graded_pairs_from, next_grade}

-- ---- the jobs of the shorter list

abbrev pub is_old : List Binomial → Job → Bool
is_old ms j = not (is_pair_from (length ms + 1) j)

not_not : (b : Bool) → b ≡ not (not b)
not_not true = refl
not_not false = refl

pub old_is_job : (i : Problem) (ms ns : List Binomial) (j : Job) → IsJob i (ms ++ ns) j → is_old ms j ≡ true → IsJob i ms j
old_is_job i ms ns (Generator j) h e = h
old_is_job i ms ns (Pair a b) h e = (h.0, h.1, last (nat_le (length ms + 1) b) refl e)
  where
    last : (t : Bool) → nat_le (length ms + 1) b ≡ t → not t ≡ true → b ≤ length ms
    last true f g = absurd (true≢false (sym g))
    last false f g = let l : b < length ms + 1 = leb-false (length ms + 1) b f in omega arith

job_is_old : (i : Problem) (ms ns : List Binomial) (j : Job) → IsJob i ms j → IsJob i (ms ++ ns) j × (is_old ms j ≡ true)
job_is_old i ms ns (Generator j) h = (h, refl)
job_is_old i ms ns (Pair a b) h =
    let l : b ≤ length ms = h.2 in (job_stays i ms ns (Pair a b) h, ap not (lt-leb (length ms + 1) b (omega arith)))

old_jobs : (i : Problem) (ms ns : List Binomial) → filter (is_old ms) (all_jobs i (ms ++ ns)) ≡ all_jobs i ms
old_jobs i ms ns =
    InOrder-unique JobComesBefore never_before_itself before_chain (filter (is_old ms) (all_jobs i (ms ++ ns))) (all_jobs i ms)
    (InOrder-filter JobComesBefore (is_old ms) (all_jobs i (ms ++ ns)) (jobs_in_order i (ms ++ ns))) (jobs_in_order i ms) there back
  where
    there : (j : Job) → Contains (filter (is_old ms) (all_jobs i (ms ++ ns))) j → Contains (all_jobs i ms) j
    there j c =
        let f = filter_gives (is_old ms) (all_jobs i (ms ++ ns)) j c in
        (((jobs_listed i ms).0 j).1) (old_is_job i ms ns j ((((jobs_listed i (ms ++ ns)).0 j).0) f.0) f.1)

    back : (j : Job) → Contains (all_jobs i ms) j → Contains (filter (is_old ms) (all_jobs i (ms ++ ns))) j
    back j c =
        let f = job_is_old i ms ns j ((((jobs_listed i ms).0 j).0) c) in
        Contains-filter (is_old ms) (all_jobs i (ms ++ ns)) j ((((jobs_listed i (ms ++ ns)).0 j).1) f.0) f.1

-- ---- their grades stay

map_same : {X Y : Type 0} (f g : X → Y) (xs : List X) → ((x : X) → Contains xs x → f x ≡ g x) → map f xs ≡ map g xs
map_same f g [] h = refl
map_same f g (x ∷ xs) h = ap₂ ◌∷◌ (h x (Contains-here x xs)) (map_same f g xs (λ y c. h y (Contains-there x xs y c)))

graded_stay : (i : Problem) (ms ns : List Binomial) → map (with_grade i (ms ++ ns)) (all_jobs i ms) ≡ graded_jobs i ms
graded_stay i ms ns =
    map_same (with_grade i (ms ++ ns)) (with_grade i ms) (all_jobs i ms)
    (λ j c. ap (λ g. record { grade = g; job = j }) (grade_stays i ms ns j ((((jobs_listed i ms).0 j).0) c)))

pub jobs_grow : (i : Problem) (ms ns : List Binomial) (js : List GradedJob) → AreJobsOf i ms js → AreJobsOf i (ms ++ ns) (js ++ graded_pairs_from i (ms ++ ns) (length ms + 1))
jobs_grow i ms ns js a =
    let all : List Job = all_jobs i (ms ++ ns) in
    let new : List GradedJob = graded_pairs_from i (ms ++ ns) (length ms + 1) in
    let split : IsPermutation (graded_jobs i (ms ++ ns)) (map (with_grade i (ms ++ ns)) (filter (is_old ms) all ++ filter (is_pair_from (length ms + 1)) all)) =
    IsPermutation-map (with_grade i (ms ++ ns)) all (filter (is_old ms) all ++ filter (is_pair_from (length ms + 1)) all)
    (IsPermutation-filter_both (is_old ms) (is_pair_from (length ms + 1)) (λ j. not_not (is_pair_from (length ms + 1) j)) all) in
    let parts : map (with_grade i (ms ++ ns)) (filter (is_old ms) all ++ filter (is_pair_from (length ms + 1)) all) ≡ graded_jobs i ms ++ new =
    map-append (with_grade i (ms ++ ns)) (filter (is_old ms) all) (filter (is_pair_from (length ms + 1)) all) ∙
    ap (λ l. l ++ new) (ap (map (with_grade i (ms ++ ns))) (old_jobs i ms ns) ∙ graded_stay i ms ns) in
    IsPermutation-trans (graded_jobs i (ms ++ ns)) (graded_jobs i ms ++ new) (js ++ new)
    (subst (IsPermutation (graded_jobs i (ms ++ ns))) parts split) (IsPermutation-append_left new (graded_jobs i ms) js a)

-- ---- the next grade

pub next_grade_of_all : (i : Problem) (ms : List Binomial) (js : List GradedJob) (d : ℕ) → AreJobsOf i ms js → next_grade d js ≡ least_above d (map (job_grade_of i ms) (all_jobs i ms))
next_grade_of_all i ms js d a =
    let grades : IsPermutation (map (λ (j : GradedJob). j.grade) (graded_jobs i ms)) (map (λ (j : GradedJob). j.grade) js) = IsPermutation-map (λ (j : GradedJob). j.grade) (graded_jobs i ms) js a in
    least_above-same d (map (λ (j : GradedJob). j.grade) js) (map (λ (j : GradedJob). j.grade) (graded_jobs i ms))
    (λ x c _. Contains-permutation (map (λ (j : GradedJob). j.grade) js) (map (λ (j : GradedJob). j.grade) (graded_jobs i ms)) x (IsPermutation-sym (map (λ (j : GradedJob). j.grade) (graded_jobs i ms)) (map (λ (j : GradedJob). j.grade) js) grades) c)
    (λ x c _. Contains-permutation (map (λ (j : GradedJob). j.grade) (graded_jobs i ms)) (map (λ (j : GradedJob). j.grade) js) x grades c) ∙
    ap (least_above d) (grades_of (all_jobs i ms))
  where
    grades_of : (l : List Job) → map (λ (j : GradedJob). j.grade) (map (with_grade i ms) l) ≡ map (job_grade_of i ms) l
    grades_of [] = refl
    grades_of (j ∷ l) = ap (λ r. job_grade_of i ms j ∷ r) (grades_of l)

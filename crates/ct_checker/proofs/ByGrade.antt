-- A list by grade is what each grade in turn has of it; and so jobs that are sorted by grade are the jobs up to a grade.
use Rattle.std.proofs.Common.{ℕ, ◌+◌, ◌≤◌, ◌<◌, ◌≡◌, ⊎_elim, Bool, true, false, not, ◌&&◌, nat_eq, nat_le, cond, List, [], ◌∷◌, ◌++◌, length, map, filter, flat_map, Contains, IsPermutation, Ordering, Less, Equal, Greater, refl, sym, subst, ap, ap₂, ◌∙◌, arith, zero, suc, eqb-true, eq-eqb, append-nil, append_assoc}
use Rattle.std.specs.List.Sorted.{IsNonDecreasingBy, IsStableByKey, ties}
use Rattle.std.specs.Ordering.{nat_cmp, is_lt}
use Rattle.std.specs.Cmp.{nat_cmp_is}
use Rattle.std.proofs.lemmas.Bool.{cases_lt, cond-true, cond-false, cond_both, leb-true, le-leb, false_from_ne_true, cases_Bool}
use Rattle.std.proofs.lemmas.List.{map-append}
use Rattle.std.proofs.lemmas.List.Elements.{filter_agree, filter-append}
use Rattle.std.proofs.lemmas.Grind.{flat_map-append}
use Rattle.std.proofs.lemmas.List.Sorted.{Contains-permutation, IsPermutation-sym}
use Rattle.ct_vectors.specs.Vectors.{up_to}
use Rattle.ct_vectors.proofs.Places.{le-up_to}
use Rattle.ct_instance.specs.declared.jobs.Job.{Job}
use Rattle.ct_instance.specs.declared.jobs.Job.TheVariants.{Generator, Pair}
use Rattle.ct_instance.specs.Instance.{Problem, column_count}
use Rattle.ct_instance.specs.TestSet.{Binomial}
use Rattle.ct_instance.specs.Jobs.{job_grade_of, numbers_after, all_jobs, jobs_at, jobs_up_to}
use Rattle.ct_instance.proofs.Lists.{Contains-here, Contains-there, filter_gives}
use Rattle.ct_instance.proofs.Ordered.{InOrder, InOrder-from_pairs}
use Rattle.ct_jobs.specs.declared.graded.GradedJob.{GradedJob}
use Rattle.ct_jobs.specs.GradedJobs.{with_grade}
use Rattle.ct_jobs.proofs.Rows.{numbers_after-push}
use Rattle.ct_checker.specs.JobList.{graded_up_to}

module _ {X : Type 0} (key : X → ℕ) where
  abbrev at : ℕ → List X → List X
  at g xs = filter (λ x. nat_eq (key x) g) xs

  abbrev up : ℕ → List X → List X
  up g xs = filter (λ x. nat_le (key x) g) xs

  abbrev Rises : List X → Type 0
  Rises xs = InOrder (λ x y. key x ≤ key y) xs

  none_up : (g : ℕ) (xs : List X) → ((x : X) → Contains xs x → g < key x) → up g xs ≡ []
  none_up g [] f = refl
  none_up g (x ∷ xs) f =
      cond-false (nat_le (key x) g) (x ∷ up g xs) (up g xs)
      (false_from_ne_true (nat_le (key x) g) (λ e. omega (arith, leb-true (key x) g e, f x (Contains-here x xs)))) ∙
      none_up g xs (λ y c. f y (Contains-there x xs y c))

  -- of a list that rises, those up to g + 1 are those up to g and then those at g + 1
  split_step : (g : ℕ) (x : X) (xs : List X) → Rises (x ∷ xs) → up (suc g) xs ≡ up g xs ++ at (suc g) xs → up (suc g) (x ∷ xs) ≡ up g (x ∷ xs) ++ at (suc g) (x ∷ xs)
  split_step g x xs r later = ⊎_elim below (λ l. ⊎_elim (here l) above (cases_lt (key x) (suc (suc g)))) (cases_lt (key x) (suc g))
    where
      three : (A B C : List X) → cond (nat_le (key x) (suc g)) (x ∷ up (suc g) xs) (up (suc g) xs) ≡ A → cond (nat_le (key x) g) (x ∷ up g xs) (up g xs) ≡ B →
          cond (nat_eq (key x) (suc g)) (x ∷ at (suc g) xs) (at (suc g) xs) ≡ C → A ≡ B ++ C → up (suc g) (x ∷ xs) ≡ up g (x ∷ xs) ++ at (suc g) (x ∷ xs)
      three A B C a b c e = a ∙ e ∙ sym (ap₂ ◌++◌ b c)

      not_at : (key x ≡ suc g → ⊥) → nat_eq (key x) (suc g) ≡ false
      not_at n = false_from_ne_true (nat_eq (key x) (suc g)) (λ e. n (eqb-true (key x) (suc g) e))

      not_up : (h : ℕ) → h < key x → nat_le (key x) h ≡ false
      not_up h l = false_from_ne_true (nat_le (key x) h) (λ e. omega (arith, leb-true (key x) h e))

      below : key x < suc g → up (suc g) (x ∷ xs) ≡ up g (x ∷ xs) ++ at (suc g) (x ∷ xs)
      below l =
          three (x ∷ up (suc g) xs) (x ∷ up g xs) (at (suc g) xs) (cond-true (nat_le (key x) (suc g)) (x ∷ up (suc g) xs) (up (suc g) xs) (le-leb (key x) (suc g) (omega arith)))
          (cond-true (nat_le (key x) g) (x ∷ up g xs) (up g xs) (le-leb (key x) g (omega arith)))
          (cond-false (nat_eq (key x) (suc g)) (x ∷ at (suc g) xs) (at (suc g) xs) (not_at (λ e. omega arith))) (ap (λ l. x ∷ l) later)

      here : suc g ≤ key x → key x < suc (suc g) → up (suc g) (x ∷ xs) ≡ up g (x ∷ xs) ++ at (suc g) (x ∷ xs)
      here l m =
          let none : up g xs ≡ [] = none_up g xs (λ y c. omega (arith, r.0 y c)) in
          three (x ∷ up (suc g) xs) (up g xs) (x ∷ at (suc g) xs) (cond-true (nat_le (key x) (suc g)) (x ∷ up (suc g) xs) (up (suc g) xs) (le-leb (key x) (suc g) (omega arith)))
          (cond-false (nat_le (key x) g) (x ∷ up g xs) (up g xs) (not_up g (omega arith)))
          (cond-true (nat_eq (key x) (suc g)) (x ∷ at (suc g) xs) (at (suc g) xs) (eq-eqb (key x) (suc g) (omega arith)))
          (ap (λ l. x ∷ l) (later ∙ ap (λ l. l ++ at (suc g) xs) none) ∙ sym (ap (λ l. l ++ x ∷ at (suc g) xs) none))

      above : suc (suc g) ≤ key x → up (suc g) (x ∷ xs) ≡ up g (x ∷ xs) ++ at (suc g) (x ∷ xs)
      above l =
          three (up (suc g) xs) (up g xs) (at (suc g) xs) (cond-false (nat_le (key x) (suc g)) (x ∷ up (suc g) xs) (up (suc g) xs) (not_up (suc g) (omega arith)))
          (cond-false (nat_le (key x) g) (x ∷ up g xs) (up g xs) (not_up g (omega arith)))
          (cond-false (nat_eq (key x) (suc g)) (x ∷ at (suc g) xs) (at (suc g) xs) (not_at (λ e. omega arith))) later

  split_up : (g : ℕ) (xs : List X) → Rises xs → up (suc g) xs ≡ up g xs ++ at (suc g) xs
  split_up g [] r = refl
  split_up g (x ∷ xs) r = split_step g x xs r (split_up g xs r.1)

  zero_agrees : (x : X) → nat_le (key x) 0 ≡ nat_eq (key x) 0
  zero_agrees x =
      ⊎_elim
      (λ l. false_from_ne_true (nat_le (key x) 0) (λ e. omega (arith, leb-true (key x) 0 e)) ∙ sym (false_from_ne_true (nat_eq (key x) 0) (λ e. omega (arith, eqb-true (key x) 0 e))))
      (λ l. le-leb (key x) 0 l ∙ sym (eq-eqb (key x) 0 (omega arith))) (cases_lt 0 (key x))

  by_grades : (g : ℕ) (xs : List X) → Rises xs → up g xs ≡ flat_map (λ h. at h xs) (up_to g)
  by_grades zero xs r = filter_agree (λ x. nat_le (key x) 0) (λ x. nat_eq (key x) 0) zero_agrees xs ∙ sym (append-nil (at 0 xs))
  by_grades (suc g) xs r =
      split_up g xs r ∙ ap₂ ◌++◌ (by_grades g xs r) (sym (append-nil (at (suc g) xs))) ∙
      sym (flat_map-append (λ h. at h xs) (up_to g) (suc g ∷ []))

  all_up : (g : ℕ) (xs : List X) → ((x : X) → Contains xs x → key x ≤ g) → up g xs ≡ xs
  all_up g [] f = refl
  all_up g (x ∷ xs) f =
      cond-true (nat_le (key x) g) (x ∷ up g xs) (up g xs) (le-leb (key x) g (f x (Contains-here x xs))) ∙
      ap (λ l. x ∷ l) (all_up g xs (λ y c. f y (Contains-there x xs y c)))

-- ---- sorted by grade

rises : (ys : List GradedJob) → IsNonDecreasingBy (λ j. j.grade) ys → InOrder (λ (x y : GradedJob). x.grade ≤ y.grade) ys
rises ys n = InOrder-from_pairs (λ (x y : GradedJob). x.grade ≤ y.grade) ys (λ i j d l k. n i j d (omega arith) k)

abbrev tie : Ordering → Ordering → Bool
tie o p = not (is_lt o) && not (is_lt p)

same_ties : (h : ℕ) (y : GradedJob) → nat_eq y.grade h ≡ ties (λ (a b : GradedJob). is_lt (nat_cmp a.grade b.grade)) (record { grade = h; job = Generator 0 }) y
same_ties h y = ⊎_elim less (λ l. ⊎_elim (greater l) (same l) (cases_lt y.grade h)) (cases_lt h y.grade)
  where
    apart : (y.grade ≡ h → ⊥) → nat_eq y.grade h ≡ false
    apart n = false_from_ne_true (nat_eq y.grade h) (λ e. n (eqb-true y.grade h e))

    less : h < y.grade → nat_eq y.grade h ≡ tie (nat_cmp h y.grade) (nat_cmp y.grade h)
    less l = apart (λ e. omega arith) ∙ ap₂ tie (nat_cmp_is h y.grade Less l) (nat_cmp_is y.grade h Greater l)

    greater : y.grade ≤ h → y.grade < h → nat_eq y.grade h ≡ tie (nat_cmp h y.grade) (nat_cmp y.grade h)
    greater m l = apart (λ e. omega arith) ∙ ap₂ tie (nat_cmp_is h y.grade Greater l) (nat_cmp_is y.grade h Less l)

    same : y.grade ≤ h → h ≤ y.grade → nat_eq y.grade h ≡ tie (nat_cmp h y.grade) (nat_cmp y.grade h)
    same l m = eq-eqb y.grade h (omega arith) ∙ ap₂ tie (nat_cmp_is h y.grade Equal (omega arith)) (nat_cmp_is y.grade h Equal (omega arith))

module _ (i : Problem) (ms : List Binomial) where
  abbrev job_alone : GradedJob → Job
  job_alone j = j.job

  at_grade_step : (h g : ℕ) → h ≤ g → (j : Job) (js : List Job) →
      map job_alone (at (λ (x : GradedJob). x.grade) h (graded_up_to i ms g js)) ≡ at (job_grade_of i ms) h js →
      map job_alone (at (λ (x : GradedJob). x.grade) h (graded_up_to i ms g (j ∷ js))) ≡ at (job_grade_of i ms) h (j ∷ js)
  at_grade_step h g l j js later = ⊎_elim here apart (cases_Bool (nat_eq d h))
    where
      d : ℕ
      d = job_grade_of i ms j

      rest : List GradedJob
      rest = graded_up_to i ms g js

      kept : List GradedJob → List GradedJob
      kept xs = at (λ (x : GradedJob). x.grade) h xs

      here : nat_eq d h ≡ true → map job_alone (kept (cond (nat_le d g) (with_grade i ms j ∷ rest) rest)) ≡ cond (nat_eq d h) (j ∷ at (job_grade_of i ms) h js) (at (job_grade_of i ms) h js)
      here e =
          ap (λ xs. map job_alone (kept xs)) (cond-true (nat_le d g) (with_grade i ms j ∷ rest) rest (le-leb d g (omega (arith, eqb-true d h e)))) ∙
          ap (map job_alone) (cond-true (nat_eq d h) (with_grade i ms j ∷ kept rest) (kept rest) e) ∙ ap (λ xs. j ∷ xs) later ∙
          sym (cond-true (nat_eq d h) (j ∷ at (job_grade_of i ms) h js) (at (job_grade_of i ms) h js) e)

      apart : nat_eq d h ≡ false → map job_alone (kept (cond (nat_le d g) (with_grade i ms j ∷ rest) rest)) ≡ cond (nat_eq d h) (j ∷ at (job_grade_of i ms) h js) (at (job_grade_of i ms) h js)
      apart e =
          cond_both (nat_le d g) (with_grade i ms j ∷ rest) rest (λ xs. map job_alone (kept xs) ≡ at (job_grade_of i ms) h js)
          (λ m. ap (map job_alone) (cond-false (nat_eq d h) (with_grade i ms j ∷ kept rest) (kept rest) e) ∙ later) (λ m. later) ∙
          sym (cond-false (nat_eq d h) (j ∷ at (job_grade_of i ms) h js) (at (job_grade_of i ms) h js) e)

  -- the jobs of one grade, of those that were listed up to a greater one
  at_grade : (h g : ℕ) → h ≤ g → (js : List Job) → map job_alone (at (λ (x : GradedJob). x.grade) h (graded_up_to i ms g js)) ≡ at (job_grade_of i ms) h js
  at_grade h g l [] = refl
  at_grade h g l (j ∷ js) = at_grade_step h g l j js (at_grade h g l js)

  grade_within : (g : ℕ) (js : List Job) (x : GradedJob) → Contains (graded_up_to i ms g js) x → x.grade ≤ g
  grade_within g js x c = leb-true x.grade g (filter_gives (λ (j : GradedJob). nat_le j.grade g) (map (with_grade i ms) js) x c).1

  -- the jobs of these grades, in a list with the same ties
  grade_by_grade : (g : ℕ) (xs : List GradedJob) → (hs : List ℕ) → ((h : ℕ) → Contains hs h → h ≤ g) →
      ((h : ℕ) → at (λ (x : GradedJob). x.grade) h xs ≡ at (λ (x : GradedJob). x.grade) h (graded_up_to i ms g (all_jobs i ms))) →
      map job_alone (flat_map (λ h. at (λ (x : GradedJob). x.grade) h xs) hs) ≡ flat_map (jobs_at i ms) hs
  unfolding jobs_at
  grade_by_grade g xs [] f s = refl
  grade_by_grade g xs (h ∷ hs) f s =
      map-append job_alone (at (λ (x : GradedJob). x.grade) h xs) (flat_map (λ k. at (λ (x : GradedJob). x.grade) k xs) hs) ∙
      ap₂ ◌++◌ (ap (map job_alone) (s h) ∙ at_grade h g (f h (Contains-here h hs)) (all_jobs i ms)) (grade_by_grade g xs hs (λ k c. f k (Contains-there h hs k c)) s)

  -- sorted by grade, with ties in the order that they had, the jobs up to a grade are the list of them
  pub sorted_jobs : (g : ℕ) (xs ys : List GradedJob) → xs ≡ graded_up_to i ms g (all_jobs i ms) → IsPermutation xs ys → IsNonDecreasingBy (λ j. j.grade) ys →
      IsStableByKey (λ (j : GradedJob). j.grade) nat_cmp xs ys → map job_alone ys ≡ jobs_up_to i ms g
  unfolding jobs_up_to
  sorted_jobs g xs ys e p n stable =
      ap (map job_alone) (sym (all_up (λ (x : GradedJob). x.grade) g ys within) ∙ by_grades (λ (x : GradedJob). x.grade) g ys (rises ys n)) ∙
      grade_by_grade g ys (up_to g) (le-up_to g) same
    where
      within : (x : GradedJob) → Contains ys x → x.grade ≤ g
      within x c = grade_within g (all_jobs i ms) x (subst (λ l. Contains l x) e (Contains-permutation ys xs x (IsPermutation-sym xs ys p) c))

      same : (h : ℕ) → at (λ (x : GradedJob). x.grade) h ys ≡ at (λ (x : GradedJob). x.grade) h (graded_up_to i ms g (all_jobs i ms))
      same h =
          filter_agree (λ (x : GradedJob). nat_eq x.grade h) (ties (λ (a b : GradedJob). is_lt (nat_cmp a.grade b.grade)) (record { grade = h; job = Generator 0 })) (same_ties h) ys ∙
          stable (record { grade = h; job = Generator 0 }) ∙
          sym (filter_agree (λ (x : GradedJob). nat_eq x.grade h) (ties (λ (a b : GradedJob). is_lt (nat_cmp a.grade b.grade)) (record { grade = h; job = Generator 0 })) (same_ties h) xs) ∙
          ap (at (λ (x : GradedJob). x.grade) h) e

-- ---- the loops that list them

pub graded-append : (i : Problem) (ms : List Binomial) (g : ℕ) (js ks : List Job) → graded_up_to i ms g (js ++ ks) ≡ graded_up_to i ms g js ++ graded_up_to i ms g ks
graded-append i ms g js ks =
    ap (filter (λ (j : GradedJob). nat_le j.grade g)) (map-append (with_grade i ms) js ks) ∙
    filter-append (λ (j : GradedJob). nat_le j.grade g) (map (with_grade i ms) js) (map (with_grade i ms) ks)

-- one more number of a loop that lists a job for each
pub number_more : (i : Problem) (ms : List Binomial) (g : ℕ) (job : ℕ → Job) (a b : ℕ) → a ≤ b → (old : List GradedJob) →
    (old ++ graded_up_to i ms g (map job (numbers_after a b))) ++ graded_up_to i ms g (job (b + 1) ∷ []) ≡ old ++ graded_up_to i ms g (map job (numbers_after a (b + 1)))
number_more i ms g job a b l old =
    append_assoc old (graded_up_to i ms g (map job (numbers_after a b))) (graded_up_to i ms g (job (b + 1) ∷ [])) ∙
    ap (λ x. old ++ x) (sym (graded-append i ms g (map job (numbers_after a b)) (job (b + 1) ∷ [])) ∙
    ap (graded_up_to i ms g) (sym (map-append job (numbers_after a b) ((b + 1) ∷ [])) ∙ ap (map job)
    (ap (λ k. numbers_after a b ++ k ∷ []) (let e : b + 1 ≡ suc b = omega arith in e) ∙ sym (numbers_after-push a b l) ∙ ap (numbers_after a) (let e : suc b ≡ b + 1 = omega arith in e))))

-- one more row of pairs
pub row_more : (i : Problem) (ms : List Binomial) (g : ℕ) (row : ℕ → List Job) (b : ℕ) (old : List GradedJob) →
    (old ++ graded_up_to i ms g (flat_map row (numbers_after 0 b))) ++ graded_up_to i ms g (row (b + 1)) ≡ old ++ graded_up_to i ms g (flat_map row (numbers_after 0 (b + 1)))
row_more i ms g row b old =
    append_assoc old (graded_up_to i ms g (flat_map row (numbers_after 0 b))) (graded_up_to i ms g (row (b + 1))) ∙
    ap (λ x. old ++ x) (sym (graded-append i ms g (flat_map row (numbers_after 0 b)) (row (b + 1))) ∙
    ap (graded_up_to i ms g) (ap (λ x. flat_map row (numbers_after 0 b) ++ x) (sym (append-nil (row (b + 1)))) ∙
    sym (flat_map-append row (numbers_after 0 b) ((b + 1) ∷ [])) ∙ ap (flat_map row)
    (ap (λ k. numbers_after 0 b ++ k ∷ []) (let e : b + 1 ≡ suc b = omega arith in e) ∙ sym (numbers_after-push 0 b (omega arith)) ∙ ap (numbers_after 0) (let e : suc b ≡ b + 1 = omega arith in e))))

-- generators, and then pairs, are all jobs
pub all_graded : (i : Problem) (ms : List Binomial) (g : ℕ) →
    graded_up_to i ms g (map Generator (numbers_after 0 (column_count i))) ++ graded_up_to i ms g (flat_map (λ a. map (Pair a) (numbers_after a (length ms))) (numbers_after 0 (length ms))) ≡
    graded_up_to i ms g (all_jobs i ms)
unfolding all_jobs
all_graded i ms g =
    sym (graded-append i ms g (map Generator (numbers_after 0 (column_count i))) (flat_map (λ a. map (Pair a) (numbers_after a (length ms))) (numbers_after 0 (length ms))))

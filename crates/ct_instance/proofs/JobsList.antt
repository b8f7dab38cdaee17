-- The listed jobs are all jobs, in job order.
use Rattle.std.proofs.Common.{ℕ, ◌+◌, ◌-◌, ◌*◌, sym, get_or, ap, ◌∙◌, append-nil, mul-suc, suc-mul, length-append, ◌≤◌, ◌<◌, ◌≡◌, ◌↔◌, inl, inr, ⊎_elim, Bool, nat_eq, List, [], ◌∷◌, ◌++◌, length, map, filter, flat_map, Contains, AllPairs, refl, subst, subst₂, arith, zero, suc, eqb-true, eq-eqb}
use Rattle.std.proofs.lemmas.Bool.{cases_lt}
use Rattle.std.proofs.lemmas.List.{length-map, map-append}
use Rattle.std.proofs.lemmas.List.Concat.{flat_map-append}
use Rattle.std.proofs.lemmas.List.Sums.{length-filter, count_by-le-length}
use Rattle.std.proofs.lemmas.List.Elements.{Contains-get_or, Contains-append_left, Contains-append_right, Contains-append_cases, Contains-push, Contains-push_cases}
use Rattle.ct_vectors.specs.Vectors.{up_to}
use Rattle.ct_vectors.proofs.Places.{Contains-up_to, le-up_to}
use Rattle.ct_instance.specs.declared.jobs.Job.{Job}
use Rattle.ct_instance.specs.declared.jobs.Job.TheVariants.{Generator, Pair}
use Rattle.ct_instance.specs.Instance.{Problem, column_count}
use Rattle.ct_instance.specs.Made.{indices}
use Rattle.ct_instance.specs.TestSet.{Binomial}
use Rattle.ct_instance.specs.Jobs.{IsJob, JobComesBefore, IsEarlierJob, job_grade_of, numbers_after, all_jobs, jobs_at, jobs_up_to}
use Rattle.ct_instance.proofs.Lists.{Contains-cons_cases, Contains-nil, Contains-map, map_gives, Contains-flat_map, flat_map_gives, Contains-filter, filter_gives}
use Rattle.ct_instance.proofs.Entries.{length-indices}
use Rattle.ct_instance.proofs.Ordered.{InOrder, InOrder-append, InOrder-map, InOrder-flat_map, InOrder-filter, InOrder-pairs, InOrder-from_pairs, InOrder-up_to}

-- ---- numbers

pub Contains-indices : (n k : ℕ) → k < n → Contains (indices n) k
Contains-indices zero k l = absurd (omega arith)
Contains-indices (suc n) k l =
    ⊎_elim (λ h. Contains-append_left (indices n) (n ∷ []) k (Contains-indices n k h))
    (λ h. subst (Contains (indices n ++ n ∷ [])) (let e : n ≡ k = omega arith in e) (Contains-push (indices n) n)) (cases_lt k n)

pub lt-indices : (n k : ℕ) → Contains (indices n) k → k < n
lt-indices zero k c = absurd (Contains-nil k c)
lt-indices (suc n) k c = ⊎_elim (λ d. omega (arith, lt-indices n k d)) (λ e. omega arith) (Contains-push_cases (indices n) n k c)

abbrev Less : ℕ → ℕ → Type 0
Less a b = a < b

pub InOrder-indices : (n : ℕ) → InOrder Less (indices n)
InOrder-indices zero = tt
InOrder-indices (suc n) =
    InOrder-append Less (indices n) (n ∷ []) (InOrder-indices n) (λ y c. absurd (Contains-nil y c), tt)
    (λ x y c d. ⊎_elim (λ e. omega (arith, lt-indices n x c)) (λ e. absurd (Contains-nil y e)) (Contains-cons_cases n [] y d))

pub Contains-numbers_after : (a b k : ℕ) → a < k → k ≤ b → Contains (numbers_after a b) k
Contains-numbers_after a b k l h =
    let e : a + suc (k - suc a) ≡ k = omega arith in
    subst (Contains (numbers_after a b)) e (Contains-map (λ n. a + suc n) (indices (b - a)) (k - suc a) (Contains-indices (b - a) (k - suc a) (omega arith)))

pub numbers_after_gives : (a b k : ℕ) → Contains (numbers_after a b) k → (a < k) × (k ≤ b)
numbers_after_gives a b k c =
    let t = map_gives (λ n. a + suc n) (indices (b - a)) k c in
    let e : a + suc t.0 ≡ k = t.2 in
    (omega arith, omega (arith, lt-indices (b - a) t.0 t.1))

InOrder-numbers_after : (a b : ℕ) → InOrder Less (numbers_after a b)
InOrder-numbers_after a b = InOrder-map Less Less (λ n. a + suc n) (indices (b - a)) (λ x y c d l. omega arith) (InOrder-indices (b - a))

-- ---- jobs

abbrev pairs_of : List Binomial → ℕ → List Job
pairs_of ms a = map (Pair a) (numbers_after a (length ms))

listed_is_job : (i : Problem) (ms : List Binomial) (j : Job) → Contains (all_jobs i ms) j → IsJob i ms j
unfolding all_jobs
listed_is_job i ms j c =
    ⊎_elim
    (λ d.
    let t = map_gives Generator (numbers_after 0 (column_count i)) j d in
    let n = numbers_after_gives 0 (column_count i) t.0 t.1 in
    subst (IsJob i ms) t.2 (omega (arith, n.0), n.1))
    (λ d.
    let r = flat_map_gives (pairs_of ms) (numbers_after 0 (length ms)) j d in
    let t = map_gives (Pair r.0) (numbers_after r.0 (length ms)) j r.2 in
    let m = numbers_after_gives 0 (length ms) r.0 r.1 in
    let n = numbers_after_gives r.0 (length ms) t.0 t.1 in
    subst (IsJob i ms) t.2 (omega (arith, m.0), n.0, n.1))
    (Contains-append_cases (map Generator (numbers_after 0 (column_count i))) (flat_map (pairs_of ms) (numbers_after 0 (length ms))) j c)

job_is_listed : (i : Problem) (ms : List Binomial) (j : Job) → IsJob i ms j → Contains (all_jobs i ms) j
unfolding all_jobs
job_is_listed i ms (Generator j) g =
    Contains-append_left (map Generator (numbers_after 0 (column_count i))) (flat_map (pairs_of ms) (numbers_after 0 (length ms))) (Generator j)
    (Contains-map Generator (numbers_after 0 (column_count i)) j (Contains-numbers_after 0 (column_count i) j (omega (arith, g.0)) g.1))
job_is_listed i ms (Pair a b) g =
    let first : 1 ≤ a = g.0 in
    let between : a < b = g.1 in
    let last : b ≤ length ms = g.2 in
    Contains-append_right (map Generator (numbers_after 0 (column_count i))) (flat_map (pairs_of ms) (numbers_after 0 (length ms))) (Pair a b)
    (Contains-flat_map (pairs_of ms) (numbers_after 0 (length ms)) a (Pair a b) (Contains-numbers_after 0 (length ms) a (omega arith) (omega arith))
    (Contains-map (Pair a) (numbers_after a (length ms)) b (Contains-numbers_after a (length ms) b between last)))

pub jobs_in_order : (i : Problem) (ms : List Binomial) → InOrder JobComesBefore (all_jobs i ms)
unfolding all_jobs
jobs_in_order i ms =
    InOrder-append JobComesBefore (map Generator (numbers_after 0 (column_count i))) (flat_map (pairs_of ms) (numbers_after 0 (length ms)))
    (InOrder-map Less JobComesBefore Generator (numbers_after 0 (column_count i)) (λ x y c d l. l) (InOrder-numbers_after 0 (column_count i)))
    (InOrder-flat_map Less JobComesBefore (pairs_of ms)
    (λ a. InOrder-map Less JobComesBefore (Pair a) (numbers_after a (length ms)) (λ x y c d l. inr (refl, l)) (InOrder-numbers_after a (length ms)))
    apart (numbers_after 0 (length ms)) (InOrder-numbers_after 0 (length ms)))
    before
  where
    apart : (a b : ℕ) (j k : Job) → a < b → Contains (pairs_of ms a) j → Contains (pairs_of ms b) k → JobComesBefore j k
    apart a b j k l c d =
        let s = map_gives (Pair a) (numbers_after a (length ms)) j c in
        let t = map_gives (Pair b) (numbers_after b (length ms)) k d in
        subst₂ JobComesBefore s.2 t.2 (inl l)

    before : (j k : Job) → Contains (map Generator (numbers_after 0 (column_count i))) j → Contains (flat_map (pairs_of ms) (numbers_after 0 (length ms))) k → JobComesBefore j k
    before j k c d =
        let s = map_gives Generator (numbers_after 0 (column_count i)) j c in
        let r = flat_map_gives (pairs_of ms) (numbers_after 0 (length ms)) k d in
        let t = map_gives (Pair r.0) (numbers_after r.0 (length ms)) k r.2 in
        subst₂ JobComesBefore s.2 t.2 tt

pub jobs_listed : (i : Problem) (ms : List Binomial) → ((j : Job) → Contains (all_jobs i ms) j ↔ IsJob i ms j) × AllPairs JobComesBefore (all_jobs i ms)
jobs_listed i ms = (λ j. (listed_is_job i ms j, job_is_listed i ms j), InOrder-pairs JobComesBefore (all_jobs i ms) (jobs_in_order i ms))

pub jobs_of_grade_listed : (i : Problem) (ms : List Binomial) (g : ℕ) →
    ((j : Job) → Contains (jobs_at i ms g) j ↔ (IsJob i ms j × (job_grade_of i ms j ≡ g))) × AllPairs JobComesBefore (jobs_at i ms g)
unfolding jobs_at
jobs_of_grade_listed i ms g =
    (λ j. (there j, back j), InOrder-pairs JobComesBefore (filter test (all_jobs i ms)) (InOrder-filter JobComesBefore test (all_jobs i ms) (jobs_in_order i ms)))
  where
    test : Job → Bool
    test j = nat_eq (job_grade_of i ms j) g

    there : (j : Job) → Contains (filter test (all_jobs i ms)) j → IsJob i ms j × (job_grade_of i ms j ≡ g)
    there j c = let f = filter_gives test (all_jobs i ms) j c in (listed_is_job i ms j f.0, eqb-true (job_grade_of i ms j) g f.1)

    back : (j : Job) → IsJob i ms j × (job_grade_of i ms j ≡ g) → Contains (filter test (all_jobs i ms)) j
    back j b = Contains-filter test (all_jobs i ms) j (job_is_listed i ms j b.0) (eq-eqb (job_grade_of i ms j) g b.1)

-- ---- how many there are

length-numbers_after : (a b : ℕ) → length (numbers_after a b) ≡ b - a
length-numbers_after a b = length-map (indices (b - a)) (λ k. a + suc k) ∙ length-indices (b - a)

one_more : (s r n l p q : ℕ) → suc n ≤ l → r ≡ l - suc n → 2 * s + n * suc n ≡ 2 * (n * l) → p ≡ n * suc n + suc n + suc n → q ≡ n * l + l → 2 * (s + r) + p ≡ 2 * q
one_more s r n l p q m e f g h = omega arith

-- the pairs whose smaller number is one of the first n
length-rows : (ms : List Binomial) (n : ℕ) → n ≤ length ms →
    2 * length (flat_map (pairs_of ms) (map (λ k. 0 + suc k) (indices n))) + n * suc n ≡ 2 * (n * length ms)
length-rows ms zero l = omega arith
length-rows ms (suc n) l =
    let rows : List ℕ = map (λ k. 0 + suc k) (indices n) in
    let row : List Job = pairs_of ms (0 + suc n) in
    let e : flat_map (pairs_of ms) (map (λ k. 0 + suc k) (indices n ++ n ∷ [])) ≡ flat_map (pairs_of ms) rows ++ (row ++ []) =
    ap (flat_map (pairs_of ms)) (map-append (λ k. 0 + suc k) (indices n) (n ∷ [])) ∙ flat_map-append (pairs_of ms) rows ((0 + suc n) ∷ []) in
    let one : length (row ++ []) ≡ length ms - suc n =
    ap length (append-nil row) ∙ length-map (numbers_after (0 + suc n) (length ms)) (Pair (0 + suc n)) ∙
    length-numbers_after (0 + suc n) (length ms) ∙ (let z : length ms - (0 + suc n) ≡ length ms - suc n = omega arith in z) in
    let p : suc n * suc (suc n) ≡ n * suc n + suc n + suc n = mul-suc (suc n) (suc n) ∙ (let z : suc n * suc n + suc n ≡ n * suc n + suc n + suc n = ap (λ x. x + suc n) (suc-mul n (suc n)) in z) in
    let q : suc n * length ms ≡ n * length ms + length ms = suc-mul n (length ms) in
    ap (λ x. 2 * x + suc n * suc (suc n)) (ap length e ∙ length-append (flat_map (pairs_of ms) rows) (row ++ [])) ∙
    one_more (length (flat_map (pairs_of ms) rows)) (length (row ++ [])) n (length ms) (suc n * suc (suc n)) (suc n * length ms) l one (length-rows ms n (omega arith)) p q

pub jobs_counted : (i : Problem) (ms : List Binomial) → 2 * length (all_jobs i ms) + length ms ≡ 2 * column_count i + length ms * length ms
unfolding all_jobs
jobs_counted i ms =
    let generators : List Job = map Generator (numbers_after 0 (column_count i)) in
    let pairs : List Job = flat_map (pairs_of ms) (numbers_after 0 (length ms)) in
    let columns : length generators ≡ column_count i =
    length-map (numbers_after 0 (column_count i)) Generator ∙ length-numbers_after 0 (column_count i) ∙ (let z : column_count i - 0 ≡ column_count i = omega arith in z) in
    let all : length ms ≡ length ms - 0 = omega arith in
    let rows : 2 * length pairs + length ms * suc (length ms) ≡ 2 * (length ms * length ms) =
    subst (λ n. 2 * length (flat_map (pairs_of ms) (map (λ k. 0 + suc k) (indices n))) + length ms * suc (length ms) ≡ 2 * (length ms * length ms)) all
    (length-rows ms (length ms) (omega arith)) in
    let square : length ms * suc (length ms) ≡ length ms * length ms + length ms = mul-suc (length ms) (length ms) in
    omega (arith, length-append generators pairs)

-- those of one grade are no more
pub jobs_of_grade_fewer : (i : Problem) (ms : List Binomial) (g : ℕ) → length (jobs_at i ms g) ≤ length (all_jobs i ms)
unfolding jobs_at
jobs_of_grade_fewer i ms g =
    omega (arith, length-filter (λ j. nat_eq (job_grade_of i ms j) g) (all_jobs i ms), count_by-le-length (λ j. nat_eq (job_grade_of i ms j) g) (all_jobs i ms))

-- ---- the jobs up to a grade, by grade first

pub jobs_up_to_listed : (i : Problem) (ms : List Binomial) (g : ℕ) →
    ((j : Job) → Contains (jobs_up_to i ms g) j ↔ (IsJob i ms j × (job_grade_of i ms j ≤ g))) × AllPairs (IsEarlierJob i ms) (jobs_up_to i ms g)
unfolding jobs_up_to
jobs_up_to_listed i ms g =
    (λ j. (there j, back j), InOrder-pairs (IsEarlierJob i ms) (flat_map (jobs_at i ms) (up_to g)) in_order)
  where
    at : (d : ℕ) (j : Job) → Contains (jobs_at i ms d) j → IsJob i ms j × (job_grade_of i ms j ≡ d)
    at d j c = ((jobs_of_grade_listed i ms d).0 j).0 c

    there : (j : Job) → Contains (flat_map (jobs_at i ms) (up_to g)) j → IsJob i ms j × (job_grade_of i ms j ≤ g)
    there j c = let r = flat_map_gives (jobs_at i ms) (up_to g) j c in let t = at r.0 j r.2 in (t.0, omega (arith, t.1, le-up_to g r.0 r.1))

    back : (j : Job) → IsJob i ms j × (job_grade_of i ms j ≤ g) → Contains (flat_map (jobs_at i ms) (up_to g)) j
    back j b =
        Contains-flat_map (jobs_at i ms) (up_to g) (job_grade_of i ms j) j (Contains-up_to g (job_grade_of i ms j) b.1)
        (((jobs_of_grade_listed i ms (job_grade_of i ms j)).0 j).1 (b.0, refl))

    within : (d : ℕ) → InOrder (IsEarlierJob i ms) (jobs_at i ms d)
    within d =
        InOrder-from_pairs (IsEarlierJob i ms) (jobs_at i ms d)
        (λ m n e l k. inr (
          (at d (get_or (jobs_at i ms d) m e) (Contains-get_or (jobs_at i ms d) m e (omega arith))).1 ∙
              sym (at d (get_or (jobs_at i ms d) n e) (Contains-get_or (jobs_at i ms d) n e k)).1,
          (jobs_of_grade_listed i ms d).1 m n e l k,
        ))

    apart : (c d : ℕ) (j k : Job) → c < d → Contains (jobs_at i ms c) j → Contains (jobs_at i ms d) k → IsEarlierJob i ms j k
    apart c d j k l x y = inl (omega (arith, (at c j x).1, (at d k y).1))

    in_order : InOrder (IsEarlierJob i ms) (flat_map (jobs_at i ms) (up_to g))
    in_order = InOrder-flat_map Less (IsEarlierJob i ms) (jobs_at i ms) within apart (up_to g) (InOrder-up_to g)

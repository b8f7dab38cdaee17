-- The loops that list generators and pairs, against the list of all jobs.
use Rattle.std.proofs.Common.{ℕ, ◌+◌, ◌-◌, ◌≤◌, ◌<◌, ◌≡◌, max, ⊎_elim, cond, nat_le, List, [], ◌∷◌, ◌++◌, map, filter, flat_map, length, refl, sym, ap, ap₂, ◌∙◌, arith, zero, suc, append-nil}
use Rattle.std.proofs.lemmas.Bool.{cases_lt, lt-leb, le-leb}
use Rattle.std.proofs.lemmas.List.{map-append}
use Rattle.std.proofs.lemmas.List.Elements.{filter-append}
use Rattle.std.proofs.lemmas.Grind.{flat_map-append}
use Rattle.ct_instance.specs.declared.jobs.Job.TheVariants.{Generator, Pair}
use Rattle.ct_instance.specs.Instance.{Problem, column_count}
use Rattle.ct_instance.specs.Made.{indices}
use Rattle.ct_instance.specs.TestSet.{Binomial}
use Rattle.ct_instance.specs.Jobs.{numbers_after, all_jobs}
use Rattle.ct_jobs.specs.GradedJobs.{with_grade, graded_jobs, is_pair_from, graded_pairs_from, row_from}

-- ---- numbers

pub numbers_after-push : (a b : ℕ) → a ≤ b → numbers_after a (suc b) ≡ numbers_after a b ++ suc b ∷ []
numbers_after-push a b h =
    let e : suc b - a ≡ suc (b - a) = omega arith in
    let f : a + suc (b - a) ≡ suc b = omega arith in
    ap (λ n. map (λ k. a + suc k) (indices n)) e ∙ map-append (λ k. a + suc k) (indices (b - a)) ((b - a) ∷ []) ∙
    ap (λ x. map (λ k. a + suc k) (indices (b - a)) ++ x ∷ []) f

pub numbers_after-none : (a b : ℕ) → b ≤ a → numbers_after a b ≡ []
numbers_after-none a b h =
    let e : b - a ≡ 0 = omega arith in
    ap (λ n. map (λ k. a + suc k) (indices n)) e

-- ---- generators

pub generators_push : (i : Problem) (ms : List Binomial) (j : ℕ) →
    map (with_grade i ms) (map Generator (numbers_after 0 (j + 1))) ≡ map (with_grade i ms) (map Generator (numbers_after 0 j)) ++ with_grade i ms (Generator (j + 1)) ∷ []
generators_push i ms j =
    let e : j + 1 ≡ suc j = omega arith in
    ap (λ n. map (with_grade i ms) (map Generator (numbers_after 0 n))) e ∙
    ap (λ l. map (with_grade i ms) (map Generator l)) (numbers_after-push 0 j (omega arith)) ∙
    ap (map (with_grade i ms)) (map-append Generator (numbers_after 0 j) (suc j ∷ [])) ∙
    map-append (with_grade i ms) (map Generator (numbers_after 0 j)) (Generator (suc j) ∷ []) ∙
    ap (λ n. map (with_grade i ms) (map Generator (numbers_after 0 j)) ++ with_grade i ms (Generator n) ∷ []) (sym e)

pub generators_all : (i : Problem) → graded_jobs i [] ≡ map (with_grade i []) (map Generator (numbers_after 0 (column_count i)))
unfolding all_jobs
generators_all i =
    ap (map (with_grade i [])) (ap (λ l. map Generator (numbers_after 0 (column_count i)) ++ flat_map (λ a. map (Pair a) (numbers_after a 0)) l) (numbers_after-none 0 0 (omega arith)) ∙
    append-nil (map Generator (numbers_after 0 (column_count i))))

-- ---- rows of pairs

pub row_push : (from a n : ℕ) → max a (from - 1) ≤ n → row_from from a (n + 1) ≡ row_from from a n ++ Pair a (n + 1) ∷ []
row_push from a n h =
    let e : n + 1 ≡ suc n = omega arith in
    ap (row_from from a) e ∙ ap (map (Pair a)) (numbers_after-push (max a (from - 1)) n h) ∙ map-append (Pair a) (numbers_after (max a (from - 1)) n) (suc n ∷ []) ∙
    ap (λ k. row_from from a n ++ Pair a k ∷ []) (sym e)

row_none : (from a n : ℕ) → n ≤ max a (from - 1) → row_from from a n ≡ []
row_none from a n h = ap (map (Pair a)) (numbers_after-none (max a (from - 1)) n h)

-- where the loop over them ends: at n, or at its start where that lies past n
pub row_end : (from a k n : ℕ) → max a (from - 1) ≤ k → (max a (from - 1) ≤ n → k ≤ n) → n ≤ k → (n < max a (from - 1) → k ≡ max a (from - 1)) → row_from from a k ≡ row_from from a n
row_end from a k n low high past start =
    ⊎_elim (λ h. row_none from a k (let e : k ≡ max a (from - 1) = start h in omega arith) ∙ sym (row_none from a n (omega arith)))
    (λ h. let l : k ≤ n = high h in let e : k ≡ n = omega arith in ap (row_from from a) e) (cases_lt n (max a (from - 1)))

-- the pairs of one move that are listed
row_more : (from a n : ℕ) → a ≤ n → row_from from a n ++ cond (nat_le from (suc n)) (Pair a (suc n) ∷ []) [] ≡ row_from from a (suc n)
row_more from a n h = ⊎_elim early late (cases_lt (suc n) from)
  where
    early : suc n < from → row_from from a n ++ cond (nat_le from (suc n)) (Pair a (suc n) ∷ []) [] ≡ row_from from a (suc n)
    early l =
        ap (λ b. row_from from a n ++ cond b (Pair a (suc n) ∷ []) []) (lt-leb from (suc n) l) ∙ append-nil (row_from from a n) ∙
        row_none from a n (omega arith) ∙ sym (row_none from a (suc n) (omega arith))

    late : from ≤ suc n → row_from from a n ++ cond (nat_le from (suc n)) (Pair a (suc n) ∷ []) [] ≡ row_from from a (suc n)
    late l =
        let e : n + 1 ≡ suc n = omega arith in
        ap (λ b. row_from from a n ++ cond b (Pair a (suc n) ∷ []) []) (le-leb from (suc n) l) ∙
        ap (λ k. row_from from a n ++ Pair a k ∷ []) (sym e) ∙ sym (row_push from a n (omega arith)) ∙ ap (row_from from a) e

pub filter-row : (from a n : ℕ) → filter (is_pair_from from) (map (Pair a) (numbers_after a n)) ≡ row_from from a n
filter-row from a zero = ap (λ l. filter (is_pair_from from) (map (Pair a) l)) (numbers_after-none a 0 (omega arith)) ∙ sym (row_none from a 0 (omega arith))
filter-row from a (suc n) = ⊎_elim outside (inside (filter-row from a n)) (cases_lt n a)
  where
    outside : n < a → filter (is_pair_from from) (map (Pair a) (numbers_after a (suc n))) ≡ row_from from a (suc n)
    outside h = ap (λ l. filter (is_pair_from from) (map (Pair a) l)) (numbers_after-none a (suc n) (omega arith)) ∙ sym (row_none from a (suc n) (omega arith))

    inside : filter (is_pair_from from) (map (Pair a) (numbers_after a n)) ≡ row_from from a n → a ≤ n →
        filter (is_pair_from from) (map (Pair a) (numbers_after a (suc n))) ≡ row_from from a (suc n)
    inside rest h =
        ap (λ l. filter (is_pair_from from) (map (Pair a) l)) (numbers_after-push a n h) ∙
        ap (filter (is_pair_from from)) (map-append (Pair a) (numbers_after a n) (suc n ∷ [])) ∙
        filter-append (is_pair_from from) (map (Pair a) (numbers_after a n)) (Pair a (suc n) ∷ []) ∙
        ap (λ l. l ++ cond (nat_le from (suc n)) (Pair a (suc n) ∷ []) []) rest ∙ row_more from a n h

filter-generators : (from : ℕ) (ns : List ℕ) → filter (is_pair_from from) (map Generator ns) ≡ []
filter-generators from [] = refl
filter-generators from (n ∷ ns) = filter-generators from ns

filter-rows : (from n : ℕ) (ns : List ℕ) →
    filter (is_pair_from from) (flat_map (λ a. map (Pair a) (numbers_after a n)) ns) ≡ flat_map (λ a. row_from from a n) ns
filter-rows from n [] = refl
filter-rows from n (a ∷ ns) =
    filter-append (is_pair_from from) (map (Pair a) (numbers_after a n)) (flat_map (λ a. map (Pair a) (numbers_after a n)) ns) ∙
    ap₂ ◌++◌ (filter-row from a n) (filter-rows from n ns)

pub rows_all : (i : Problem) (ms : List Binomial) (from : ℕ) →
    graded_pairs_from i ms from ≡ map (with_grade i ms) (flat_map (λ a. row_from from a (length ms)) (numbers_after 0 (length ms)))
unfolding all_jobs
rows_all i ms from =
    ap (map (with_grade i ms)) (filter-append (is_pair_from from) (map Generator (numbers_after 0 (column_count i))) (flat_map (λ a. map (Pair a) (numbers_after a (length ms))) (numbers_after 0 (length ms))) ∙
    ap₂ ◌++◌ (filter-generators from (numbers_after 0 (column_count i))) (filter-rows from (length ms) (numbers_after 0 (length ms))))

rows_of_none : (from n : ℕ) (ns : List ℕ) → n < from → flat_map (λ a. row_from from a n) ns ≡ []
rows_of_none from n [] l = refl
rows_of_none from n (a ∷ ns) l = ap₂ ◌++◌ (row_none from a n (omega arith)) (rows_of_none from n ns l)

-- where no move has a number from there on
pub rows_none : (i : Problem) (ms : List Binomial) (from : ℕ) → length ms < from → graded_pairs_from i ms from ≡ []
rows_none i ms from l = rows_all i ms from ∙ ap (map (with_grade i ms)) (rows_of_none from (length ms) (numbers_after 0 (length ms)) l)

-- a loop's step over the moves
pub rows_push : (i : Problem) (ms : List Binomial) (from n k : ℕ) →
    map (with_grade i ms) (flat_map (λ a. row_from from a n) (numbers_after 0 (k + 1))) ≡
    map (with_grade i ms) (flat_map (λ a. row_from from a n) (numbers_after 0 k)) ++ map (with_grade i ms) (row_from from (k + 1) n)
rows_push i ms from n k =
    let e : k + 1 ≡ suc k = omega arith in
    ap (λ m. map (with_grade i ms) (flat_map (λ a. row_from from a n) (numbers_after 0 m))) e ∙
    ap (λ l. map (with_grade i ms) (flat_map (λ a. row_from from a n) l)) (numbers_after-push 0 k (omega arith)) ∙
    ap (map (with_grade i ms)) (flat_map-append (λ a. row_from from a n) (numbers_after 0 k) (suc k ∷ [])) ∙
    map-append (with_grade i ms) (flat_map (λ a. row_from from a n) (numbers_after 0 k)) (row_from from (suc k) n ++ []) ∙
    ap (λ l. map (with_grade i ms) (flat_map (λ a. row_from from a n) (numbers_after 0 k)) ++ map (with_grade i ms) l) (append-nil (row_from from (suc k) n) ∙ ap (λ m. row_from from m n) (sym e))

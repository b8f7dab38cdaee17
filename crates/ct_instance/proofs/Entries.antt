-- The columns that entries row after row make.
use Rattle.std.proofs.Common.{◌≡◌, ℕ, ℤ, ◌+◌, ◌*◌, ◌/◌, ◌≤◌, ◌<◌, ◌⊎◌, inl, inr, ⊎_elim, subst, All, List, [], ◌∷◌, ◌++◌, length, drop, get_or, set, map, refl, sym, ap, ◌∙◌, arith, zero, suc}
use Rattle.std.proofs.lemmas.Bool.{cases_lt}
use Rattle.std.proofs.lemmas.List.{get_or-drop, get_or_past, get_or-map, get_or_push, get_or_append_left, set-append_left, length-map, length_push}
use Rattle.std.proofs.lemmas.List.Elements.{All-drop, All-cons, All-nil, All-map, All-weaker}
use Rattle.ct_vectors.specs.Vectors.{total, zeros, unit}
use Rattle.ct_vectors.specs.declared.limits.TheConstants.{ROW_LIMIT, ENTRY_LIMIT}
use Rattle.ct_vectors.proofs.Sums.{length-zeros, total-limit}
use Rattle.ct_vectors.proofs.Places.{zeros-append}
use Rattle.ct_order.specs.Costs.{rows_of}
use Rattle.ct_instance.specs.Instance.{Problem, IsColumn}
use Rattle.ct_instance.specs.Made.{column_of, columns_of, problem_of, indices}

pub length-column_of : (m n j : ℕ) (es : List ℕ) → length (column_of m n j es) ≡ m
length-column_of zero n j es = refl
length-column_of (suc m) n j es = ap suc (length-column_of m n j (drop n es))

pub get_or-column_of : (m n j : ℕ) (es : List ℕ) (r : ℕ) → r < m → get_or (column_of m n j es) r 0 ≡ get_or es (r * n + j) 0
get_or-column_of zero n j es r l = absurd (omega arith)
get_or-column_of (suc m) n j es zero l = let at : j ≡ 0 * n + j = omega arith in ap (λ k. get_or es k 0) at
get_or-column_of (suc m) n j es (suc r) l =
    let in-rest : r < m = omega arith in
    let at : n + (r * n + j) ≡ suc r * n + j = omega arith in
    get_or-column_of m n j (drop n es) r in-rest ∙ get_or-drop n es (r * n + j) 0 ∙ ap (λ k. get_or es k 0) at

pub length-indices : (n : ℕ) → length (indices n) ≡ n
length-indices zero = refl
length-indices (suc n) = let push : length (indices n ++ n ∷ []) ≡ length (indices n) + 1 = length_push (indices n) n in
    let rest : length (indices n) ≡ n = length-indices n in omega arith

pub get_or-indices : (n k d : ℕ) → k < n → get_or (indices n) k d ≡ k
get_or-indices zero k d l = absurd (omega arith)
get_or-indices (suc n) k d l =
    ⊎_elim (λ m. get_or_append_left (indices n) (n ∷ []) d k (let e : k < length (indices n) = omega (arith, length-indices n, m) in e) ∙ get_or-indices n k d m)
    (λ m. get_or_push (indices n) n d k (let e : length (indices n) ≡ k = omega (arith, length-indices n) in e) ∙ (let e : n ≡ k = omega arith in e)) (cases_lt k n)

pub length-columns_of : (m n : ℕ) (es : List ℕ) → length (columns_of m n es) ≡ n
length-columns_of m n es = length-map (indices n) (λ j. column_of m n j es) ∙ length-indices n

-- what a bound on the entries says of a column
pub All-column_of : (k m n j : ℕ) (es : List ℕ) → All (λ a. a ≤ k) es → All (λ a. a ≤ k) (column_of m n j es)
All-column_of k zero n j es h = All-nil (λ a. a ≤ k)
All-column_of k (suc m) n j es h =
    All-cons (λ a. a ≤ k) (get_or es j 0) (column_of m n j (drop n es)) (read_limit es j h)
    (All-column_of k m n j (drop n es) (All-drop (λ a. a ≤ k) n es h))
  where
    place : (i n : ℕ) → (i < n) ⊎ (n ≤ i)
    place i n = grind arith

    read_limit : (es : List ℕ) (j : ℕ) → All (λ a. a ≤ k) es → get_or es j 0 ≤ k
    read_limit es j h = read_by es j h (place j (length es))
      where
        read_by : (es : List ℕ) (j : ℕ) → All (λ a. a ≤ k) es → (j < length es) ⊎ (length es ≤ j) → get_or es j 0 ≤ k
        read_by es j h (inl l) = h j 0 l
        read_by es j h (inr l) = let none : get_or es j 0 ≡ 0 = get_or_past es j 0 l in omega arith

-- each column has m entries within the limit
pub columns-limit : (k m n : ℕ) (es : List ℕ) → All (λ a. a ≤ k) es → All (λ c. (length c ≡ m) × All (λ a. a ≤ k) c) (columns_of m n es)
columns-limit k m n es h =
    All-map (λ c. (length c ≡ m) × All (λ a. a ≤ k) c) (λ j. column_of m n j es) (indices n)
    (λ i d l. (length-column_of m n (get_or (indices n) i d) es, All-column_of k m n (get_or (indices n) i d) es h))

-- what columns of m entries within the limit sum up to
pub columns-total : (m : ℕ) (cs : List (List ℕ)) → m ≤ ROW_LIMIT → All (λ c. (length c ≡ m) × All (λ a. a ≤ ENTRY_LIMIT) c) cs → All (λ c. total c ≤ ROW_LIMIT * ENTRY_LIMIT) cs
columns-total m cs few h = All-weaker (λ c. (length c ≡ m) × All (λ a. a ≤ ENTRY_LIMIT) c) (λ c. total c ≤ ROW_LIMIT * ENTRY_LIMIT) small cs h
  where
    small : (c : List ℕ) → (length c ≡ m) × All (λ a. a ≤ ENTRY_LIMIT) c → total c ≤ ROW_LIMIT * ENTRY_LIMIT
    small c (len, limit) =
        let bound : total c ≤ length c * ENTRY_LIMIT = total-limit ENTRY_LIMIT c limit in
        let most : length c * ENTRY_LIMIT ≤ ROW_LIMIT * ENTRY_LIMIT = omega arith in
        omega arith

-- the sums of columns of an instance have a limit
pub IsColumn-total : (m : ℕ) (cs : List (List ℕ)) → m ≤ ROW_LIMIT → All (IsColumn m) cs → All (λ c. total c ≤ ROW_LIMIT * ENTRY_LIMIT) cs
IsColumn-total m cs few h =
    columns-total m cs few (All-weaker (IsColumn m) (λ c. (length c ≡ m) × All (λ a. a ≤ ENTRY_LIMIT) c) (λ c column. (column.entries, column.limit)) cs h)

-- columns that have entries within the limit and a positive sum are columns of an instance
pub are_columns : (m : ℕ) (cs : List (List ℕ)) → All (λ c. (length c ≡ m) × All (λ a. a ≤ ENTRY_LIMIT) c) cs → All (λ s. 1 ≤ s) (map total cs) → All (IsColumn m) cs
are_columns m cs limit positive i d l =
    let at : (length (get_or cs i d) ≡ m) × All (λ a. a ≤ ENTRY_LIMIT) (get_or cs i d) = limit i d l in
    let in-sums : i < length (map total cs) = subst (λ k. i < k) (sym (length-map cs total)) l in
    let sum : 1 ≤ get_or (map total cs) i 0 = positive i 0 in-sums in
    let same : get_or (map total cs) i 0 ≡ total (get_or cs i d) = get_or-map total cs i d 0 l in
    record { entries = at.0; limit = at.1; positive = subst (λ s. 1 ≤ s) same sum }

set_in_zeros : (n j : ℕ) → j < n → set (zeros n) j 1 ≡ unit n j
set_in_zeros zero j l = absurd (omega arith)
set_in_zeros (suc n) zero l = refl
set_in_zeros (suc n) (suc j) l = ap (λ p. 0 ∷ p) (set_in_zeros n j (omega arith))

-- writing 1 into a zero point makes a unit
pub set-zeros : (n m j : ℕ) → j < n → set (zeros (n + m)) j 1 ≡ unit n j ++ zeros m
set-zeros n m j l =
    let len : length (zeros n) ≡ n = length-zeros n in
    ap (λ p. set p j 1) (sym (zeros-append n m)) ∙ set-append_left (zeros n) (zeros m) j 1 (omega arith) ∙ ap (λ p. p ++ zeros m) (set_in_zeros n j l)

abbrev by_columns : ℕ → List (List ℕ) → List ℤ → Problem
by_columns m cs costs = record { rows = m; columns = cs; cost_rows = rows_of (length costs / length cs) (length cs) costs }

-- the instance by its columns is that of the numbers
pub problem_same : (m n : ℕ) (es : List ℕ) (costs : List ℤ) (cs : List (List ℕ)) → cs ≡ columns_of m n es → length cs ≡ n →
    by_columns m cs costs ≡ problem_of m n es costs
problem_same m n es costs cs same count i = record { rows = m; columns = same i; cost_rows = rows_of (length costs / count i) (count i) costs }

-- Rows of costs that stand one after another.
use Rattle.std.proofs.Common.{◌≡◌, ℕ, ℤ, ◌+◌, ◌*◌, ◌-◌, ◌/◌, ◌%◌, ◌≤◌, ◌<◌, List, [], length, take, drop, get_or, All, refl, ap, ◌∙◌, arith, nat_abs, zero, suc}
use Rattle.std.proofs.lemmas.Nat.{div-add-mod'}
use Rattle.std.proofs.lemmas.List.{length-take-le, length-drop, drop-drop}
use Rattle.std.proofs.lemmas.List.Elements.{All-cons, All-nil, All-take, All-drop}
use Rattle.ct_vectors.specs.declared.limits.TheConstants.{COLUMN_LIMIT, COST_ROW_LIMIT, COST_LIMIT}
use Rattle.ct_order.specs.Costs.{IsCostRow, IsCostTable, rows_of}

pub length-rows_of : (r n : ℕ) (cs : List ℤ) → length (rows_of r n cs) ≡ r
length-rows_of zero n cs = refl
length-rows_of (suc r) n cs = ap suc (length-rows_of r n (drop n cs))

-- the row with the index k, from 0
pub get_or-rows_of : (r n : ℕ) (cs : List ℤ) (k : ℕ) → k < r → get_or (rows_of r n cs) k [] ≡ take n (drop (k * n) cs)
get_or-rows_of zero n cs k l = absurd (omega arith)
get_or-rows_of (suc r) n cs zero l = let none : 0 ≡ 0 * n = omega arith in ap (λ i. take n (drop i cs)) none
get_or-rows_of (suc r) n cs (suc k) l =
    let at : n + k * n ≡ suc k * n = omega arith in
    get_or-rows_of r n (drop n cs) k (omega arith) ∙ ap (take n) (drop-drop (k * n) n cs ∙ ap (λ i. drop i cs) at)

-- a row ends within what stands there
pub row_end : (r n k : ℕ) → k < r → k * n + n ≤ r * n
row_end zero n k l = absurd (omega arith)
row_end (suc r) n zero l = omega arith
row_end (suc r) n (suc k) l = let rest : k * n + n ≤ r * n = row_end r n k (omega arith) in omega arith

pub are_rows : (r n : ℕ) (cs : List ℤ) → length cs ≡ r * n → All (λ c. nat_abs c ≤ COST_LIMIT) cs → All (IsCostRow n) (rows_of r n cs)
are_rows zero n cs e h = All-nil (IsCostRow n)
are_rows (suc r) n cs e h =
    All-cons (IsCostRow n) (take n cs) (rows_of r n (drop n cs))
    (record { entries = length-take-le n cs (omega arith); limit = All-take (λ c. nat_abs c ≤ COST_LIMIT) n cs h })
    (are_rows r n (drop n cs) (let rest : length (drop n cs) ≡ length cs - n = length-drop n cs in omega arith) (All-drop (λ c. nat_abs c ≤ COST_LIMIT) n cs h))

-- ---- how many rows stand in a list

pub whole_rows : (l n : ℕ) → l % n ≡ 0 → l ≡ l / n * n
whole_rows l n e = omega (arith, div-add-mod' l n)

pub some_rows : (q n : ℕ) → 1 ≤ n → n ≤ q * n → 1 ≤ q
some_rows zero n some l = omega arith
some_rows (suc q) n some l = omega arith

pub few_rows : (q k n : ℕ) → 1 ≤ n → q * n ≤ k * n → q ≤ k
few_rows zero k n some l = omega arith
few_rows (suc q) zero n some l = omega arith
few_rows (suc q) (suc k) n some l = let rest : q ≤ k = few_rows q k n some (omega arith) in omega arith

-- one to eight rows that stand one after another
pub IsCostTable-rows_of : (n : ℕ) (cs : List ℤ) → 1 ≤ n → n ≤ COLUMN_LIMIT → length cs % n ≡ 0 → n ≤ length cs → length cs ≤ COST_ROW_LIMIT * n →
    All (λ c. nat_abs c ≤ COST_LIMIT) cs → IsCostTable (record { columns = n; rows = rows_of (length cs / n) n cs })
IsCostTable-rows_of n cs some few whole some-row most limit =
    let count : length cs ≡ length cs / n * n = whole_rows (length cs) n whole in
    let rows : length (rows_of (length cs / n) n cs) ≡ length cs / n = length-rows_of (length cs / n) n cs in
    let some-rows : 1 ≤ length cs / n = some_rows (length cs / n) n some (omega arith) in
    let few-rows : length cs / n ≤ COST_ROW_LIMIT = few_rows (length cs / n) COST_ROW_LIMIT n some (omega arith) in
    record { some_column = some; column_limit = few; some_row = omega arith; row_limit = omega arith; is_row = are_rows (length cs / n) n cs count limit }

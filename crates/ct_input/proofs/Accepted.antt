-- An accepted text stands for an instance, or for a script.
use Rattle.std.proofs.Common.{◌≡◌, ℕ, zero, suc, ◌+◌, ◌-◌, ◌*◌, ◌/◌, ◌%◌, ◌≤◌, ◌<◌, ℤ, nat_abs, ltb, eqb, Bool, true, false, if◌then◌else◌, List, [], ◌∷◌, ◌++◌, All, length, get_or, map, Option, Some, None, Result, Ok, Err, refl, sym, ap, ◌∙◌, subst, arith}
use Rattle.std.proofs.Math.Nat.{mul-mod_left, mul-le-mul_right, le-mul_of_pos_right}
use Rattle.std.proofs.lemmas.Bool.{ltb-false}
use Rattle.std.proofs.lemmas.Bool.Decides.{nat_tests}
use Rattle.std.proofs.lemmas.List.{length-append}
use Rattle.std.proofs.lemmas.List.Elements.{All-cons, All-nil, All-append}
use Rattle.std.proofs.lemmas.List.Sums.{fails_before_first}
use Rattle.std.specs.List.{position, position_or_len}
use Rattle.ct_vectors.specs.Vectors.{total}
use Rattle.ct_vectors.specs.declared.limits.TheConstants.{ROW_LIMIT, COLUMN_LIMIT, COST_ROW_LIMIT, ENTRY_LIMIT, COST_LIMIT}
use Rattle.ct_order.specs.Costs.{rows_of, IsCostRow}
use Rattle.ct_order.proofs.CostRows.{IsCostTable-rows_of}
use Rattle.ct_instance.specs.Instance.{Problem, IsInstance}
use Rattle.ct_instance.specs.Made.{columns_of, problem_of, zero_column_of}
use Rattle.ct_instance.proofs.Entries.{length-columns_of, columns-limit, are_columns}
use Rattle.ct_text.specs.Tokens.{text_of}
use Rattle.ct_input.specs.declared.limits.TheConstants.{INSTANCE_FILE_LIMIT, SESSION_FILE_LIMIT}
use Rattle.ct_input.specs.declared.draft.Draft.{Draft}
use Rattle.ct_input.specs.declared.fault.Fault.{Fault}
use Rattle.ct_input.specs.declared.fault.Fault.TheVariants.{TooLong}
use Rattle.ct_input.specs.declared.script.Script.{Script}
use Rattle.ct_input.specs.Sheet.{Sheet, ◌>>=◌, sheet_of}
use Rattle.ct_input.specs.Grammar.{Grammar, done, part, numbers, signeds, read}
use Rattle.ct_input.specs.InstanceText.{more_rows, cost_rows, instance_text}
use Rattle.ct_input.specs.SessionText.{session_text}
use Rattle.ct_input.specs.Files.{HasCounts, value_in, within, made_of, instance_file, session_file}
use Rattle.ct_input.specs.Accepted.{TextIsInstance, TextIsScript, IsAcceptedScript}
use Rattle.ct_input.proofs.Yields.{Yields, AreNumbers, ok_same, bind-ok, read_yields, yields-part, yields-numbers, yields-session_text}

-- ---- files

pub within_is : {A : Type 0} (limit : ℕ) (bytes : List ℕ) (value : Result A Fault) (x : A) → within limit bytes value ≡ Ok x → value ≡ Ok x
within_is {A} limit bytes value x = elim (ltb limit (length bytes)) as (λ (v : Bool). (if v then Err TooLong else value) ≡ Ok x → value ≡ Ok x) [
  | true ↦ λ same. absurd (cc)
  | false ↦ λ same. same
]

value_has : {A : Type 0} (P : A → Type 0) (grammar : Grammar A) (bytes : List ℕ) (x : A) → Yields P grammar → value_in grammar bytes ≡ Ok x → P x
value_has {A} P grammar bytes x all same =
    let b = bind-ok (read grammar (sheet_of (text_of bytes))) (λ y. Ok y.0) x same in
    subst P (ok_same b.0.0 x b.1.1) (read_yields P grammar (sheet_of (text_of bytes)) b.0 all b.1.0)

-- ---- costs

-- so many costs within their limit
record AreSigneds (count size : ℕ) (zs : List ℤ) : Type 0 where
  count_is : length zs ≡ count
  limit : All (λ z. nat_abs z ≤ size) zs

yields-signeds : (count size : ℕ) → Yields (AreSigneds count size) (signeds count size)
unfolding signeds
yields-signeds zero size = record { count_is = refl; limit = All-nil (λ z. nat_abs z ≤ size) }
yields-signeds (suc count) size = λ z within.
    yields-part (AreSigneds count size) (AreSigneds (suc count) size) (signeds count size) _ (yields-signeds count size)
    (λ zs are. record { count_is = ap suc are.count_is; limit = All-cons (λ y. nat_abs y ≤ size) z zs within are.limit })

-- rows of n costs, as many as this at least and as that at most
record AreRows (low high n : ℕ) (costs : List ℤ) : Type 0 where
  count : ℕ
  some : low ≤ count
  few : count ≤ high
  long : length costs ≡ count * n
  limit : All (λ c. nat_abs c ≤ COST_LIMIT) costs

no_row : (high n : ℕ) → AreRows 0 high n []
no_row high n = record { count = 0; some = omega arith; few = omega arith; long = omega arith; limit = All-nil (λ c. nat_abs c ≤ COST_LIMIT) }

row_more : (low high n : ℕ) (row rows : List ℤ) → AreSigneds n COST_LIMIT row → AreRows low high n rows → AreRows (suc low) (suc high) n (row ++ rows)
row_more low high n row rows first are =
    let here : length row ≡ n = first.count_is in
    let later : length rows ≡ are.count * n = are.long in
    let both : length (row ++ rows) ≡ length row + length rows = length-append row rows in
    let few : are.count ≤ high = are.few in
    let some : low ≤ are.count = are.some in
    record {
      count = suc are.count;
      some = omega (arith, some);
      few = omega (arith, few);
      long = (let e : length (row ++ rows) ≡ suc are.count * n = omega (arith, here, later, both) in e);
      limit = All-append (λ c. nat_abs c ≤ COST_LIMIT) row rows first.limit are.limit;
    }

yields-more_rows : (count n : ℕ) → Yields (AreRows 0 count n) (more_rows count n)
unfolding more_rows
yields-more_rows zero n = no_row 0 n
yields-more_rows (suc count) n = (
  yields-part (AreSigneds n COST_LIMIT) (AreRows 0 (suc count) n) (signeds n COST_LIMIT) _ (yields-signeds n COST_LIMIT) (λ row first.
      yields-part (AreRows 0 count n) (AreRows 0 (suc count) n) (more_rows count n) _ (yields-more_rows count n) (λ rows are.
      let all = row_more 0 count n row rows first are in
      record { count = all.count; some = omega arith; few = all.few; long = all.long; limit = all.limit })),
  no_row (suc count) n,
)

yields-cost_rows : (n : ℕ) → Yields (AreRows 1 COST_ROW_LIMIT n) (cost_rows n)
unfolding cost_rows
yields-cost_rows n =
    yields-part (AreSigneds n COST_LIMIT) (AreRows 1 COST_ROW_LIMIT n) (signeds n COST_LIMIT) _ (yields-signeds n COST_LIMIT) (λ row first.
    yields-part (AreRows 0 (COST_ROW_LIMIT - 1) n) (AreRows 1 COST_ROW_LIMIT n) (more_rows (COST_ROW_LIMIT - 1) n) _ (yields-more_rows (COST_ROW_LIMIT - 1) n) (λ rows are.
    row_more 0 (COST_ROW_LIMIT - 1) n row rows first are))

-- ---- the instance text

counted : (m n : ℕ) (entries : List ℕ) (costs : List ℤ) → 1 ≤ m → m ≤ ROW_LIMIT → 1 ≤ n → n ≤ COLUMN_LIMIT → AreNumbers (m * n) ENTRY_LIMIT entries → AreRows 1 COST_ROW_LIMIT n costs →
    HasCounts (record { rows = m; columns = n; entries = entries; costs = costs })
counted m n entries costs some_row few_rows some_column few_columns are rows =
    let long : length costs ≡ rows.count * n = rows.long in
    let some : n ≤ rows.count * n = (let pos : 0 < rows.count = omega (arith, rows.some) in omega (arith, le-mul_of_pos_right n pos)) in
    let few : rows.count * n ≤ COST_ROW_LIMIT * n = mul-le-mul_right n rows.few in
    record {
      some_row = some_row;
      few_rows = few_rows;
      some_column = some_column;
      few_columns = few_columns;
      entries = are.count_is;
      entry_limit = are.limit;
      whole_rows = ap (λ k. k % n) long ∙ mul-mod_left rows.count n;
      some_cost_row = omega (arith, long, some);
      few_cost_rows = omega (arith, long, few);
      cost_limit = rows.limit;
    }

yields-instance_text : Yields HasCounts instance_text
unfolding instance_text
yields-instance_text = λ m some_row few_rows n some_column few_columns.
    yields-part (AreNumbers (m * n) ENTRY_LIMIT) HasCounts (numbers (m * n) ENTRY_LIMIT) _ (yields-numbers (m * n) ENTRY_LIMIT) (λ entries are.
    yields-part (AreRows 1 COST_ROW_LIMIT n) HasCounts (cost_rows n) _ (yields-cost_rows n) (λ costs rows.
    counted m n entries costs some_row few_rows some_column few_columns are rows))

-- ---- the instance of counted numbers

-- where no sum is found to be 0, each is positive
pub none_is_zero : (sums : List ℕ) → position (λ sum. eqb sum 0) sums ≡ None → All (λ sum. 1 ≤ sum) sums
none_is_zero sums none k d l =
    let test = λ (sum : ℕ). eqb sum 0 in
    let past : length sums ≤ position_or_len test sums = elim (ltb (position_or_len test sums) (length sums)) as (λ (v : Bool). ltb (position_or_len test sums) (length sums) ≡ v → (if v then Some (position_or_len test sums) else None) ≡ None → length sums ≤ position_or_len test sums) [
      | true ↦ λ is found. absurd (cc)
      | false ↦ λ is found. ltb-false (position_or_len test sums) (length sums) is
    ] refl none in
    let here : eqb (get_or sums k d) 0 ≡ false = fails_before_first test sums k d (omega (arith, past, l)) in
    grind (arith, nat_tests)

-- numbers within their limits, whose columns have positive sums, are those of an instance
pub counts_are_instance : (d : Draft) → HasCounts d → All (λ sum. 1 ≤ sum) (map total (columns_of d.rows d.columns d.entries)) → IsInstance (problem_of d.rows d.columns d.entries d.costs)
counts_are_instance d has positive =
    let count : length (columns_of d.rows d.columns d.entries) ≡ d.columns = length-columns_of d.rows d.columns d.entries in
    let table = IsCostTable-rows_of d.columns d.costs has.some_column has.few_columns has.whole_rows has.some_cost_row has.few_cost_rows has.cost_limit in
    record {
      some_row = has.some_row;
      row_limit = has.few_rows;
      some_column = subst (λ k. 1 ≤ k) (sym count) has.some_column;
      column_limit = subst (λ k. k ≤ COLUMN_LIMIT) (sym count) has.few_columns;
      is_column = are_columns d.rows (columns_of d.rows d.columns d.entries) (columns-limit ENTRY_LIMIT d.rows d.columns d.entries has.entry_limit) positive;
      some_cost_row = table.some_row;
      cost_row_limit = table.row_limit;
      is_cost_row = subst (λ k. All (IsCostRow k) (rows_of (length d.costs / d.columns) d.columns d.costs)) (sym count) table.is_row;
    }

made_is_instance : (sheet : Sheet) (d : Draft) (zero_column : Option ℕ) (i : Problem) → HasCounts d → zero_column_of d.rows d.columns d.entries ≡ zero_column → made_of sheet d zero_column ≡ Ok i → IsInstance i
unfolding made_of
made_is_instance sheet d None i has none same = subst IsInstance (ok_same _ i same) (counts_are_instance d has (none_is_zero (map total (columns_of d.rows d.columns d.entries)) none))
made_is_instance sheet d (Some column) i has found same = absurd (cc)

pub text_is_instance : TextIsInstance
unfolding instance_file
text_is_instance bytes i same =
    let sheet = sheet_of (text_of bytes) in
    let b = bind-ok (value_in instance_text bytes) _ i (within_is INSTANCE_FILE_LIMIT bytes _ i same) in
    let has : HasCounts b.0 = value_has HasCounts instance_text bytes b.0 yields-instance_text b.1.0 in
    made_is_instance sheet b.0 (zero_column_of (b.0).rows (b.0).columns (b.0).entries) i has refl b.1.1

pub text_is_script : TextIsScript
unfolding session_file
text_is_script m bytes script same =
    value_has (IsAcceptedScript m) (session_text m) bytes script (yields-session_text m) (within_is SESSION_FILE_LIMIT bytes (value_in (session_text m) bytes) script same)

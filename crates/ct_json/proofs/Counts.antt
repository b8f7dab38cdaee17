-- The numbers that a shape gives are within their limits, and so many as it says.
use Rattle.std.proofs.Common.{◌≡◌, ℕ, zero, suc, ◌+◌, ◌-◌, ◌*◌, ◌%◌, ◌≤◌, ◌&&◌, ℤ, nat_abs, nat_le, Bool, true, false, List, [], ◌∷◌, ◌++◌, length, All, IfOk, Option, Some, None, Result, Ok, Err, refl, sym, ap, ◌∙◌, subst, arith}
use Rattle.std.proofs.Math.Nat.{mul-mod_left}
use Rattle.std.proofs.lemmas.Bool.{leb-true}
use Rattle.std.proofs.lemmas.Result.{IfOk-weaker}
use Rattle.std.proofs.lemmas.List.Elements.{All-nil, All-cons, All-head, All-tail, All-append, All-weaker}
use Rattle.std.specs.List.{flat_map}
use Rattle.std.proofs.lemmas.List.{length-append}
use Rattle.serde_json.specs.Data.{Data}
use Rattle.ct_vectors.specs.declared.limits.TheConstants.{ROW_LIMIT, COLUMN_LIMIT, COST_ROW_LIMIT, ENTRY_LIMIT, COST_LIMIT}
use Rattle.ct_input.specs.declared.draft.Draft.{Draft}
use Rattle.ct_input.specs.declared.fault.Fault.{Fault}
use Rattle.ct_input.specs.declared.path.PathStep.{PathStep}
use Rattle.ct_input.specs.declared.path.PathStep.TheVariants.{Member, Index}
use Rattle.ct_input.specs.declared.path.Name.{Name}
use Rattle.ct_input.specs.declared.path.Name.TheVariants.{Instance, Matrix, Cost}
use Rattle.ct_input.specs.declared.path.JsonReason.TheVariants.{Kind, Limit}
use Rattle.ct_input.specs.declared.fault.InputStop.{InputStop}
use Rattle.ct_input.specs.Sheet.{◌>>=◌, Gives}
use Rattle.ct_input.specs.Files.{HasCounts}
use Rattle.ct_json.specs.Values.{◌▹◌, or_refuse, only_if, natural_number, whole_number, array_at, member_at, object_at, no_others}
use Rattle.ct_json.specs.Shapes.{Shape, each, items_at, list_of, naturals, natural, natural_at, signed, signed_at, form_at, member_as}
use Rattle.ct_json.specs.InstanceShape.{joined, row_length, IsMatrix, rows_at, matrix_at, begins_with_array, cost_row, cost_rows_at, costs_at, draft_of, draft_at}
use Rattle.ct_json.proofs.Chains.{ok_bind, ok_any, ok_only_if, ok_either}

both_true : (a b : Bool) → (a && b) ≡ true → (a ≡ true) × (b ≡ true)
both_true true b h = (refl, h)
both_true false b h = absurd (cc)

-- P holds of all that the shape says
abbrev pub Says : {A : Type 0} → (A → Type 0) → Shape A → Type 0
Says P shape = (spare : ℕ) (here : List PathStep) (d : Data) → IfOk (shape.reads spare here d) P

-- so many items, of each of which P holds
pub record AreItems {A : Type 0} (P : A → Type 0) (low high : ℕ) (xs : List A) : Type 0 where
  pub some : low ≤ length xs
  pub few : length xs ≤ high
  pub all : All P xs

pub says_natural : (high : ℕ) → Says (λ n. n ≤ high) (natural high)
says_natural high spare here d = ok_any (or_refuse here Kind (natural_number d)) _ _ (λ n. ok_only_if (nat_le n high) here Limit n (λ m. m ≤ high) (leb-true n high))

says_signed : (size : ℕ) → Says (λ z. nat_abs z ≤ size) (signed size)
says_signed size spare here d = ok_any (or_refuse here Kind (whole_number d)) _ _ (λ z. ok_only_if (nat_le (nat_abs z) size) here Limit z (λ y. nat_abs y ≤ size) (leb-true (nat_abs z) size))

-- P holds of each item, and there are as many as values
pub record AreRead {A : Type 0} (P : A → Type 0) (count : ℕ) (xs : List A) : Type 0 where
  pub count_is : length xs ≡ count
  pub all : All P xs

pub says_each : {A : Type 0} (P : A → Type 0) (shape : Shape A) → Says P shape → (here : List PathStep) (index spare : ℕ) (ds : List Data) → IfOk (each shape here index spare ds) (AreRead P (length ds))
unfolding each
says_each P shape says here index spare [] = record { count_is = refl; all = All-nil P }
says_each P shape says here index spare (d ∷ ds) =
    ok_bind (shape.reads spare (here ▹ Index index) d) _ P (AreRead P (length (d ∷ ds))) (says spare (here ▹ Index index) d) (λ x holds.
    ok_bind (each shape here (index + 1) (spare - shape.uses x) ds) _ (AreRead P (length ds)) (AreRead P (length (d ∷ ds))) (says_each P shape says here (index + 1) (spare - shape.uses x) ds) (λ xs are.
    record { count_is = ap suc are.count_is; all = All-cons P x xs holds are.all }))

items_few : (low high : ℕ) (here : List PathStep) (d : Data) → IfOk (items_at low high here d) (λ ds. (low ≤ length ds) × (length ds ≤ high))
items_few low high here d = ok_any (array_at here d) _ _ (λ ds. ok_only_if (nat_le low (length ds) && nat_le (length ds) high) here Limit ds (λ es. (low ≤ length es) × (length es ≤ high))
    (λ both. let p = both_true (nat_le low (length ds)) (nat_le (length ds) high) both in (leb-true low (length ds) p.0, leb-true (length ds) high p.1)))

pub says_list : {A : Type 0} (P : A → Type 0) (shape : Shape A) (low high : ℕ) → Says P shape → Says (AreItems P low high) (list_of low high shape)
says_list P shape low high says spare here d =
    ok_bind (items_at low high here d) _ (λ ds. (low ≤ length ds) × (length ds ≤ high)) (AreItems P low high) (items_few low high here d) (λ ds are.
    IfOk-weaker (each shape here 0 spare ds) (AreRead P (length ds)) (AreItems P low high) (λ xs read. record { some = omega (arith, read.count_is, are.0); few = omega (arith, read.count_is, are.1); all = read.all }) (says_each P shape says here 0 spare ds))

-- ---- rows one after another

joined-length : {A : Type 0} (n : ℕ) (rows : List (List A)) → All (λ row. length row ≡ n) rows → length (joined rows) ≡ length rows * n
joined-length n [] all = omega arith
joined-length n (row ∷ rows) all =
    let here : length row ≡ n = All-head (λ r. length r ≡ n) row rows all in
    let later : length (joined rows) ≡ length rows * n = joined-length n rows (All-tail (λ r. length r ≡ n) row rows all) in
    length-append row (joined rows) ∙ (let e : length row + length (joined rows) ≡ length (row ∷ rows) * n = rw (here, later) (omega arith) in e)

joined-all : {A : Type 0} (P : A → Type 0) (rows : List (List A)) → All (λ row. All P row) rows → All P (joined rows)
joined-all P [] all = All-nil P
joined-all P (row ∷ rows) all =
    All-append P row (joined rows) (All-head (λ r. All P r) row rows all) (joined-all P rows (All-tail (λ r. All P r) row rows all))

-- ---- the matrix

pub row_says : (low high : ℕ) → Says (AreItems (λ a. a ≤ ENTRY_LIMIT) low high) (naturals low high ENTRY_LIMIT)
row_says low high = says_list (λ a. a ≤ ENTRY_LIMIT) (natural ENTRY_LIMIT) low high (says_natural ENTRY_LIMIT)

rows_say : (here : List PathStep) (ds : List Data) → 1 ≤ length ds → length ds ≤ ROW_LIMIT → IfOk (rows_at here ds) IsMatrix
rows_say here [] some few = absurd (omega arith)
rows_say here (d ∷ ds) some few =
    ok_bind ((naturals 1 COLUMN_LIMIT ENTRY_LIMIT).reads 0 (here ▹ Index 0) d) _ (AreItems (λ a. a ≤ ENTRY_LIMIT) 1 COLUMN_LIMIT) IsMatrix (row_says 1 COLUMN_LIMIT 0 (here ▹ Index 0) d) (λ row first.
    let n = length row in
    let shape = naturals n n ENTRY_LIMIT in
    ok_bind (each shape here 1 0 ds) _ (AreRead (AreItems (λ a. a ≤ ENTRY_LIMIT) n n) (length ds)) IsMatrix (says_each (AreItems (λ a. a ≤ ENTRY_LIMIT) n n) shape (row_says n n) here 1 0 ds) (λ rows others.
    record {
      some_row = omega arith;
      few_rows = omega (arith, others.count_is);
      some_column = first.some;
      few_columns = first.few;
      even = All-cons (λ r. length r ≡ n) row rows refl (All-weaker (AreItems (λ a. a ≤ ENTRY_LIMIT) n n) (λ r. length r ≡ n) (λ r are. omega (arith, are.some, are.few)) rows others.all);
      limit = All-cons (λ r. All (λ a. a ≤ ENTRY_LIMIT) r) row rows first.all (All-weaker (AreItems (λ a. a ≤ ENTRY_LIMIT) n n) (λ r. All (λ a. a ≤ ENTRY_LIMIT) r) (λ r are. are.all) rows others.all);
    }))

pub matrix_says : (here : List PathStep) (d : Data) → IfOk (matrix_at here d) IsMatrix
matrix_says here d =
    ok_bind (items_at 1 ROW_LIMIT here d) _ (λ ds. (1 ≤ length ds) × (length ds ≤ ROW_LIMIT)) IsMatrix (items_few 1 ROW_LIMIT here d) (λ ds few. rows_say here ds few.0 few.1)

-- ---- costs

pub record AreCosts (n : ℕ) (costs : List ℤ) : Type 0 where
  pub whole_rows : length costs % n ≡ 0
  pub some_row : n ≤ length costs
  pub few_rows : length costs ≤ COST_ROW_LIMIT * n
  pub limit : All (λ c. nat_abs c ≤ COST_LIMIT) costs

cost_row_says : (n : ℕ) → Says (AreItems (λ c. nat_abs c ≤ COST_LIMIT) n n) (cost_row n)
cost_row_says n = says_list (λ c. nat_abs c ≤ COST_LIMIT) (signed COST_LIMIT) n n (says_signed COST_LIMIT)

times_le : (k n : ℕ) → 1 ≤ k → k ≤ COST_ROW_LIMIT → (n ≤ k * n) × (k * n ≤ COST_ROW_LIMIT * n)
times_le k n some few = (grind arith, grind arith)

rows_of_costs : (n : ℕ) (rows : List (List ℤ)) → AreItems (AreItems (λ c. nat_abs c ≤ COST_LIMIT) n n) 1 COST_ROW_LIMIT rows → AreCosts n (joined rows)
rows_of_costs n rows are =
    let long : length (joined rows) ≡ length rows * n = joined-length n rows (All-weaker (AreItems (λ c. nat_abs c ≤ COST_LIMIT) n n) (λ r. length r ≡ n) (λ r row. omega (arith, row.some, row.few)) rows are.all) in
    let le = times_le (length rows) n are.some are.few in
    record {
      whole_rows = ap (λ k. k % n) long ∙ mul-mod_left (length rows) n;
      some_row = rw long le.0;
      few_rows = rw long le.1;
      limit = joined-all (λ c. nat_abs c ≤ COST_LIMIT) rows (All-weaker (AreItems (λ c. nat_abs c ≤ COST_LIMIT) n n) (λ r. All (λ c. nat_abs c ≤ COST_LIMIT) r) (λ r row. row.all) rows are.all);
    }

one_row_of_costs : (n : ℕ) (row : List ℤ) → AreItems (λ c. nat_abs c ≤ COST_LIMIT) n n row → AreCosts n row
one_row_of_costs n row are =
    let long : length row ≡ 1 * n = omega (arith, are.some, are.few) in
    record {
      whole_rows = ap (λ k. k % n) long ∙ mul-mod_left 1 n;
      some_row = are.some;
      few_rows = omega (arith, are.few);
      limit = are.all;
    }

costs_say : (n : ℕ) (here : List PathStep) (d : Data) → IfOk (costs_at n here d) (AreCosts n)
costs_say n here d =
    ok_either (begins_with_array d) (cost_rows_at n here d) ((cost_row n).reads 0 here d) (AreCosts n)
    (ok_bind ((list_of 1 COST_ROW_LIMIT (cost_row n)).reads 0 here d) _ (AreItems (AreItems (λ c. nat_abs c ≤ COST_LIMIT) n n) 1 COST_ROW_LIMIT) (AreCosts n)
    (says_list (AreItems (λ c. nat_abs c ≤ COST_LIMIT) n n) (cost_row n) 1 COST_ROW_LIMIT (cost_row_says n) 0 here d) (λ rows are. rows_of_costs n rows are))
    (IfOk-weaker ((cost_row n).reads 0 here d) (AreItems (λ c. nat_abs c ≤ COST_LIMIT) n n) (AreCosts n) (one_row_of_costs n) (cost_row_says n 0 here d))

-- ---- the whole

counts_of : (rows : List (List ℕ)) (costs : List ℤ) → IsMatrix rows → AreCosts (row_length rows) costs → HasCounts (draft_of rows costs)
counts_of rows costs matrix are = record {
  some_row = matrix.some_row;
  few_rows = matrix.few_rows;
  some_column = matrix.some_column;
  few_columns = matrix.few_columns;
  entries = joined-length (row_length rows) rows matrix.even;
  entry_limit = joined-all (λ a. a ≤ ENTRY_LIMIT) rows matrix.limit;
  whole_rows = are.whole_rows;
  some_cost_row = are.some_row;
  few_cost_rows = are.few_rows;
  cost_limit = are.limit;
}

-- a member's value says what its reading says
pub says_member : {A : Type 0} (P : A → Type 0) (name : Name) (reading : List PathStep → Data → Result A Fault) → ((here : List PathStep) (d : Data) → IfOk (reading here d) P) → (here : List PathStep) (d : Data) → IfOk (member_as name reading here d) P
says_member P name reading says here d = ok_any (member_at name here d) _ P (λ x. says (here ▹ Member name) x)

pub draft_says : (here : List PathStep) (d : Data) → IfOk (draft_at here d) HasCounts
unfolding draft_at
draft_says here d =
    ok_any (object_at here d) _ HasCounts (λ _.
    ok_any (member_as Instance form_at here d) _ HasCounts (λ _.
    ok_bind (member_as Matrix matrix_at here d) _ IsMatrix HasCounts (says_member IsMatrix Matrix matrix_at matrix_says here d) (λ rows matrix.
    ok_bind (member_as Cost (costs_at (row_length rows)) here d) _ (AreCosts (row_length rows)) HasCounts (says_member (AreCosts (row_length rows)) Cost (costs_at (row_length rows)) (costs_say (row_length rows)) here d) (λ costs are.
    ok_any (no_others (Instance ∷ Matrix ∷ Cost ∷ []) here d) _ HasCounts (λ _. counts_of rows costs matrix are)))))

-- ---- what was read

-- P holds of what a reader read, seen by a view
pub says_read : {X Y : Type 0} (view : X → Y) (P : Y → Type 0) (r : Result X InputStop) (read : Result Y Fault) → IfOk read P → Gives view r read → IfOk r (λ x. P (view x))
says_read {Y = Y} view P (Ok x) read says e = subst (λ (s : Result Y Fault). IfOk s P) e says
says_read view P (Err e) read says h = tt

-- An accepted form text stands for a form.
use Rattle.std.proofs.Common.{◌≡◌, ℕ, zero, suc, ◌+◌, ◌-◌, ◌*◌, ◌/◌, ◌%◌, ◌≤◌, ℤ, nat_abs, List, ◌++◌, All, length, map, Option, Some, None, Ok, refl, sym, ap, ap₂, ◌∙◌, subst, arith, length-append}
use Rattle.std.proofs.Math.Nat.{mul-mod_left, mul-le-mul_right}
use Rattle.std.proofs.lemmas.List.Elements.{All-cons, All-nil, All-append}
use Rattle.ct_vectors.specs.Vectors.{total}
use Rattle.ct_vectors.specs.declared.limits.TheConstants.{COLUMN_LIMIT, COST_ROW_LIMIT, ENTRY_LIMIT, COST_LIMIT}
use Rattle.ct_order.proofs.CostRows.{IsCostTable-rows_of}
use Rattle.ct_instance.specs.Instance.{IsInstance}
use Rattle.ct_instance.specs.Made.{columns_of}
use Rattle.ct_instance.proofs.Entries.{length-columns_of, are_columns}
use Rattle.ct_text.specs.Tokens.{text_of}
use Rattle.ct_input.specs.declared.limits.TheConstants.{INSTANCE_FILE_LIMIT}
use Rattle.ct_input.specs.Sheet.{Sheet, sheet_of}
use Rattle.ct_input.specs.Grammar.{numbers, signeds, read}
use Rattle.ct_input.specs.InstanceText.{more_rows, cost_rows}
use Rattle.ct_input.specs.Files.{value_in}
use Rattle.ct_input.proofs.Accepted.{within_is, none_is_zero}
use Rattle.ct_input.proofs.Yields.{Yields, AreNumbers, ok_same, bind-ok, read_yields, yields-part, yields-numbers}
use Rattle.ct_form.specs.declared.relation.Limits.{Limits}
use Rattle.ct_form.specs.Forms.{Form, given_in}
use Rattle.ct_form.specs.EqualityForms.{equal_columns, slack_count, equal_of, IsForm}
use Rattle.ct_form.specs.Kept.{free_zero_of}
use Rattle.ct_form.specs.Made.{form_of, padded_costs, HasNumbers}
use Rattle.ct_form.proofs.ZeroColumns.{zero_column_is_free}
use Rattle.ct_form.proofs.PaddedCosts.{padded_costs-limit}
use Rattle.ct_form.proofs.EqualMade.{column_count, columns_fit, made_count, made_whole, made_some, made_few, made_is_equal}
use Rattle.ct_form.proofs.FormMade.{made_is_form}
use Rattle.ct_form_text.specs.declared.draft.FormDraft.{FormDraft}
use Rattle.ct_form_text.specs.FormText.{form_number, limits, form_text}
use Rattle.ct_form_text.specs.Files as files
use Rattle.ct_form_text.specs.Files.{made_of, form_file}
use Rattle.ct_form_text.specs.Laws.{TextIsForm}
use Rattle.ct_form_text.proofs.Room.{yields-limits}

-- ---- costs

-- so many costs within their limit
abbrev AreCosts : ℕ → List ℤ → Type 0
AreCosts count costs = (length costs ≡ count) × All (λ c. nat_abs c ≤ COST_LIMIT) costs

yields-costs : (count : ℕ) → Yields (AreCosts count) (signeds count COST_LIMIT)
unfolding signeds
yields-costs zero = (refl, All-nil (λ c. nat_abs c ≤ COST_LIMIT))
yields-costs (suc count) = λ c small.
    yields-part (AreCosts count) (AreCosts (suc count)) (signeds count COST_LIMIT) _ (yields-costs count)
    (λ cs are. (ap suc are.0, All-cons (λ d. nat_abs d ≤ COST_LIMIT) c cs small are.1))

-- rows of n costs, at most so many
abbrev AreRows : ℕ → ℕ → List ℤ → Type 0
AreRows most n costs = (count : ℕ) × (count ≤ most) × AreCosts (count * n) costs

row_more : (most n : ℕ) (row rows : List ℤ) → AreCosts n row → (are : AreRows most n rows) → AreCosts (suc are.0 * n) (row ++ rows)
row_more most n row rows first are = (
  (let here : length row ≡ n = first.0 in let later : length rows ≡ are.0 * n = are.2.0 in
      let both : length (row ++ rows) ≡ length row + length rows = length-append row rows in omega (arith, here, later, both)),
  All-append (λ c. nat_abs c ≤ COST_LIMIT) row rows first.1 are.2.1,
)

yields-more_rows : (most n : ℕ) → Yields (AreRows most n) (more_rows most n)
unfolding more_rows
yields-more_rows zero n = (0, omega arith, (omega arith, All-nil (λ c. nat_abs c ≤ COST_LIMIT)))
yields-more_rows (suc most) n = (
  yields-part (AreCosts n) (AreRows (suc most) n) (signeds n COST_LIMIT) _ (yields-costs n) (λ row first.
      yields-part (AreRows most n) (AreRows (suc most) n) (more_rows most n) _ (yields-more_rows most n) (λ rows are.
      (suc are.0, omega (arith, are.1), row_more most n row rows first are))),
  (0, omega arith, (omega arith, All-nil (λ c. nat_abs c ≤ COST_LIMIT))),
)

-- one row and some more
abbrev AreCostRows : ℕ → List ℤ → Type 0
AreCostRows n costs = (more : ℕ) × (more ≤ COST_ROW_LIMIT - 1) × AreCosts (suc more * n) costs

yields-cost_rows : (n : ℕ) → Yields (AreCostRows n) (cost_rows n)
unfolding cost_rows
yields-cost_rows n =
    yields-part (AreCosts n) (AreCostRows n) (signeds n COST_LIMIT) _ (yields-costs n) (λ row first.
    yields-part (AreRows (COST_ROW_LIMIT - 1) n) (AreCostRows n) (more_rows (COST_ROW_LIMIT - 1) n) _ (yields-more_rows (COST_ROW_LIMIT - 1) n)
    (λ rows are. (are.0, are.1, row_more (COST_ROW_LIMIT - 1) n row rows first are)))

-- ---- the form text

numbered : (m n : ℕ) (entries : List ℕ) (held : Limits) (costs : List ℤ) → 1 ≤ m → 1 ≤ n → AreNumbers (m * n) ENTRY_LIMIT entries → files.HasRoom m n held → AreCostRows n costs → HasNumbers m n entries held costs
numbered m n entries held costs some_row some_column are room rows =
    let long : length costs ≡ suc rows.0 * n = rows.2.0 in
    let few : suc rows.0 * n ≤ COST_ROW_LIMIT * n = mul-le-mul_right n (let more : rows.0 ≤ COST_ROW_LIMIT - 1 = rows.1 in omega arith) in
    record {
      some_row = some_row;
      some_column = some_column;
      relation_count = room.relation_count;
      bound_for_each = room.bound_for_each;
      row_room = room.row_room;
      column_room = room.column_room;
      entry_count = are.count_is;
      entry_limit = are.limit;
      bound_limit = room.bound_limit;
      whole_rows = ap (λ k. k % n) long ∙ mul-mod_left (suc rows.0) n;
      some_cost_row = omega (arith, long);
      few_cost_rows = omega (arith, long, few);
      cost_limit = rows.2.1;
    }

yields-form_text : Yields files.AreNumbers form_text
unfolding form_text form_number
yields-form_text =
    yields-part (λ _. Unit {0}) files.AreNumbers form_number _ (tt, tt) (λ limited _ m some_row few_rows n some_column few_columns.
    yields-part (AreNumbers (m * n) ENTRY_LIMIT) files.AreNumbers (numbers (m * n) ENTRY_LIMIT) _ (yields-numbers (m * n) ENTRY_LIMIT) (λ entries are.
    yields-part (files.HasRoom m n) files.AreNumbers (limits limited m n) _ (yields-limits limited m n few_rows few_columns) (λ held room.
    yields-part (AreCostRows n) files.AreNumbers (cost_rows n) _ (yields-cost_rows n) (λ costs rows.
    numbered m n entries held costs some_row some_column are room rows))))

-- ---- the form of numbers

module _ (m n : ℕ) (es : List ℕ) (held : Limits) (costs : List ℤ) (h : HasNumbers m n es held costs) (none : free_zero_of (columns_of m n es) held.bounds ≡ None) where
  abbrev f : Form
  f = form_of m n es held costs

  abbrev cs : List (List ℕ)
  cs = equal_columns f

  abbrev s : ℕ
  s = slack_count f

  abbrev vs : List ℤ
  vs = padded_costs (length costs / n) n s costs

  wide : length cs ≡ n + s
  wide = column_count m n es held costs h

  long : length vs ≡ length costs / n * (n + s)
  long = made_count m n es held costs h s

  few : length cs ≤ COLUMN_LIMIT
  few = let room = h.column_room in omega (arith, wide)

  some : 1 ≤ length cs
  some = let one : 1 ≤ n = h.some_column in omega (arith, wide)

  positive : All (λ s. 1 ≤ s) (map total cs)
  positive = none_is_zero (map total cs) (zero_column_is_free f (h.bound_for_each ∙ sym (length-columns_of m n es)) ∙ none)

  instance : IsInstance (equal_of f)
  instance =
      let table = IsCostTable-rows_of (length cs) vs some few
      (ap₂ ◌%◌ long wide ∙ made_whole m n es held costs h s)
      (let l = made_some m n es held costs h s in omega (arith, long, wide))
      (let l = made_few m n es held costs h s in omega (arith, long, wide))
      (padded_costs-limit (length costs / n) n s costs h.cost_limit) in
      subst IsInstance (made_is_equal m n es held costs h cs s vs (length (given_in held.bounds)) refl refl refl refl) (record {
        some_row = (let one : 1 ≤ m = h.some_row in omega arith);
        row_limit = h.row_room;
        some_column = some;
        column_limit = few;
        is_column = are_columns (m + length (given_in held.bounds)) cs (columns_fit m n es held costs h) positive;
        some_cost_row = table.some_row;
        cost_row_limit = table.row_limit;
        is_cost_row = table.is_row;
      })

  numbers_are_form : IsForm f
  numbers_are_form = made_is_form m n es held costs h (equal_of f) refl instance

made_is : (sheet : Sheet) (d : FormDraft) (zero_column : Option ℕ) (f : Form) → files.AreNumbers d → free_zero_of (columns_of d.rows d.columns d.entries) d.limits.bounds ≡ zero_column →
    made_of sheet d zero_column ≡ Ok f → IsForm f
unfolding made_of
made_is sheet d None f has none same = subst IsForm (ok_same _ f same) (numbers_are_form d.rows d.columns d.entries d.limits d.costs has none)
made_is sheet d (Some column) f has found same = absurd cc

pub text_is_form : TextIsForm
unfolding form_file
text_is_form bytes f same =
    let sheet = sheet_of (text_of bytes) in
    let b = bind-ok (value_in form_text bytes) _ f (within_is INSTANCE_FILE_LIMIT bytes _ f same) in
    let d = bind-ok (read form_text sheet) (λ y. Ok y.0) b.0 b.1.0 in
    let has : files.AreNumbers b.0 = subst files.AreNumbers (ok_same d.0.0 b.0 d.1.1) (read_yields files.AreNumbers form_text sheet d.0 yields-form_text d.1.0) in
    made_is sheet b.0 _ f has refl b.1.1

use Rattle.std.proofs.Common.{◌≡◌, ◌≤◌, ◌+◌, ◌-◌, ◌*◌, ◌%◌, ◌/◌, ℕ, All, List, length, map, nat_abs, nat_eq, arith, sym, subst, subst₂, ap, ap₂, ◌∙◌}
use Rattle.std.specs.Prelude.{position}
use Rattle.ct_vectors.specs.Vectors.{total}
use Rattle.ct_vectors.specs.declared.limits.TheConstants.{ENTRY_LIMIT, COST_ROW_LIMIT, COST_LIMIT}
use Rattle.ct_instance.specs.Made.{NamesZeroColumn}
use Rattle.ct_instance.proofs.Entries.{length-columns_of}
use Rattle.ct_form.specs.EqualityForms.{slack_count, equal_columns}
use Rattle.ct_form.specs.Made.{form_of}
use Rattle.ct_form.proofs.PaddedCosts.{padded_costs-limit}
use Rattle.ct_form.proofs.ZeroColumns.{zero_column_is_free}
use Rattle.ct_form.proofs.EqualMade.{column_count, columns_fit, cost_count, made_count, made_whole, made_some, made_few, made_is_equal}
use Rattle.ct_form.proofs.making.equality_form.Goals as goal

pub overflow_sub-slacks : goal.overflow_sub-slacks
overflow_sub-slacks c =
    let wide = ap length c.in_ok-made.ensures ∙ column_count c.args.rows c.args.columns c.args.entries.now c.args.limits.now c.args.costs.now c.requires.numbers in
    omega (arith, wide, c.len.ensures)

pub costs_with_slacks-requires : goal.costs_with_slacks-requires
costs_with_slacks-requires c = cost_count c.args.rows c.args.columns c.args.entries.now c.args.limits.now c.args.costs.now c.requires.numbers

pub from_columns-requires-clause-some_column : goal.from_columns-requires-clause-some_column
from_columns-requires-clause-some_column c =
    let wide = ap length c.in_ok-made.ensures ∙ column_count c.args.rows c.args.columns c.args.entries.now c.args.limits.now c.args.costs.now c.requires.numbers in
    omega (arith, wide, c.requires.numbers.some_column)

pub from_columns-requires-clause-column_limit : goal.from_columns-requires-clause-column_limit
from_columns-requires-clause-column_limit c =
    let wide = ap length c.in_ok-made.ensures ∙ column_count c.args.rows c.args.columns c.args.entries.now c.args.limits.now c.args.costs.now c.requires.numbers in
    omega (arith, wide, c.requires.numbers.column_room)

pub from_columns-requires-clause-entries : goal.from_columns-requires-clause-entries
from_columns-requires-clause-entries c =
    subst (λ (cs : List (List ℕ)). All (λ x. (length x ≡ c.args.rows + c.args.bound_count) × All (λ a. a ≤ ENTRY_LIMIT) x) cs) (sym c.in_ok-made.ensures)
    (subst (λ k. All (λ x. (length x ≡ c.args.rows + k) × All (λ a. a ≤ ENTRY_LIMIT) x) (equal_columns (form_of c.args.rows c.args.columns c.args.entries.now c.args.limits.now c.args.costs.now))) (sym c.requires.bounds)
    (columns_fit c.args.rows c.args.columns c.args.entries.now c.args.limits.now c.args.costs.now c.requires.numbers))

pub from_columns-requires-clause-whole_rows : goal.from_columns-requires-clause-whole_rows
from_columns-requires-clause-whole_rows c =
    let s = c.len.result - c.args.columns in
    let wide = ap length c.in_ok-made.ensures ∙ column_count c.args.rows c.args.columns c.args.entries.now c.args.limits.now c.args.costs.now c.requires.numbers in
    let width : length c.in_ok-made.made.items ≡ c.args.columns + s = omega (arith, wide, c.len.ensures) in
    let long : length c.deref.result.now ≡ length c.args.costs.now / c.args.columns * (c.args.columns + s) = ap length (c.deref.ensures.value ∙ c.in_ok-costs.ensures) ∙ made_count c.args.rows c.args.columns c.args.entries.now c.args.limits.now c.args.costs.now c.requires.numbers s in
    ap₂ ◌%◌ long width ∙ made_whole c.args.rows c.args.columns c.args.entries.now c.args.limits.now c.args.costs.now c.requires.numbers s

pub from_columns-requires-clause-some_cost_row : goal.from_columns-requires-clause-some_cost_row
from_columns-requires-clause-some_cost_row c =
    let s = c.len.result - c.args.columns in
    let wide = ap length c.in_ok-made.ensures ∙ column_count c.args.rows c.args.columns c.args.entries.now c.args.limits.now c.args.costs.now c.requires.numbers in
    let width : length c.in_ok-made.made.items ≡ c.args.columns + s = omega (arith, wide, c.len.ensures) in
    let long : length c.deref.result.now ≡ length c.args.costs.now / c.args.columns * (c.args.columns + s) = ap length (c.deref.ensures.value ∙ c.in_ok-costs.ensures) ∙ made_count c.args.rows c.args.columns c.args.entries.now c.args.limits.now c.args.costs.now c.requires.numbers s in
    subst₂ (λ a b. a ≤ b) (sym width) (sym long) (made_some c.args.rows c.args.columns c.args.entries.now c.args.limits.now c.args.costs.now c.requires.numbers s)

pub from_columns-requires-clause-cost_row_limit : goal.from_columns-requires-clause-cost_row_limit
from_columns-requires-clause-cost_row_limit c =
    let s = c.len.result - c.args.columns in
    let wide = ap length c.in_ok-made.ensures ∙ column_count c.args.rows c.args.columns c.args.entries.now c.args.limits.now c.args.costs.now c.requires.numbers in
    let width : length c.in_ok-made.made.items ≡ c.args.columns + s = omega (arith, wide, c.len.ensures) in
    let long : length c.deref.result.now ≡ length c.args.costs.now / c.args.columns * (c.args.columns + s) = ap length (c.deref.ensures.value ∙ c.in_ok-costs.ensures) ∙ made_count c.args.rows c.args.columns c.args.entries.now c.args.limits.now c.args.costs.now c.requires.numbers s in
    subst₂ (λ a b. a ≤ COST_ROW_LIMIT * b) (sym long) (sym width) (made_few c.args.rows c.args.columns c.args.entries.now c.args.limits.now c.args.costs.now c.requires.numbers s)

pub from_columns-requires-clause-cost_limit : goal.from_columns-requires-clause-cost_limit
from_columns-requires-clause-cost_limit c =
    subst (λ vs. All (λ v. nat_abs v ≤ COST_LIMIT) vs) (sym (c.deref.ensures.value ∙ c.in_ok-costs.ensures))
    (padded_costs-limit _ c.args.columns _ c.args.costs.now c.requires.numbers.cost_limit)

pub returns-in-Ok-clause-ok : goal.returns-in-Ok-clause-ok
returns-in-Ok-clause-ok c =
    let s = c.len.result - c.args.columns in
    let wide = ap length c.in_ok-made.ensures ∙ column_count c.args.rows c.args.columns c.args.entries.now c.args.limits.now c.args.costs.now c.requires.numbers in
    let slacks : s ≡ slack_count (form_of c.args.rows c.args.columns c.args.entries.now c.args.limits.now c.args.costs.now) = omega (arith, wide, c.len.ensures) in
    c.in-Ok.ensures.ok ∙ made_is_equal c.args.rows c.args.columns c.args.entries.now c.args.limits.now c.args.costs.now c.requires.numbers c.in_ok-made.made.items s c.deref.result.now c.args.bound_count c.requires.bounds c.in_ok-made.ensures slacks (c.deref.ensures.value ∙ c.in_ok-costs.ensures)

pub returns-in-Ok-clause-none : goal.returns-in-Ok-clause-none
returns-in-Ok-clause-none c =
    let each = c.requires.numbers.bound_for_each ∙ sym (length-columns_of c.args.rows c.args.columns c.args.entries.now) in
    sym (zero_column_is_free (form_of c.args.rows c.args.columns c.args.entries.now c.args.limits.now c.args.costs.now) each) ∙ ap (λ (cs : List (List ℕ)). position (λ s. nat_eq s 0) (map total cs)) (sym c.in_ok-made.ensures) ∙ c.in-Ok.ensures.none

pub returns-clause-zero_column : goal.returns-clause-zero_column
returns-clause-zero_column c =
    let each = c.requires.numbers.bound_for_each ∙ sym (length-columns_of c.args.rows c.args.columns c.args.entries.now) in
    subst (NamesZeroColumn c.in-Err.bad) (ap (λ (cs : List (List ℕ)). position (λ s. nat_eq s 0) (map total cs)) c.in_ok-made.ensures ∙ zero_column_is_free (form_of c.args.rows c.args.columns c.args.entries.now c.args.limits.now c.args.costs.now) each) c.in-Err.ensures.zero_column

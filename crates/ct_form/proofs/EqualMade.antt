-- What is made of the numbers of a form is its equality form.
use Rattle.std.proofs.Common.{ℕ, ℤ, ◌≡◌, ◌≤◌, ◌<◌, ◌+◌, ◌*◌, ◌/◌, ◌%◌, All, List, [], ◌∷◌, ◌++◌, length, map, Option, Some, None, sym, subst, ap, ap₂, ◌∙◌, arith, lit≤, zero, suc, append_assoc, length-append}
use Rattle.std.specs.List.{AllByRecursion}
use Rattle.std.proofs.lemmas.List.Elements.{All-append, All-cons, All-replicate, All-from_recursion, recursion_from_All}
use Rattle.std.proofs.Math.Nat.{mul-div_cancel, mul-mod_left, mul-le-mul_right}
use Rattle.ct_vectors.specs.Vectors.{zeros}
use Rattle.ct_vectors.specs.declared.limits.TheConstants.{ENTRY_LIMIT, COST_ROW_LIMIT}
use Rattle.ct_vectors.proofs.Sums.{length-zeros}
use Rattle.ct_order.specs.Costs.{rows_of}
use Rattle.ct_order.proofs.CostRows.{whole_rows, some_rows, few_rows}
use Rattle.ct_instance.specs.Instance.{Problem}
use Rattle.ct_instance.specs.Made.{columns_of}
use Rattle.ct_instance.proofs.Entries.{length-columns_of, columns-limit}
use Rattle.ct_form.specs.declared.relation.Relation.{Relation}
use Rattle.ct_form.specs.declared.relation.Relation.TheVariants.{Eq, Le}
use Rattle.ct_form.specs.declared.relation.Limits.{Limits}
use Rattle.ct_form.specs.Forms.{Form, given_in}
use Rattle.ct_form.specs.EqualityForms.{under, over, row_slacks, bound_parts, bound_slacks, slack_count, slack_columns, equal_columns, equal_of}
use Rattle.ct_form.specs.Made.{form_of, padded_costs, HasNumbers}
use Rattle.ct_form.proofs.Columns.{length-over}
use Rattle.ct_form.proofs.Slacks.{length-bound_parts}
use Rattle.ct_form.proofs.Orders.{padded_rows}
use Rattle.ct_form.proofs.Solutions.{length-slack_columns}
use Rattle.ct_form.proofs.PaddedCosts.{length-padded_costs, rows_of-padded}

-- ---- entries within the limit

abbrev IsFit : ℕ → List ℕ → Type 0
IsFit m c = (length c ≡ m) × All (λ a. a ≤ ENTRY_LIMIT) c

abbrev AreFit : ℕ → List (List ℕ) → Type 0
AreFit m cs = AllByRecursion (IsFit m) cs

small_zeros : (n : ℕ) → All (λ a. a ≤ ENTRY_LIMIT) (zeros n)
small_zeros n = All-replicate (λ a. a ≤ ENTRY_LIMIT) n 0 (omega arith)

fit_zeros : (n : ℕ) → IsFit n (zeros n)
fit_zeros n = (length-zeros n, small_zeros n)

fit_unit : (n : ℕ) → IsFit (suc n) (1 ∷ zeros n)
fit_unit n = (ap suc (length-zeros n), All-cons (λ a. a ≤ ENTRY_LIMIT) 1 (zeros n) (lit≤ tt) (small_zeros n))

fit_joined : (m k : ℕ) (c d : List ℕ) → IsFit m c → IsFit k d → IsFit (m + k) (c ++ d)
fit_joined m k c d a b = (length-append c d ∙ ap₂ ◌+◌ a.0 b.0, All-append (λ x. x ≤ ENTRY_LIMIT) c d a.1 b.1)

fit_under : (m : ℕ) (cs : List (List ℕ)) → AreFit m cs → AreFit (suc m) (under 0 cs)
fit_under m [] a = tt
fit_under m (c ∷ cs) a = ((ap suc (a.0).0, All-cons (λ x. x ≤ ENTRY_LIMIT) 0 c (omega arith) (a.0).1), fit_under m cs a.1)

fit_over : (m k : ℕ) (cs ds : List (List ℕ)) → length cs ≡ length ds → AreFit m cs → AreFit k ds → AreFit (m + k) (over cs ds)
fit_over m k [] ds e a b = tt
fit_over m k (c ∷ cs) [] e a b = absurd (omega arith)
fit_over m k (c ∷ cs) (d ∷ ds) e a b = (fit_joined m k c d a.0 b.0, fit_over m k cs ds (omega arith) a.1 b.1)

fit_above : (m k : ℕ) (cs : List (List ℕ)) → AreFit m cs → AreFit (m + k) (map (λ c. c ++ zeros k) cs)
fit_above m k [] a = tt
fit_above m k (c ∷ cs) a = (fit_joined m k c (zeros k) a.0 (fit_zeros k), fit_above m k cs a.1)

fit_below : (m k : ℕ) (cs : List (List ℕ)) → AreFit k cs → AreFit (m + k) (map (λ c. zeros m ++ c) cs)
fit_below m k [] a = tt
fit_below m k (c ∷ cs) a = (fit_joined m k (zeros m) c (fit_zeros m) a.0, fit_below m k cs a.1)

fit_append : (m : ℕ) (cs ds : List (List ℕ)) → AreFit m cs → AreFit m ds → AreFit m (cs ++ ds)
fit_append m [] ds a b = b
fit_append m (c ∷ cs) ds a b = (a.0, fit_append m cs ds a.1 b)

fit_row_slacks : (rs : List Relation) → AreFit (length rs) (row_slacks rs)
fit_row_slacks [] = tt
fit_row_slacks (Eq ∷ rs) = fit_under (length rs) (row_slacks rs) (fit_row_slacks rs)
fit_row_slacks (Le ∷ rs) = (fit_unit (length rs), fit_under (length rs) (row_slacks rs) (fit_row_slacks rs))

fit_bound_parts : (us : List (Option ℕ)) → AreFit (length (given_in us)) (bound_parts us)
fit_bound_parts [] = tt
fit_bound_parts (None ∷ us) = (fit_zeros (length (given_in us)), fit_bound_parts us)
fit_bound_parts (Some u ∷ us) = (fit_unit (length (given_in us)), fit_under (length (given_in us)) (bound_parts us) (fit_bound_parts us))

fit_bound_slacks : (k : ℕ) → AreFit k (bound_slacks k)
fit_bound_slacks zero = tt
fit_bound_slacks (suc k) = (fit_unit k, fit_under k (bound_slacks k) (fit_bound_slacks k))

pub columns_are : (m n : ℕ) (es : List ℕ) (held : Limits) (k : ℕ) (a b c : List (List ℕ)) → k ≡ length (given_in held.bounds) →
    a ≡ over (columns_of m n es) (bound_parts held.bounds) → b ≡ a ++ map (λ x. x ++ zeros k) (row_slacks held.relations) →
    c ≡ b ++ map (λ x. zeros m ++ x) (bound_slacks k) → c ≡ equal_columns (form_of m n es held [])
columns_are m n es held k a b c same p q r =
    r ∙ ap (λ (x : List (List ℕ)). x ++ map (λ x. zeros m ++ x) (bound_slacks k)) (q ∙ ap (λ (x : List (List ℕ)). x ++ map (λ x. x ++ zeros k) (row_slacks held.relations)) p) ∙
    append_assoc (over (columns_of m n es) (bound_parts held.bounds)) (map (λ x. x ++ zeros k) (row_slacks held.relations)) (map (λ x. zeros m ++ x) (bound_slacks k)) ∙
    ap (λ k. over (columns_of m n es) (bound_parts held.bounds) ++ (map (λ x. x ++ zeros k) (row_slacks held.relations) ++ map (λ x. zeros m ++ x) (bound_slacks k))) same

-- ---- the numbers of a form

module _ (m n : ℕ) (es : List ℕ) (held : Limits) (costs : List ℤ) (h : HasNumbers m n es held costs) where
  abbrev f : Form
  f = form_of m n es held costs

  abbrev k : ℕ
  k = length (given_in held.bounds)

  abbrev rows : ℕ
  rows = length costs / n

  parts_for_columns : length (columns_of m n es) ≡ length (bound_parts held.bounds)
  parts_for_columns = length-columns_of m n es ∙ sym h.bound_for_each ∙ sym (length-bound_parts held.bounds)

  pub column_count : length (equal_columns f) ≡ n + slack_count f
  column_count =
      length-append (over (columns_of m n es) (bound_parts held.bounds)) (slack_columns f) ∙
      ap₂ ◌+◌ (length-over (columns_of m n es) (bound_parts held.bounds) parts_for_columns ∙ length-columns_of m n es) (length-slack_columns f)

  pub columns_fit : All (λ c. (length c ≡ m + k) × All (λ a. a ≤ ENTRY_LIMIT) c) (equal_columns f)
  columns_fit =
      All-from_recursion (IsFit (m + k)) (equal_columns f)
      (fit_append (m + k) (over (columns_of m n es) (bound_parts held.bounds)) (slack_columns f)
      (fit_over m k (columns_of m n es) (bound_parts held.bounds) parts_for_columns
      (recursion_from_All (IsFit m) (columns_of m n es) (columns-limit ENTRY_LIMIT m n es h.entry_limit)) (fit_bound_parts held.bounds))
      (fit_append (m + k) (map (λ c. c ++ zeros k) (row_slacks held.relations)) (map (λ c. zeros m ++ c) (bound_slacks k))
      (fit_above m k (row_slacks held.relations) (subst (λ r. AreFit r (row_slacks held.relations)) h.relation_count (fit_row_slacks held.relations)))
      (fit_below m k (bound_slacks k) (fit_bound_slacks k))))

  -- ---- the costs

  pub cost_count : length costs ≡ rows * n
  cost_count = whole_rows (length costs) n h.whole_rows

  pub some_costs : 1 ≤ rows
  some_costs = some_rows rows n h.some_column (let few : n ≤ length costs = h.some_cost_row in omega (arith, cost_count))

  pub few_costs : rows ≤ COST_ROW_LIMIT
  few_costs = few_rows rows COST_ROW_LIMIT n h.some_column (let few : length costs ≤ COST_ROW_LIMIT * n = h.few_cost_rows in omega (arith, cost_count))

  pub made_count : (s : ℕ) → length (padded_costs rows n s costs) ≡ rows * (n + s)
  made_count s = length-padded_costs rows n s costs cost_count

  pub made_whole : (s : ℕ) → rows * (n + s) % (n + s) ≡ 0
  made_whole s = mul-mod_left rows (n + s)

  pub made_some : (s : ℕ) → n + s ≤ rows * (n + s)
  made_some s = let more : 1 * (n + s) ≤ rows * (n + s) = mul-le-mul_right (n + s) some_costs in omega arith

  pub made_few : (s : ℕ) → rows * (n + s) ≤ COST_ROW_LIMIT * (n + s)
  made_few s = mul-le-mul_right (n + s) few_costs

  -- ---- the equality form

  pub made_is_equal : (cs : List (List ℕ)) (s : ℕ) (vs : List ℤ) (count : ℕ) → count ≡ k → cs ≡ equal_columns f → s ≡ slack_count f → vs ≡ padded_costs rows n s costs →
      ◌≡◌ {A = Problem} (record { rows = m + count; columns = cs; cost_rows = rows_of (length vs / length cs) (length cs) vs }) (equal_of f)
  made_is_equal cs s vs count same columns slacks values = λ t. record { rows = m + same t; columns = columns t; cost_rows = all t }
    where
      wide : length cs ≡ n + s
      wide = ap length columns ∙ column_count ∙ ap (λ z. n + z) (sym slacks)

      long : length vs ≡ rows * (n + s)
      long = ap length values ∙ made_count s

      positive : 0 < n + s
      positive = let some : 1 ≤ n = h.some_column in omega arith

      all : rows_of (length vs / length cs) (length cs) vs ≡ padded_rows (slack_count f) (rows_of rows n costs)
      all =
          (λ t. rows_of (long t / wide t) (wide t) (values t)) ∙
          ap (λ r. rows_of r (n + s) (padded_costs rows n s costs)) (mul-div_cancel rows positive) ∙
          rows_of-padded rows n s costs cost_count ∙
          ap (λ z. padded_rows z (rows_of rows n costs)) slacks

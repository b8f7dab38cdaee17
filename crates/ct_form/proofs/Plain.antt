-- The form of an instance has that instance as its equality form.
use Rattle.std.proofs.Common.{ℕ, ℤ, pos, ◌+◌, ◌≡◌, ◌≤◌, All, List, [], ◌∷◌, ◌++◌, length, map, replicate, None, refl, sym, subst, ap, ap₂, ◌∙◌, arith, zero, suc}
use Rattle.std.proofs.lemmas.List.{append-nil, length-replicate}
use Rattle.std.proofs.lemmas.List.Elements.{All-nil, All-weaker}
use Rattle.ct_vectors.specs.Vectors.{zeros}
use Rattle.ct_vectors.specs.declared.limits.TheConstants.{RIGHT_LIMIT}
use Rattle.ct_order.specs.Costs.{IsCostRow}
use Rattle.ct_instance.specs.Instance.{Problem, IsColumn, IsInstance, column_count}
use Rattle.ct_form.specs.declared.relation.Relation.TheVariants.{Eq}
use Rattle.ct_form.specs.Forms.{given_in}
use Rattle.ct_form.specs.EqualityForms.{under, over, row_slacks, bound_parts, bound_slacks, slack_columns, slack_count, equal_columns, equal_of, plain_form, IsForm}
use Rattle.ct_form.specs.Laws.{IsItself}

pub none_given : (n : ℕ) → given_in (replicate n None) ≡ []
none_given zero = refl
none_given (suc n) = none_given n

pub no_slacks : (m : ℕ) → row_slacks (replicate m Eq) ≡ []
no_slacks zero = refl
no_slacks (suc m) = ap (under 0) (no_slacks m)

over_none : (cs : List (List ℕ)) → over cs (bound_parts (replicate (length cs) None)) ≡ cs
over_none [] = refl
over_none (c ∷ cs) =
    ap₂ ◌∷◌ (ap (λ k. c ++ replicate k 0) (ap length (none_given (length cs))) ∙ append-nil c) (over_none cs)

unpadded : (rows : List (List ℤ)) → map (λ row. row ++ []) rows ≡ rows
unpadded [] = refl
unpadded (row ∷ rows) = ap₂ ◌∷◌ (append-nil row) (unpadded rows)

pub plain_equal : (i : Problem) → equal_of (plain_form i) ≡ i
plain_equal i = λ t. record { rows = rows t; columns = columns t; cost_rows = cost_rows t }
  where
    none : length (given_in (replicate (length i.columns) None)) ≡ 0
    none = ap length (none_given (length i.columns))

    rows : i.rows + length (given_in (replicate (length i.columns) None)) ≡ i.rows
    rows = omega (arith, none)

    slacks : slack_columns (plain_form i) ≡ []
    slacks =
        ap₂ (λ rs k. map (λ c. c ++ zeros k) rs ++ map (λ c. zeros i.rows ++ c) (bound_slacks k)) (no_slacks i.rows) none

    columns : equal_columns (plain_form i) ≡ i.columns
    columns = ap₂ ◌++◌ (over_none i.columns) slacks ∙ append-nil i.columns

    count : slack_count (plain_form i) ≡ 0
    count = omega (arith, none, ap length (no_slacks i.rows))

    cost_rows : map (λ row. row ++ replicate (slack_count (plain_form i)) (pos 0)) i.cost_rows ≡ i.cost_rows
    cost_rows = ap (λ k. map (λ row. row ++ replicate k (pos 0)) i.cost_rows) count ∙ unpadded i.cost_rows

pub plain_is_form : (i : Problem) → IsInstance i → IsForm (plain_form i)
plain_is_form i h = record {
  some_row = h.some_row;
  some_column = h.some_column;
  entries = All-weaker (IsColumn i.rows) (λ c. length c ≡ i.rows) (λ c column. column.entries) i.columns h.is_column;
  costs = All-weaker (IsCostRow (column_count i)) (λ row. length row ≡ length i.columns) (λ row costs. costs.entries) i.cost_rows h.is_cost_row;
  relation_count = length-replicate i.rows Eq;
  bound_for_each = length-replicate (length i.columns) None;
  bound_limit = subst (All (λ u. u ≤ RIGHT_LIMIT)) (sym (none_given (length i.columns))) (All-nil (λ u. u ≤ RIGHT_LIMIT));
  equal = subst IsInstance (sym (plain_equal i)) h;
}

pub plain_is_itself : (i : Problem) → IsInstance i → IsItself i
plain_is_itself i h = record {
  form = plain_is_form i h;
  equal = plain_equal i;
  right = λ b. ap (λ (us : List ℕ). b ++ us) (none_given (length i.columns)) ∙ append-nil b;
}

-- A form is read from its equality form.
use Rattle.std.proofs.Common.{ℕ, ℤ, pos, ◌≡◌, List, [], ◌∷◌, ◌++◌, length, map, take, replicate, refl, sym, ap, ap₂, ◌∙◌}
use Rattle.std.specs.List.{AllByRecursion}
use Rattle.std.proofs.lemmas.List.Elements.{recursion_from_All}
use Rattle.std.proofs.Math.Seq.{take-append_seam, take-length}
use Rattle.ct_form.specs.Forms.{Form}
use Rattle.ct_form.specs.EqualityForms.{over, bound_parts, slack_columns, slack_count, equal_columns, equal_of, IsForm}
use Rattle.ct_form.specs.Kept.{form_in}
use Rattle.ct_form.proofs.Columns.{AreWide, length-over}
use Rattle.ct_form.proofs.Orders.{padded_rows}
use Rattle.ct_form.proofs.Solutions.{wide_columns, parts_for_each}

take_front : {A : Type 0} (n : ℕ) (xs ys : List A) → length xs ≡ n → take n (xs ++ ys) ≡ xs
take_front n xs ys e = ap (λ k. take k (xs ++ ys)) (sym e) ∙ take-append_seam xs ys

columns_above : (m : ℕ) (cs ds : List (List ℕ)) → AreWide m cs → map (take m) (over cs ds) ≡ cs
columns_above m [] ds a = refl
columns_above m (c ∷ cs) [] a = ap₂ ◌∷◌ (whole m c a.0) (all_whole m cs a.1)
  where
    whole : (m : ℕ) (c : List ℕ) → length c ≡ m → take m c ≡ c
    whole m c e = ap (λ k. take k c) (sym e) ∙ take-length c

    all_whole : (m : ℕ) (cs : List (List ℕ)) → AreWide m cs → map (take m) cs ≡ cs
    all_whole m [] a = refl
    all_whole m (c ∷ cs) a = ap₂ ◌∷◌ (whole m c a.0) (all_whole m cs a.1)
columns_above m (c ∷ cs) (d ∷ ds) a = ap₂ ◌∷◌ (take_front m c d a.0) (columns_above m cs ds a.1)

rows_before : (n k : ℕ) (rows : List (List ℤ)) → AllByRecursion (λ row. length row ≡ n) rows → map (take n) (padded_rows k rows) ≡ rows
rows_before n k [] a = refl
rows_before n k (row ∷ rows) a = ap₂ ◌∷◌ (take_front n row (replicate k (pos 0)) a.0) (rows_before n k rows a.1)

pub form_is_in_equal : (f : Form) → IsForm f → form_in f.rows (length f.columns) f.relations f.bounds (equal_of f) ≡ f
form_is_in_equal f h = λ t. record { rows = f.rows; columns = columns t; cost_rows = cost_rows t; relations = f.relations; bounds = f.bounds }
  where
    columns : map (take f.rows) (take (length f.columns) (equal_columns f)) ≡ f.columns
    columns =
        ap (map (take f.rows)) (take_front (length f.columns) (over f.columns (bound_parts f.bounds)) (slack_columns f) (length-over f.columns (bound_parts f.bounds) (parts_for_each f h))) ∙
        columns_above f.rows f.columns (bound_parts f.bounds) (wide_columns f h)

    cost_rows : map (take (length f.columns)) (padded_rows (slack_count f) f.cost_rows) ≡ f.cost_rows
    cost_rows = rows_before (length f.columns) (slack_count f) f.cost_rows (recursion_from_All (λ row. length row ≡ length f.columns) f.cost_rows h.costs)

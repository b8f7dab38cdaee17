-- The solutions of the equality form are those of the form with the slacks behind.
use Rattle.std.proofs.Common.{ℕ, ◌+◌, ◌≡◌, List, ◌++◌, length, take, drop, map, sym, subst, ap, ap₂, ◌∙◌, arith, length-append, length-drop, take-append-drop}
use Rattle.std.proofs.lemmas.List.{length-map, length-take-le}
use Rattle.std.proofs.lemmas.List.Elements.{recursion_from_All}
use Rattle.std.proofs.Math.Seq.{take-append_seam, drop-append_seam}
use Rattle.ct_vectors.specs.Vectors.{add, zeros}
use Rattle.ct_vectors.proofs.Sums.{length-zeros, length-add_same, add-zeros, zeros-add}
use Rattle.ct_vectors.proofs.Places.{add-append}
use Rattle.ct_instance.specs.Answer.{weighted_sum, IsSolution}
use Rattle.ct_form.specs.Forms.{Form, given_in, AreHeld, AreBounded, IsFormSolution}
use Rattle.ct_form.specs.EqualityForms.{over, row_slacks, bound_parts, bound_slacks, bound_count, slack_columns, slack_count, equal_columns, equal_of, right_for, IsForm}
use Rattle.ct_form.specs.Laws.{IsExtension}
use Rattle.ct_form.proofs.Columns.{AreWide, wide-append, wide-above, wide-below, length-over, length-weighted, weighted-append, weighted-over, weighted-above, weighted-below}
use Rattle.ct_form.proofs.Slacks.{wide_row_slacks, wide_bound_parts, wide_bound_slacks, length-bound_parts, length-bound_slacks, spread, picked, sum_row_slacks, sum_bound_parts, sum_bound_slacks, length-spread, held_slack, length-held_slack, held_to_slack, held_from_slack, bounded_slack, length-bounded_slack, bounded_to_slack, bounded_from_slack}

-- ---- lists in two parts

pub same_fronts : {A : Type 0} (p q r s : List A) → length p ≡ length r → p ++ q ≡ r ++ s → p ≡ r
same_fronts p q r s e h = sym (take-append_seam p q) ∙ ap₂ take e h ∙ take-append_seam r s

pub same_backs : {A : Type 0} (p q r s : List A) → length p ≡ length r → p ++ q ≡ r ++ s → q ≡ s
same_backs p q r s e h = sym (drop-append_seam p q) ∙ ap₂ drop e h ∙ drop-append_seam r s

-- ---- the sizes of a form

pub wide_columns : (f : Form) → IsForm f → AreWide f.rows f.columns
wide_columns f h = recursion_from_All (λ c. length c ≡ f.rows) f.columns h.entries

pub parts_for_each : (f : Form) → IsForm f → length f.columns ≡ length (bound_parts f.bounds)
parts_for_each f h = sym h.bound_for_each ∙ sym (length-bound_parts f.bounds)

wide_rows : (f : Form) → IsForm f → AreWide f.rows (row_slacks f.relations)
wide_rows f h = subst (λ m. AreWide m (row_slacks f.relations)) h.relation_count (wide_row_slacks f.relations)

pub wide_slacks : (f : Form) → IsForm f → AreWide (f.rows + bound_count f) (slack_columns f)
wide_slacks f h =
    wide-append (f.rows + bound_count f) (map (λ c. c ++ zeros (bound_count f)) (row_slacks f.relations))
    (map (λ c. zeros f.rows ++ c) (bound_slacks (bound_count f)))
    (wide-above f.rows (bound_count f) (row_slacks f.relations) (wide_rows f h))
    (wide-below f.rows (bound_count f) (bound_slacks (bound_count f)) (wide_bound_slacks (bound_count f)))

pub length-slack_columns : (f : Form) → length (slack_columns f) ≡ slack_count f
length-slack_columns f =
    length-append (map (λ c. c ++ zeros (bound_count f)) (row_slacks f.relations)) (map (λ c. zeros f.rows ++ c) (bound_slacks (bound_count f))) ∙
    ap₂ ◌+◌ (length-map (row_slacks f.relations) (λ c. c ++ zeros (bound_count f)))
    (length-map (bound_slacks (bound_count f)) (λ c. zeros f.rows ++ c) ∙ length-bound_slacks (bound_count f))

pub length-equal_columns : (f : Form) → IsForm f → length (equal_columns f) ≡ length f.columns + slack_count f
length-equal_columns f h =
    length-append (over f.columns (bound_parts f.bounds)) (slack_columns f) ∙
    ap₂ ◌+◌ (length-over f.columns (bound_parts f.bounds) (parts_for_each f h)) (length-slack_columns f)

-- ---- what the equality form's columns sum up to

-- the sum for x with the slacks s of the rows and t of the bounds behind
pub sum_with_slacks : (f : Form) → IsForm f → (x s t : List ℕ) → length x ≡ length f.columns → length s ≡ length (row_slacks f.relations) →
    length t ≡ bound_count f →
    weighted_sum (f.rows + bound_count f) (equal_columns f) (x ++ (s ++ t)) ≡
    add (weighted_sum f.rows f.columns x) (spread f.relations s) ++ add (picked f.bounds x) t
sum_with_slacks f h x s t wide rows bounds =
    weighted-append (m + k) (over f.columns (bound_parts f.bounds)) (slack_columns f) x (s ++ t) (wide_slacks f h)
    (wide ∙ sym (length-over f.columns (bound_parts f.bounds) (parts_for_each f h))) ∙
    ap₂ add front back ∙
    add-append (weighted_sum m f.columns x) (picked f.bounds x) (spread f.relations s) t
    (length-weighted m f.columns x (wide_columns f h) ∙ sym (length-spread f.relations s ∙ h.relation_count))
  where
    m : ℕ
    m = f.rows

    k : ℕ
    k = bound_count f

    front : weighted_sum (m + k) (over f.columns (bound_parts f.bounds)) x ≡ weighted_sum m f.columns x ++ picked f.bounds x
    front =
        weighted-over m k f.columns (bound_parts f.bounds) x (parts_for_each f h) (wide_columns f h) (wide_bound_parts f.bounds) ∙
        ap (λ (r : List ℕ). weighted_sum m f.columns x ++ r) (sum_bound_parts f.bounds x)

    slacks : weighted_sum m (row_slacks f.relations) s ≡ spread f.relations s
    slacks = subst (λ n. weighted_sum n (row_slacks f.relations) s ≡ spread f.relations s) h.relation_count (sum_row_slacks f.relations s)

    spread_wide : length (spread f.relations s) ≡ m
    spread_wide = length-spread f.relations s ∙ h.relation_count

    back : weighted_sum (m + k) (slack_columns f) (s ++ t) ≡ spread f.relations s ++ t
    back =
        weighted-append (m + k) (map (λ c. c ++ zeros k) (row_slacks f.relations)) (map (λ c. zeros m ++ c) (bound_slacks k)) s t
        (wide-below m k (bound_slacks k) (wide_bound_slacks k))
        (rows ∙ sym (length-map (row_slacks f.relations) (λ c. c ++ zeros k))) ∙
        ap₂ add (weighted-above m k (row_slacks f.relations) s (wide_rows f h) ∙ ap (λ (r : List ℕ). r ++ zeros k) slacks)
        (weighted-below m k (bound_slacks k) t ∙ ap (λ (r : List ℕ). zeros m ++ r) (sum_bound_slacks k t bounds)) ∙
        add-append (spread f.relations s) (zeros k) (zeros m) t (spread_wide ∙ sym (length-zeros m)) ∙
        ap₂ ◌++◌ (add-zeros (spread f.relations s) m (omega (arith, spread_wide))) (zeros-add k t (omega arith))

-- ---- both directions

-- x with its slacks
abbrev pub extended : Form → List ℕ → List ℕ → List ℕ
extended f b x = x ++ (held_slack f.relations (weighted_sum f.rows f.columns x) b ++ bounded_slack f.bounds x)

pub extended_is_solution : (f : Form) → IsForm f → (b x : List ℕ) → IsFormSolution f b x → IsSolution (equal_of f) (right_for f b) (extended f b x)
extended_is_solution f h b x solution = record { numbers = numbers; equal = sums }
  where
    sum : List ℕ
    sum = weighted_sum f.rows f.columns x

    s : List ℕ
    s = held_slack f.relations sum b

    t : List ℕ
    t = bounded_slack f.bounds x

    numbers : length (extended f b x) ≡ length (equal_columns f)
    numbers =
        length-append x (s ++ t) ∙
        ap₂ ◌+◌ solution.numbers (length-append s t ∙ ap₂ ◌+◌ (length-held_slack f.relations sum b) (length-bounded_slack f.bounds x)) ∙
        sym (length-equal_columns f h)

    sums : weighted_sum (f.rows + bound_count f) (equal_columns f) (extended f b x) ≡ right_for f b
    sums =
        sum_with_slacks f h x s t solution.numbers (length-held_slack f.relations sum b) (length-bounded_slack f.bounds x) ∙
        ap₂ ◌++◌ (held_to_slack f.relations sum b solution.rows) (bounded_to_slack f.bounds x solution.bounds)

-- a solution of the equality form begins with a solution of the form, and is that one with its slacks
pub record IsCut (f : Form) (b z : List ℕ) : Type 0 where
  pub solution : IsFormSolution f b (take (length f.columns) z)
  pub whole : z ≡ extended f b (take (length f.columns) z)

pub solution_is_cut : (f : Form) → IsForm f → (b : List ℕ) → length b ≡ f.rows → (z : List ℕ) → IsSolution (equal_of f) (right_for f b) z → IsCut f b z
solution_is_cut f h b right z solution =
    record {
      solution = record { numbers = x_wide; rows = held.0; bounds = bounded.0 };
      whole = sym parts ∙ ap₂ (λ (p q : List ℕ). x ++ (p ++ q)) held.1 bounded.1;
    }
  where
    n : ℕ
    n = length f.columns

    l : ℕ
    l = length (row_slacks f.relations)

    x : List ℕ
    x = take n z

    s : List ℕ
    s = take l (drop n z)

    t : List ℕ
    t = drop l (drop n z)

    parts : x ++ (s ++ t) ≡ z
    parts = ap (λ (r : List ℕ). x ++ r) (take-append-drop l (drop n z)) ∙ take-append-drop n z

    wide : length z ≡ n + (l + bound_count f)
    wide = solution.numbers ∙ length-equal_columns f h

    x_wide : length x ≡ n
    x_wide = length-take-le n z (omega (arith, wide))

    s_wide : length s ≡ l
    s_wide = length-take-le l (drop n z) (omega (arith, wide, length-drop n z))

    t_wide : length t ≡ bound_count f
    t_wide = omega (arith, wide, length-drop n z, length-drop l (drop n z))

    sums : add (weighted_sum f.rows f.columns x) (spread f.relations s) ++ add (picked f.bounds x) t ≡ b ++ given_in f.bounds
    sums =
        sym (sum_with_slacks f h x s t x_wide s_wide t_wide) ∙
        ap (weighted_sum (f.rows + bound_count f) (equal_columns f)) parts ∙ solution.equal

    sum_wide : length (weighted_sum f.rows f.columns x) ≡ f.rows
    sum_wide = length-weighted f.rows f.columns x (wide_columns f h)

    front_wide : length (add (weighted_sum f.rows f.columns x) (spread f.relations s)) ≡ length b
    front_wide =
        length-add_same (weighted_sum f.rows f.columns x) (spread f.relations s) sum_wide (length-spread f.relations s ∙ h.relation_count) ∙ sym right

    held : AreHeld f.relations (weighted_sum f.rows f.columns x) b × (s ≡ held_slack f.relations (weighted_sum f.rows f.columns x) b)
    held =
        held_from_slack f.relations (weighted_sum f.rows f.columns x) b s (sum_wide ∙ sym h.relation_count) s_wide
        (same_fronts (add (weighted_sum f.rows f.columns x) (spread f.relations s)) (add (picked f.bounds x) t) b (given_in f.bounds) front_wide sums)

    bounded : AreBounded f.bounds x × (t ≡ bounded_slack f.bounds x)
    bounded =
        bounded_from_slack f.bounds x t (x_wide ∙ sym h.bound_for_each) t_wide
        (same_backs (add (weighted_sum f.rows f.columns x) (spread f.relations s)) (add (picked f.bounds x) t) b (given_in f.bounds) front_wide sums)

pub extended_front : (f : Form) (b x : List ℕ) → length x ≡ length f.columns → take (length f.columns) (extended f b x) ≡ x
extended_front f b x e =
    ap (λ n. take n (extended f b x)) (sym e) ∙
    take-append_seam x (held_slack f.relations (weighted_sum f.rows f.columns x) b ++ bounded_slack f.bounds x)

pub solutions_are_cut : (f : Form) → IsForm f → (b : List ℕ) → length b ≡ f.rows → (z : List ℕ) →
    IsSolution (equal_of f) (right_for f b) z → IsFormSolution f b (take (length f.columns) z)
solutions_are_cut f h b right z solution = (solution_is_cut f h b right z solution).solution

pub solutions_are_extended : (f : Form) → IsForm f → (b : List ℕ) → length b ≡ f.rows → (x : List ℕ) → IsFormSolution f b x → (z : List ℕ) × IsExtension f b x z
solutions_are_extended f h b right x solution = (extended f b x, record { solution = extended_is_solution f h b x solution; front = extended_front f b x solution.numbers; only = only })
  where
    only : (w : List ℕ) → IsSolution (equal_of f) (right_for f b) w → take (length f.columns) w ≡ x → w ≡ extended f b x
    only w other front = (solution_is_cut f h b right w other).whole ∙ ap (extended f b) front

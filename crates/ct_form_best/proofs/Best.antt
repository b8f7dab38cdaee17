-- The k least solutions of the equality form, cut, are the k least of the form.
use Rattle.std.proofs.Common.{ℕ, ℤ, ◌+◌, ◌≡◌, ◌≤◌, List, [], ◌∷◌, ◌++◌, length, get_or, map, take, Contains, All, Less, refl, sym, subst, ap, ap₂, ◌∙◌, arith}
use Rattle.std.specs.List.{AllByRecursion}
use Rattle.std.specs.Ordering.{nat_cmp, ordering_then}
use Rattle.std.proofs.lemmas.List.{append_assoc, length-map, get_or-map}
use Rattle.std.proofs.lemmas.List.Elements.{All-map, All-contains, All-head, All-tail, recursion_from_All}
use Rattle.ct_vectors.specs.Vectors.{zeros}
use Rattle.ct_order.specs.Order.{cost_order}
use Rattle.ct_instance.specs.Instance.{Problem, column_count}
use Rattle.ct_instance.specs.Answer.{weighted_sum, IsSolution, costs_of}
use Rattle.ct_instance.proofs.Answer.{art_total_of_solution}
use Rattle.ct_instance.proofs.Fiber.{below_itself}
use Rattle.ct_instance.proofs.Lists.{Contains-map}
use Rattle.ct_instance.proofs.Ordered.{InOrder-map, InOrder-pairs, InOrder-from_pairs}
use Rattle.ct_form.specs.Forms.{Form, IsFormSolution, form_costs_of}
use Rattle.ct_form.specs.EqualityForms.{bound_count, slack_count, equal_of, right_for, IsForm}
use Rattle.ct_form.proofs.Orders.{padded_rows, costs-front, order-front}
use Rattle.ct_form.proofs.Slacks.{held_slack, bounded_slack}
use Rattle.ct_form.proofs.Solutions.{extended, extended_is_solution, IsCut, solution_is_cut, extended_front}
use Rattle.ct_best.specs.Best.{point_of, IsSmaller, AreBest}
use Rattle.ct_best_report.specs.declared.reports.Solution.{Solution}
use Rattle.ct_best_report.specs.BestReport.{AreBestWithCosts}
use Rattle.ct_form_best.specs.FormBest.{IsFormSmaller, AreFormBest}

-- solutions have no artificials, so that the costs and then the first difference decide
by_costs : (i : Problem) (x z : List ℕ) → length x ≡ column_count i → length z ≡ column_count i → IsSmaller i x z →
    cost_order i.cost_rows (x ++ zeros i.rows) (z ++ zeros i.rows) ≡ Less
by_costs i x z e f smaller =
    sym (ap₂ (λ p q. ordering_then (nat_cmp p q) (cost_order i.cost_rows (x ++ zeros i.rows) (z ++ zeros i.rows)))
    (art_total_of_solution (column_count i) i.rows x e) (art_total_of_solution (column_count i) i.rows z f)) ∙ smaller

module _ (f : Form) (h : IsForm f) (b : List ℕ) (right : length b ≡ f.rows) where
  abbrev n : ℕ
  n = length f.columns

  abbrev i : Problem
  i = equal_of f

  abbrev IsWhole : List ℕ → Type 0
  IsWhole z = IsSolution i (right_for f b) z

  abbrev none : List ℕ
  none = zeros (f.rows + bound_count f)

  abbrev slacks : List ℕ → List ℕ
  slacks x = held_slack f.relations (weighted_sum f.rows f.columns x) b ++ bounded_slack f.bounds x

  cost_sizes : AllByRecursion (λ row. length row ≡ n) f.cost_rows
  cost_sizes = recursion_from_All (λ row. length row ≡ n) f.cost_rows h.costs

  cut : (z : List ℕ) → IsWhole z → IsCut f b z
  cut z whole = solution_is_cut f h b right z whole

  -- a smaller solution of the equality form begins with a smaller one of the form
  smaller_cut : (x z : List ℕ) → IsWhole x → IsWhole z → IsSmaller i x z → IsFormSmaller f (take n x) (take n z)
  smaller_cut x z p q smaller =
      sym (order-front n (slack_count f) f.cost_rows cost_sizes (take n x) (take n z) (slacks (take n x) ++ none) (slacks (take n z) ++ none) ((cut x p).solution).numbers ((cut z q).solution).numbers differ) ∙
      sym (ap₂ (cost_order (padded_rows (slack_count f) f.cost_rows))
      (ap (λ r. r ++ none) (cut x p).whole ∙ append_assoc (take n x) (slacks (take n x)) none)
      (ap (λ r. r ++ none) (cut z q).whole ∙ append_assoc (take n z) (slacks (take n z)) none)) ∙
      by_costs i x z p.numbers q.numbers smaller
    where
      differ : take n x ≡ take n z → ⊥
      differ same =
          let one : x ≡ z = (cut x p).whole ∙ ap (extended f b) same ∙ sym (cut z q).whole in
          below_itself i (point_of i z) (subst (λ (y : List ℕ). IsSmaller i y z) one smaller)

  module _ (k : ℕ) (zs : List (List ℕ)) (best : AreBest i k (right_for f b) zs) where
    whole_in : (z : List ℕ) → Contains zs z → IsWhole z
    whole_in z c = All-contains IsWhole zs z best.solutions c

    shorter : length (map (take n) zs) ≡ length zs
    shorter = length-map zs (take n)

    left : (x : List ℕ) → IsFormSolution f b x → (Contains (map (take n) zs) x → ⊥) → (length (map (take n) zs) ≡ k) × All (λ y. IsFormSmaller f y x) (map (take n) zs)
    left x solution apart = (
      shorter ∙ others.0,
      All-map (λ y. IsFormSmaller f y x) (take n) zs
          (λ at d l. subst (IsFormSmaller f (take n (get_or zs at d))) front (smaller_cut (get_or zs at d) z (best.solutions at d l) whole (others.1 at d l))),
    )
      where
        z : List ℕ
        z = extended f b x

        whole : IsWhole z
        whole = extended_is_solution f h b x solution

        front : take n z ≡ x
        front = extended_front f b x solution.numbers

        others : (length zs ≡ k) × All (λ y. IsSmaller i y z) zs
        others = best.left z whole (λ c. apart (subst (Contains (map (take n) zs)) front (Contains-map (take n) zs z c)))

    cut_best : AreFormBest f k b (map (take n) zs)
    cut_best = record {
      solutions = All-map (IsFormSolution f b) (take n) zs (λ at d l. (cut (get_or zs at d) (best.solutions at d l)).solution);
      ordered = InOrder-pairs (IsFormSmaller f) (map (take n) zs)
          (InOrder-map (IsSmaller i) (IsFormSmaller f) (take n) zs (λ x z c d smaller. smaller_cut x z (whole_in x c) (whole_in z d) smaller)
          (InOrder-from_pairs (IsSmaller i) zs best.ordered));
      most = subst (λ l. l ≤ k) (sym shorter) best.most;
      left = left;
    }

  -- slack columns cost nothing
  same_costs : (z : List ℕ) → IsWhole z → costs_of i z ≡ form_costs_of f (take n z)
  same_costs z whole =
      ap (costs_of i) (cut z whole).whole ∙
      costs-front n (slack_count f) f.cost_rows cost_sizes (take n z) (slacks (take n z)) ((cut z whole).solution).numbers

  all_same_costs : (zs : List (List ℕ)) → All IsWhole zs → map (costs_of i) zs ≡ map (form_costs_of f) (map (take n) zs)
  all_same_costs [] all = refl
  all_same_costs (z ∷ zs) all = ap₂ ◌∷◌ (same_costs z (All-head IsWhole z zs all)) (all_same_costs zs (All-tail IsWhole z zs all))

  shown_best : (k : ℕ) (solutions : List Solution) → AreBestWithCosts i n k (right_for f b) solutions →
      AreFormBest f k b (map (λ s. s.point) solutions) × All (λ s. s.costs ≡ form_costs_of f s.point) solutions
  shown_best k solutions a = (subst (AreFormBest f k b) (sym a.shown) (cut_best k a.points a.best), each)
    where
      paid : map (λ (s : Solution). s.costs) solutions ≡ map (form_costs_of f) (map (λ (s : Solution). s.point) solutions)
      paid = a.paid ∙ all_same_costs a.points a.best.solutions ∙ ap (map (form_costs_of f)) (sym a.shown)

      each : All (λ (s : Solution). s.costs ≡ form_costs_of f s.point) solutions
      each at d l =
          sym (get_or-map (λ (s : Solution). s.costs) solutions at d d.costs l) ∙
          ap (λ (all : List (List ℤ)). get_or all at d.costs) paid ∙
          get_or-map (form_costs_of f) (map (λ (s : Solution). s.point) solutions) at d.point d.costs (omega (arith, l, length-map solutions (λ (s : Solution). s.point))) ∙
          ap (form_costs_of f) (get_or-map (λ (s : Solution). s.point) solutions at d d.point l)

pub cut_is_best : (f : Form) → IsForm f → (k : ℕ) (b : List ℕ) → length b ≡ f.rows → (zs : List (List ℕ)) → AreBest (equal_of f) k (right_for f b) zs →
    AreFormBest f k b (map (take (length f.columns)) zs)
cut_is_best f h k b right zs best = cut_best f h b right k zs best

pub shown_is_best : (f : Form) → IsForm f → (k : ℕ) (b : List ℕ) → length b ≡ f.rows → (solutions : List Solution) →
    AreBestWithCosts (equal_of f) (length f.columns) k (right_for f b) solutions →
    AreFormBest f k b (map (λ s. s.point) solutions) × All (λ s. s.costs ≡ form_costs_of f s.point) solutions
shown_is_best f h k b right solutions shown = shown_best f h b right k solutions shown

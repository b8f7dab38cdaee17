-- The answer of a form is its least solution.
use Rattle.std.proofs.Common.{ℕ, ℤ, ◌+◌, ◌≡◌, ◌⊎◌, ◌↔◌, inl, inr, ⊎_elim, List, ◌++◌, length, take, Less, Equal, sym, subst₂, ap, ap₂, ◌∙◌, arith, length-append}
use Rattle.std.specs.List.{AllByRecursion}
use Rattle.std.specs.Ordering.{nat_cmp, ordering_then}
use Rattle.std.proofs.lemmas.List.{append_assoc}
use Rattle.std.proofs.lemmas.List.Elements.{recursion_from_All}
use Rattle.ct_vectors.specs.Vectors.{zeros}
use Rattle.ct_order.specs.Order.{cost_order}
use Rattle.ct_order.proofs.Order.{cost_order_total}
use Rattle.std.specs.Cmp.{tied_itself}
use Rattle.ct_instance.specs.Instance.{Problem, IsRight, column_count}
use Rattle.ct_instance.specs.Fiber.{IsBelow}
use Rattle.ct_instance.specs.Answer.{weighted_sum, IsSolution, costs_of, optimum, infeasible}
use Rattle.ct_instance.specs.Laws.{IsOptimum}
use Rattle.ct_instance.proofs.Answer.{answer_cases, short_has_no_solution, art_total_of_solution}
use Rattle.ct_form.specs.Forms.{Form, given_in, IsFormSolution, form_costs_of}
use Rattle.ct_form.specs.EqualityForms.{bound_count, slack_count, equal_of, right_for, cut_to, form_answer_of, IsForm}
use Rattle.ct_form.specs.Laws.{IsFormOptimum}
use Rattle.ct_form.proofs.Orders.{padded_rows, costs-front, order-front, same_or_not}
use Rattle.ct_form.proofs.Slacks.{held_slack, bounded_slack}
use Rattle.ct_form.proofs.Solutions.{extended, extended_is_solution, IsCut, solution_is_cut, extended_front}

cost_sizes : (f : Form) → IsForm f → AllByRecursion (λ row. length row ≡ length f.columns) f.cost_rows
cost_sizes f h = recursion_from_All (λ row. length row ≡ length f.columns) f.cost_rows h.costs

right_is_right : (f : Form) (b : List ℕ) → length b ≡ f.rows → IsRight (equal_of f) (right_for f b)
right_is_right f b e = length-append b (given_in f.bounds) ∙ ap (λ m. m + bound_count f) e

-- what is below with no artificials is below by the costs and then the first difference
order_of_solutions : (i : Problem) (x z : List ℕ) → length x ≡ column_count i → length z ≡ column_count i → IsBelow i (x ++ zeros i.rows) (z ++ zeros i.rows) →
    cost_order i.cost_rows (x ++ zeros i.rows) (z ++ zeros i.rows) ≡ Less
order_of_solutions i x z e f b =
    sym (ap₂ (λ p q. ordering_then (nat_cmp p q) (cost_order i.cost_rows (x ++ zeros i.rows) (z ++ zeros i.rows)))
    (art_total_of_solution (column_count i) i.rows x e) (art_total_of_solution (column_count i) i.rows z f)) ∙ b

-- the optimum of the equality form begins with the optimum of the form
optimum_is_cut : (f : Form) → IsForm f → (b : List ℕ) → length b ≡ f.rows → (z : List ℕ) (costs : List ℤ) → IsOptimum (equal_of f) (right_for f b) z costs →
    IsFormOptimum f b (take (length f.columns) z) costs
optimum_is_cut f h b right z costs o = record { solution = cut.solution; below = below; paid = paid }
  where
    n : ℕ
    n = length f.columns

    x : List ℕ
    x = take n z

    cut : IsCut f b z
    cut = solution_is_cut f h b right z o.solution

    slacks : List ℕ → List ℕ
    slacks w = held_slack f.relations (weighted_sum f.rows f.columns w) b ++ bounded_slack f.bounds w

    none : List ℕ
    none = zeros (f.rows + bound_count f)

    below : (w : List ℕ) → IsFormSolution f b w → (w ≡ x → ⊥) → cost_order f.cost_rows x w ≡ Less
    below w s differ =
        sym (order-front n (slack_count f) f.cost_rows (cost_sizes f h) x w (slacks x ++ none) (slacks w ++ none) (cut.solution).numbers s.numbers (λ e. differ (sym e))) ∙
        sym (ap₂ (cost_order (padded_rows (slack_count f) f.cost_rows)) (ap (λ r. r ++ none) cut.whole ∙ append_assoc x (slacks x) none) (append_assoc w (slacks w) none)) ∙
        order_of_solutions (equal_of f) z (extended f b w) (o.solution).numbers whole.numbers
        (o.below (extended f b w) whole (λ e. differ (sym (extended_front f b w s.numbers) ∙ ap (take n) e)))
      where
        whole : IsSolution (equal_of f) (right_for f b) (extended f b w)
        whole = extended_is_solution f h b w s

    paid : costs ≡ form_costs_of f x
    paid =
        o.paid ∙ ap (costs_of (equal_of f)) cut.whole ∙
        costs-front n (slack_count f) f.cost_rows (cost_sizes f h) x (slacks x) (cut.solution).numbers

-- what the answer is, with what it means
pub form_answer_cases : (f : Form) → IsForm f → (b : List ℕ) → length b ≡ f.rows →
    ((x : List ℕ) × (costs : List ℤ) × (form_answer_of f b ≡ optimum x costs) × IsFormOptimum f b x costs) ⊎
    ((s : ℕ) × (form_answer_of f b ≡ infeasible s) × ((x : List ℕ) → IsFormSolution f b x → ⊥))
form_answer_cases f h b right =
    ⊎_elim (λ c. inl (take (length f.columns) c.0, c.1, ap (cut_to (length f.columns)) c.2, optimum_is_cut f h b right c.0 c.1 c.3))
    (λ c. inr (c.0, ap (cut_to (length f.columns)) c.1, λ x s. short_has_no_solution (equal_of f) (right_for f b) c.0 c.2 (extended f b x) (extended_is_solution f h b x s)))
    (answer_cases (equal_of f) h.equal (right_for f b) (right_is_right f b right))

not_below_itself : (rows : List (List ℤ)) (x : List ℕ) → cost_order rows x x ≡ Less → ⊥
not_below_itself rows x e = let d : Equal ≡ Less = sym (tied_itself (cost_order_total rows) x) ∙ e in grind arith

one_form_optimum : (f : Form) (b x z : List ℕ) (costs others : List ℤ) → IsFormOptimum f b x costs → IsFormOptimum f b z others → (x ≡ z) × (costs ≡ others)
one_form_optimum f b x z costs others o u = (same, o.paid ∙ ap (form_costs_of f) same ∙ sym u.paid)
  where
    same : x ≡ z
    same =
        ⊎_elim (λ e. e)
        (λ differ. absurd (not_below_itself f.cost_rows x ((cost_order_total f.cost_rows).trans x z x (o.below z u.solution (λ e. differ (sym e))) (u.below x o.solution differ))))
        (same_or_not x z)

pub answer_is_form_optimum : (f : Form) → IsForm f → (b : List ℕ) → length b ≡ f.rows → (x : List ℕ) (costs : List ℤ) →
    (form_answer_of f b ≡ optimum x costs) ↔ IsFormOptimum f b x costs
answer_is_form_optimum f h b right x costs = (there, back)
  where
    there : form_answer_of f b ≡ optimum x costs → IsFormOptimum f b x costs
    there s =
        ⊎_elim (λ c.
        let d : optimum c.0 c.1 ≡ optimum x costs = sym c.2 ∙ s in
        let p : c.0 ≡ x = cc in
        let q : c.1 ≡ costs = cc in
        subst₂ (IsFormOptimum f b) p q c.3)
        (λ c. let d : infeasible c.0 ≡ optimum x costs = sym c.1 ∙ s in absurd (cc)) (form_answer_cases f h b right)

    back : IsFormOptimum f b x costs → form_answer_of f b ≡ optimum x costs
    back o =
        ⊎_elim (λ c. let t = one_form_optimum f b c.0 x c.1 costs c.3 o in c.2 ∙ ap₂ optimum t.0 t.1)
        (λ c. absurd (c.2 x o.solution)) (form_answer_cases f h b right)

pub none_is_infeasible : (f : Form) → IsForm f → (b : List ℕ) → length b ≡ f.rows →
    ((s : ℕ) × (form_answer_of f b ≡ infeasible s)) ↔ ((x : List ℕ) → IsFormSolution f b x → ⊥)
none_is_infeasible f h b right = (there, back)
  where
    there : ((s : ℕ) × (form_answer_of f b ≡ infeasible s)) → (x : List ℕ) → IsFormSolution f b x → ⊥
    there t =
        ⊎_elim (λ c. let d : optimum c.0 c.1 ≡ infeasible t.0 = sym c.2 ∙ t.1 in absurd (cc)) (λ c. c.2) (form_answer_cases f h b right)

    back : ((x : List ℕ) → IsFormSolution f b x → ⊥) → (s : ℕ) × (form_answer_of f b ≡ infeasible s)
    back none = ⊎_elim (λ c. absurd (none c.0 (c.3).solution)) (λ c. (c.0, c.1)) (form_answer_cases f h b right)

-- Least points: how large they are, and what they answer.
use Rattle.std.proofs.Common.{◌≡◌, ℕ, ◌+◌, ◌*◌, ◌<◌, ◌≤◌, ℤ, List, [], ◌∷◌, true, false, nat_eq, length, take, map, get_or, All, sym, ap, ap₂, ◌∙◌, subst, refl, arith, eq-eqb}
use Rattle.std.proofs.lemmas.Bool.{ne_eqb}
use Rattle.std.proofs.lemmas.List.{get_or_default}
use Rattle.std.proofs.lemmas.List.Elements.{All-tail, All-weaker}
use Rattle.ct_vectors.specs.Vectors.{total}
use Rattle.ct_vectors.specs.declared.limits.TheConstants.{ROW_LIMIT, RIGHT_LIMIT, GRADE_LIMIT, JOB_GRADE_LIMIT}
use Rattle.ct_vectors.proofs.Sums.{total-limit}
use Rattle.ct_order.specs.Costs.{IsCostRow}
use Rattle.ct_order.specs.Order.{cost_of, art_total_of}
use Rattle.ct_order.proofs.CostSums.{cost_of-take}
use Rattle.ct_instance.specs.Answer.{costs_of, outcome_of, answer_of, optimum, infeasible}
use Rattle.ct_instance.specs.Instance.{Problem, IsInstance, IsRight, IsPoint, column_count, grade_of, degree_of}
use Rattle.ct_instance.specs.Fiber.{least_of}
use Rattle.ct_instance.proofs.Degree.{columns, coordinate-le-grade}
use Rattle.ct_instance.proofs.Fiber.{least_in_fiber}

-- ---- costs

-- the costs of a point's first coordinates are each row's cost of the point
pub costs_of-take : (i : Problem) → IsInstance i → (p : List ℕ) → costs_of i (take (column_count i) p) ≡ map (λ row. cost_of row p) i.cost_rows
costs_of-take i inst p = by_rows i.cost_rows inst.is_cost_row
  where
    by_rows : (rows : List (List ℤ)) → All (IsCostRow (column_count i)) rows → map (λ row. cost_of row (take (column_count i) p)) rows ≡ map (λ row. cost_of row p) rows
    by_rows [] h = refl
    by_rows (row ∷ rows) h =
        let first : IsCostRow (column_count i) row = h 0 row (omega arith) in
        ap₂ ◌∷◌ (ap (λ n. cost_of row (take n p)) (sym first.entries) ∙ cost_of-take row p) (by_rows rows (All-tail (IsCostRow (column_count i)) row rows h))

-- ---- least points

-- the sum of a right-hand side
pub right-total : (i : Problem) → IsInstance i → (b : List ℕ) → IsRight i b → All (λ x. x ≤ RIGHT_LIMIT) b → total b ≤ GRADE_LIMIT
right-total i inst b right limit =
    let sum : total b ≤ length b * RIGHT_LIMIT = total-limit RIGHT_LIMIT b limit in
    let most : length b ≤ ROW_LIMIT = subst (λ (m : ℕ). m ≤ ROW_LIMIT) (sym right) inst.row_limit in
    omega arith

pub least_is_point : (i : Problem) → IsInstance i → (b : List ℕ) → IsRight i b → IsPoint i (least_of i b)
least_is_point i inst b right = (least_in_fiber i inst b right).point

-- the coordinates of a least point
pub least-limit : (i : Problem) → IsInstance i → (b : List ℕ) → IsRight i b → All (λ x. x ≤ RIGHT_LIMIT) b → All (λ x. x ≤ GRADE_LIMIT) (least_of i b)
least-limit i inst b right limit k d within =
    let sum : total b ≤ GRADE_LIMIT = right-total i inst b right limit in
    let degree : degree_of i.columns (least_of i b) ≡ b = (least_in_fiber i inst b right).degree in
    let grade : grade_of i.columns (least_of i b) ≡ total b = ap total degree in
    let coordinate : get_or (least_of i b) k 0 ≤ grade_of i.columns (least_of i b) = coordinate-le-grade i.rows i.columns (columns i inst) (least_of i b) k in
    let small : get_or (least_of i b) k 0 ≤ GRADE_LIMIT = omega arith in
    subst (λ (x : ℕ). x ≤ GRADE_LIMIT) (get_or_default (least_of i b) k 0 d within) small

-- a point that costs of n columns can be asked about
pub record Fits (n : ℕ) (p : List ℕ) : Type 0 where
  pub some : n < length p
  pub most : length p ≤ n + ROW_LIMIT
  pub limit : All (λ x. x ≤ JOB_GRADE_LIMIT) p

pub least_fits : (i : Problem) → IsInstance i → (b : List ℕ) → IsRight i b → All (λ x. x ≤ RIGHT_LIMIT) b → (p : List ℕ) → p ≡ least_of i b → Fits (column_count i) p
least_fits i inst b right limit p same =
    let width : length (least_of i b) ≡ column_count i + i.rows = least_is_point i inst b right in
    let long : length p ≡ length (least_of i b) = ap length same in
    let some_row : 1 ≤ i.rows = inst.some_row in
    let few_rows : i.rows ≤ ROW_LIMIT = inst.row_limit in
    record {
      some = omega arith;
      most = omega arith;
      limit = subst (λ (q : List ℕ). All (λ x. x ≤ JOB_GRADE_LIMIT) q) (sym same) (All-weaker (λ (x : ℕ). x ≤ GRADE_LIMIT) (λ (x : ℕ). x ≤ JOB_GRADE_LIMIT) (λ x h. omega arith) (least_of i b) (least-limit i inst b right limit));
    }

-- ---- what a least point answers

pub outcome-optimum : (i : Problem) → IsInstance i → (p : List ℕ) → art_total_of (column_count i) p ≡ 0 →
    outcome_of i p ≡ optimum (take (column_count i) p) (map (λ row. cost_of row p) i.cost_rows)
outcome-optimum i inst p none =
    let zero : nat_eq (art_total_of (column_count i) p) 0 ≡ true = eq-eqb (art_total_of (column_count i) p) 0 none in
    rw zero (ap (optimum (take (column_count i) p)) (costs_of-take i inst p))

-- the answer by its least point
pub answer-optimum : (i : Problem) → IsInstance i → (b p : List ℕ) → p ≡ least_of i b → art_total_of (column_count i) p ≡ 0 →
    answer_of i b ≡ optimum (take (column_count i) p) (map (λ row. cost_of row p) i.cost_rows)
answer-optimum i inst b p same none = ap (outcome_of i) (sym same) ∙ outcome-optimum i inst p none

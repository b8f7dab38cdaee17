-- Bounds on the grade of a pair and on the coordinates of its ends.
use Rattle.std.proofs.Common.{ℕ, ◌+◌, ◌-◌, ◌≤◌, ◌≡◌, List, [], length, map, get_or, sym, ap, subst, ◌∙◌, arith, Bool, ◌↔◌, IsTrue, ap₂, zero, suc}
use Rattle.std.proofs.lemmas.List.{get_or_default, get_or-map}
use Rattle.ct_vectors.specs.declared.limits.TheConstants.{JOB_GRADE_LIMIT}
use Rattle.ct_vectors.specs.Vectors.{total, lcm, Disjoint, disjoint}
use Rattle.ct_vectors.proofs.Divisors.{Divides-lcm, length-lcm, Disjoint-from_test, test_from_Disjoint}
use Rattle.ct_instance.specs.Instance.{Problem, IsPoint, column_count, degree_of, grade_of}
use Rattle.ct_instance.specs.TestSet.{Binomial}
use Rattle.ct_instance.specs.Walk.{IsMove}
use Rattle.ct_instance.specs.Fiber.{IsInFiber}
use Rattle.ct_instance.specs.Jobs.{the_move, the_column}
use Rattle.ct_instance.proofs.Degree.{columns, grade-lcm, coordinate-le-grade}
use Rattle.ct_walk.specs.Moves.{MoveList, IsMoveList, IsSmallMove}
use Rattle.ct_walk.proofs.Ends.{the_move_at, the_column_is, swapped_in_fiber}
use Rattle.ct_walk.proofs.Steps.{move_at_listed}
use Rattle.ct_jobs.specs.Leaves.{Leaves, left_of}

-- the move with a number of the list is one of its moves
pub small_move : (l : MoveList) → IsMoveList l → (k : ℕ) → 1 ≤ k → k ≤ length l.moves → IsSmallMove l.instance (the_move l.moves k)
small_move l h k a b =
    let c = move_at_listed l.moves k (the_move l.moves k) (the_move_at l.moves k a b) in
    subst (IsSmallMove l.instance) c.2 (h.moves c.0 (the_move l.moves k) c.1)

heads_wide : (i : Problem) (m n : Binomial) → IsMove i m → IsMove i n → length m.head ≡ length n.head
heads_wide i m n a b = a.head ∙ sym b.head

pub lcm_is_point : (i : Problem) (m n : Binomial) → IsMove i m → IsMove i n → IsPoint i (lcm m.head n.head)
lcm_is_point i m n a b = omega (arith, length-lcm m.head n.head, a.head, b.head)

pub pair_grade_limit : (i : Problem) (m n : Binomial) → IsSmallMove i m → IsSmallMove i n → grade_of i.columns (lcm m.head n.head) ≤ JOB_GRADE_LIMIT
pair_grade_limit i m n a b =
    let g : grade_of i.columns (lcm m.head n.head) ≤ grade_of i.columns m.head + grade_of i.columns n.head = grade-lcm i.columns m.head n.head (heads_wide i m n a.move b.move) in
    omega (arith, a.grade, b.grade)

-- what one move of a list leaves of the least common multiple of its head and that of another
pub leaves : (l : MoveList) → IsMoveList l → (a b : ℕ) → 1 ≤ a → a ≤ length l.moves → 1 ≤ b → b ≤ length l.moves → (p : List ℕ) → IsPoint l.instance p →
    Leaves p (the_move l.moves a) (the_move l.moves b)
leaves l h a b some-a within-a some-b within-b p e =
    let i = l.instance in
    let m = the_move l.moves a in
    let n = the_move l.moves b in
    let x : IsSmallMove i m = small_move l h a some-a within-a in
    let y : IsSmallMove i n = small_move l h b some-b within-b in
    let both : IsPoint i (lcm m.head n.head) = lcm_is_point i m n x.move y.move in
    let f : IsInFiber i (degree_of i.columns (lcm m.head n.head)) (left_of m n) = swapped_in_fiber i m x.move (lcm m.head n.head) both (Divides-lcm m.head n.head) in
    let g : grade_of i.columns (lcm m.head n.head) ≤ JOB_GRADE_LIMIT = pair_grade_limit i m n x y in
    record {
      place_width = e ∙ sym x.move.head;
      tail_width = x.move.tail ∙ sym x.move.head;
      other_width = y.move.head ∙ sym x.move.head;
      fits = λ k d b.
          let c : get_or (left_of m n) k 0 ≤ grade_of i.columns (left_of m n) = coordinate-le-grade i.rows i.columns (columns i h.instance) (left_of m n) k in
          let s : grade_of i.columns (left_of m n) ≡ grade_of i.columns (lcm m.head n.head) = ap total f.degree in
          let z : get_or (left_of m n) k d ≡ get_or (left_of m n) k 0 = get_or_default (left_of m n) k d 0 b in
          omega arith;
    }

-- the sum of the column j
pub column_sum : (i : Problem) (ss : List ℕ) (j : ℕ) → 1 ≤ j → j ≤ column_count i → ss ≡ map total i.columns → get_or ss (j - 1) 0 ≡ total (the_column i j)
column_sum i ss zero a b e = absurd (omega arith)
column_sum i ss (suc j) a b e =
    let k : suc j - 1 ≡ j = omega arith in
    ap₂ (λ l n. get_or l n 0) e k ∙ get_or-map total i.columns j [] 0 (omega arith) ∙ ap total (sym (the_column_is i j))

-- what a test of two heads tells
pub coprime_test : (b : Bool) (p q r s : List ℕ) → b ≡ disjoint p q → p ≡ r → q ≡ s → IsTrue b ↔ Disjoint r s
coprime_test b p q r s e f g =
    let same : b ≡ disjoint r s = e ∙ ap₂ disjoint f g in
    (λ t. Disjoint-from_test r s (sym same ∙ t), λ d. same ∙ test_from_Disjoint r s d)

-- The ends of a job: both are points of the job's degree.
use Rattle.std.proofs.Common.{ℕ, ◌+◌, ◌-◌, ◌≤◌, ◌<◌, ◌≡◌, Some, List, [], ◌++◌, length, get_or, refl, sym, subst, ap, ap₂, ◌∙◌, arith, zero, suc, length-append}
use Rattle.std.specs.Option.{unwrap_or}
use Rattle.std.proofs.lemmas.Option.{unwrap_or-slice_get, slice_get-get_or}
use Rattle.std.proofs.lemmas.List.Elements.{All-get_or}
use Rattle.ct_vectors.specs.Vectors.{add, subtract, lcm, unit, zeros, Divides}
use Rattle.ct_vectors.proofs.Sums.{length-add_same, length-subtract, length-unit, length-zeros}
use Rattle.ct_vectors.proofs.Divisors.{Divides-lcm, Divides-lcm_right, length-lcm, add-subtract}
use Rattle.ct_instance.specs.declared.jobs.Job.{Job}
use Rattle.ct_instance.specs.declared.jobs.Job.TheVariants.{Generator, Pair}
use Rattle.ct_instance.specs.Instance.{Problem, IsColumn, IsInstance, IsPoint, column_count, degree_of, grade_of, unit_of}
use Rattle.ct_instance.specs.Fiber.{IsInFiber}
use Rattle.ct_instance.specs.TestSet.{Binomial}
use Rattle.ct_instance.specs.Walk.{move_at, IsMove, AreMoves}
use Rattle.ct_instance.specs.Jobs.{the_move, the_column, IsJob, job_degree_of, job_grade_of, first_end_of, second_end_of}
use Rattle.ct_instance.proofs.Degree.{columns, degree_of_swap, degree-unit}
use Rattle.ct_instance.proofs.Fiber.{start_in_fiber}
use Rattle.ct_walk.proofs.Steps.{move_is, move_at-append}

pub the_move_is : (ms : List Binomial) (k : ℕ) (m : Binomial) → move_at ms k ≡ Some m → the_move ms k ≡ m
the_move_is ms k m e = ap (λ o. unwrap_or o (record { head = []; tail = [] })) e

pub the_move_at : (ms : List Binomial) (k : ℕ) → 1 ≤ k → k ≤ length ms → move_at ms k ≡ Some (the_move ms k)
the_move_at ms zero l h = absurd (omega arith)
the_move_at ms (suc k) l h =
    slice_get-get_or ms k (record { head = []; tail = [] }) (omega arith) ∙ ap Some (sym (unwrap_or-slice_get ms k (record { head = []; tail = [] })))

-- moves that are added at the end leave the moves and the grades of the jobs before as they are
pub the_move_stays : (ms ns : List Binomial) (k : ℕ) → 1 ≤ k → k ≤ length ms → the_move (ms ++ ns) k ≡ the_move ms k
the_move_stays ms ns k l h = the_move_is (ms ++ ns) k (the_move ms k) (move_at-append ms ns k (the_move ms k) (the_move_at ms k l h))

pub job_stays : (i : Problem) (ms ns : List Binomial) (j : Job) → IsJob i ms j → IsJob i (ms ++ ns) j
job_stays i ms ns (Generator j) h = h
job_stays i ms ns (Pair a b) h = let last : b ≤ length ms = h.2 in (h.0, h.1, omega (arith, length-append ms ns))

pub grade_stays : (i : Problem) (ms ns : List Binomial) (j : Job) → IsJob i ms j → job_grade_of i (ms ++ ns) j ≡ job_grade_of i ms j
grade_stays i ms ns (Generator j) h = refl
grade_stays i ms ns (Pair a b) h =
    let first : 1 ≤ a = h.0 in
    let between : a < b = h.1 in
    let last : b ≤ length ms = h.2 in
    ap₂ (λ (x y : Binomial). grade_of i.columns (lcm x.head y.head)) (the_move_stays ms ns a first (omega arith)) (the_move_stays ms ns b (omega arith) last)

pub the_column_is : (i : Problem) (j : ℕ) → the_column i (suc j) ≡ get_or i.columns j []
the_column_is i j = unwrap_or-slice_get i.columns j []

pub column_is_right : (i : Problem) → IsInstance i → (j : ℕ) → j < column_count i → length (get_or i.columns j []) ≡ i.rows
column_is_right i h j l = (All-get_or (IsColumn i.rows) i.columns j [] l h.is_column).entries

pub unit_in_fiber : (i : Problem) → IsInstance i → (j : ℕ) → j < column_count i → IsInFiber i (get_or i.columns j []) (unit_of i j)
unit_in_fiber i h j l = record {
  point = length-append (unit (column_count i) j) (zeros i.rows) ∙ ap₂ ◌+◌ (length-unit (column_count i) j) (length-zeros i.rows);
  degree = degree-unit i.rows i.columns (columns i h) j l;
}

-- what a move leaves of a point that its head divides
pub swapped_in_fiber : (i : Problem) (m : Binomial) → IsMove i m → (p : List ℕ) → IsPoint i p → Divides m.head p →
    IsInFiber i (degree_of i.columns p) (add (subtract p m.head) m.tail)
swapped_in_fiber i m a p e d = record {
  point = length-add_same (subtract p m.head) m.tail (length-subtract p m.head ∙ e) a.tail;
  degree = degree_of_swap i.columns (subtract p m.head) m.head m.tail a.degree ∙
      ap (degree_of i.columns) (add-subtract p m.head (omega (arith, a.head, e)) d);
}

pub ends_in_fiber : (i : Problem) → IsInstance i → (ms : List Binomial) → AreMoves i ms → (j : Job) → IsJob i ms j →
    IsInFiber i (job_degree_of i ms j) (first_end_of i ms j) × IsInFiber i (job_degree_of i ms j) (second_end_of i ms j)
ends_in_fiber i h ms a (Generator zero) g = absurd (let l : 1 ≤ 0 = g.0 in omega arith)
ends_in_fiber i h ms a (Generator (suc j)) g =
    let l : j < column_count i = let k : suc j ≤ column_count i = g.1 in omega arith in
    let e : suc j - 1 ≡ j = omega arith in
    let c = the_column_is i j in (
      subst (λ (b : List ℕ). IsInFiber i b (unit_of i (suc j - 1))) (sym c)
          (subst (λ (k : ℕ). IsInFiber i (get_or i.columns j []) (unit_of i k)) (sym e) (unit_in_fiber i h j l)),
      start_in_fiber i h (the_column i (suc j)) (ap length c ∙ column_is_right i h j l),
    )
ends_in_fiber i h ms a (Pair j k) g =
    let first : 1 ≤ j = g.0 in
    let between : j < k = g.1 in
    let last : k ≤ length ms = g.2 in
    let m : IsMove i (the_move ms j) = move_is i ms a j (the_move ms j) (the_move_at ms j first (omega arith)) in
    let n : IsMove i (the_move ms k) = move_is i ms a k (the_move ms k) (the_move_at ms k (omega arith) last) in
    let l : List ℕ = lcm (the_move ms j).head (the_move ms k).head in
    let wide : IsPoint i l = omega (arith, length-lcm (the_move ms j).head (the_move ms k).head, m.head, n.head) in (
      swapped_in_fiber i (the_move ms j) m l wide (Divides-lcm (the_move ms j).head (the_move ms k).head),
      swapped_in_fiber i (the_move ms k) n l wide (Divides-lcm_right (the_move ms j).head (the_move ms k).head),
    )

-- The graded critical-pair lemma: where each job within that isn't a coprime pair joins, each fiber within has one
-- point that no head divides, and it is the least.
use Rattle.std.proofs.Common.{ℕ, ◌+◌, ◌-◌, ◌≤◌, ◌<◌, ◌≡◌, ◌⊎◌, ⊎_elim, Option, Some, None, List, [], ◌++◌, length, get_or, take, drop, refl, sym, subst, subst₂, ap, ap₂, ◌∙◌, arith, zero, suc, length-append, take-append-drop, length-take-le}
use Rattle.std.proofs.Math.Seq.{take-append_seam}
use Rattle.std.proofs.lemmas.Bool.{cases_lt, cases_eq}
use Rattle.ct_vectors.specs.Vectors.{total, add, subtract, unit, zeros, lcm, Disjoint}
use Rattle.ct_vectors.proofs.Sums.{length-add_same, add-zeros, add_right_cancel, total-add, total-unit, total-zeros, length-zeros, length-unit, zeros_from_total}
use Rattle.ct_vectors.proofs.Places.{add-append, take-add}
use Rattle.ct_vectors.proofs.Divisors.{dec_disjoint}
use Rattle.ct_instance.specs.declared.jobs.Job.{Job}
use Rattle.ct_instance.specs.declared.jobs.Job.TheVariants.{Generator, Pair}
use Rattle.ct_instance.specs.Instance.{Problem, IsInstance, IsPoint, IsRight, column_count, degree_of, start_of, unit_of}
use Rattle.ct_instance.specs.Fiber.{IsInFiber, IsBelow}
use Rattle.ct_instance.specs.TestSet.{Binomial, IsTestList}
use Rattle.ct_instance.specs.Walk.{move_at, first_dividing, IsNormal, AreMoves}
use Rattle.ct_instance.specs.Jobs.{the_move, IsJob, job_degree_of, first_end_of, second_end_of, IsCoprime}
use Rattle.ct_instance.proofs.Degree.{degree-add, degree_of_swap, degree-start}
use Rattle.ct_instance.proofs.Fiber.{rank_of, start_in_fiber, fiber_is_right}
use Rattle.ct_instance.proofs.TestHeads.{positive_coordinate}
use Rattle.ct_walk.specs.Laws.{GoesDown, IsWithin, AreJoined, JobsAreJoined, HasOneNormalPoint}
use Rattle.ct_walk.proofs.Steps.{move_at_within, dividing_gives}
use Rattle.ct_walk.proofs.WalkFacts.{test_list_moves, parts_within, test_list_joins}
use Rattle.ct_walk.proofs.Runs.{IsSwap, Runs, halt, swap, Meet, meet_flip, meet_itself, swap_down, swap_rank, swap_from_divides, run_cases, run_on, run_down, run_from_normal, meet_of_sum, leads_run, IsPeak, pair_end, pair_end_second, peak, coprime_meet}
use Rattle.ct_walk.proofs.Ends.{the_move_is, the_column_is, column_is_right, unit_in_fiber, ends_in_fiber}

-- ---- a point with an x-coordinate above 0 is another point beside one variable

record HasUnit (i : Problem) (p : List ℕ) : Type 0 where
  column : ℕ
  rest : List ℕ
  within : column < column_count i
  wide : IsPoint i rest
  whole : p ≡ add rest (unit_of i column)
  less : suc (total (take (column_count i) rest)) ≡ total (take (column_count i) p)

has_unit : (i : Problem) (p : List ℕ) → IsPoint i p → 1 ≤ total (take (column_count i) p) → HasUnit i p
has_unit i p e some =
    let n : ℕ = column_count i in
    let x : List ℕ = take n p in
    let y : List ℕ = drop n p in
    let long : length x ≡ n = length-take-le n p (omega arith) in
    let r = positive_coordinate x some in
    let q : List ℕ = r.1 in
    let q_long : length q ≡ n = r.3 ∙ long in
    let j : r.0 < n = subst (λ (w : ℕ). r.0 < w) long r.2 in
    let split : x ≡ add q (unit n r.0) = subst (λ (w : ℕ). x ≡ add q (unit w r.0)) long r.4 in
    let y_long : length y ≡ i.rows = omega (arith, length-append x y, ap length (take-append-drop n p)) in
    let front : take n (q ++ y) ≡ q = subst (λ (w : ℕ). take w (q ++ y) ≡ q) q_long (take-append_seam q y) in
    record {
      column = r.0;
      rest = q ++ y;
      within = j;
      wide = length-append q y ∙ ap₂ ◌+◌ q_long y_long;
      whole =
          sym (take-append-drop n p) ∙ ap₂ (λ (a b : List ℕ). a ++ b) split (sym (add-zeros y i.rows (omega arith))) ∙
          sym (add-append q y (unit n r.0) (zeros i.rows) (q_long ∙ sym (length-unit n r.0)));
      less = omega (arith, ap total front, ap total split, total-add q (unit n r.0), total-unit n r.0 j);
    }

-- a point with no x-coordinate above 0 is its degree in artificials
is_start : (i : Problem) → IsInstance i → (p : List ℕ) → IsPoint i p → total (take (column_count i) p) ≡ 0 → p ≡ start_of i (degree_of i.columns p)
is_start i s p e none =
    let n : ℕ = column_count i in
    let long : length (take n p) ≡ n = length-take-le n p (omega arith) in
    let y_long : length (drop n p) ≡ i.rows = omega (arith, length-append (take n p) (drop n p), ap length (take-append-drop n p)) in
    let form : p ≡ start_of i (drop n p) =
    sym (take-append-drop n p) ∙ ap (λ (a : List ℕ). a ++ drop n p) (zeros_from_total (take n p) none ∙ ap zeros long) in
    let same : degree_of i.columns p ≡ drop n p = ap (degree_of i.columns) form ∙ degree-start i s (drop n p) y_long in
    form ∙ ap (start_of i) (sym same)

-- each point runs to one that no head divides
pub runs_to_normal : (i : Problem) → IsInstance i → (ms : List Binomial) → AreMoves i ms → (p : List ℕ) → IsPoint i p → (z : List ℕ) × Runs i ms p z × IsNormal ms z
runs_to_normal i s ms moves p e = go (suc (rank_of i p)) p (omega arith) e
  where
    first : (n : ℕ) (p : List ℕ) → rank_of i p < suc n → IsPoint i p → ((q : List ℕ) → rank_of i q < n → IsPoint i q → (z : List ℕ) × Runs i ms q z × IsNormal ms z) →
        (o : Option ℕ) → first_dividing ms p ≡ o → (z : List ℕ) × Runs i ms p z × IsNormal ms z
    first n p l e later None f = (p, halt p, f)
    first n p l e later (Some k) f =
        let d = dividing_gives ms p k f in
        let q : List ℕ = add (subtract p d.0.head) d.0.tail in
        let u : IsSwap i ms p q = swap_from_divides i ms moves p e k d.0 d.1 d.2 in
        let down : GoesDown i p q = (swap_down i ms moves p q u).1 in
        let r = later q (omega (arith, swap_rank i s ms moves p q u)) (down.member).point in
        (r.0, swap p q r.0 u r.1, r.2)

    go : (n : ℕ) (p : List ℕ) → rank_of i p < n → IsPoint i p → (z : List ℕ) × Runs i ms p z × IsNormal ms z
    go zero p l e = absurd (omega arith)
    go (suc n) p l e = first n p l e (go n) (first_dividing ms p) refl

module _ (i : Problem) (s : IsInstance i) (ms : List Binomial) (moves : AreMoves i ms) (Within : List ℕ → Type 0)
    (parts : (a b : List ℕ) → Within (add a b) → Within b)
    (joins : (j : Job) → IsJob i ms j → Within (job_degree_of i ms j) → (IsCoprime ms j → ⊥) → Meet i ms (first_end_of i ms j) (second_end_of i ms j)) where
  -- ---- two moves from one point lead to points that meet

  two_swaps : (p q r : List ℕ) (u : IsSwap i ms p q) (v : IsSwap i ms p r) → u.number < v.number → Within (degree_of i.columns p) → Meet i ms q r
  two_swaps p q r u v l w =
      let k = peak i ms moves p q r u v in
      subst₂ (Meet i ms) (sym k.first) (sym k.second)
      (meet_of_sum i ms k.beside (pair_end u.move v.move) (pair_end_second u.move v.move) k.wide
      (⊎_elim (coprime_meet i ms moves u.number v.number u.move v.move u.at v.at) (λ n. joined n k) (dec_disjoint u.move.head v.move.head)))
    where
      first : the_move ms u.number ≡ u.move
      first = the_move_is ms u.number u.move u.at

      second : the_move ms v.number ≡ v.move
      second = the_move_is ms v.number v.move v.at

      joined : (Disjoint u.move.head v.move.head → ⊥) → IsPeak i p q r u.move v.move → Meet i ms (pair_end u.move v.move) (pair_end_second u.move v.move)
      joined n k =
          let job : IsJob i ms (Pair u.number v.number) = ((move_at_within ms u.number u.move u.at).0, l, (move_at_within ms v.number v.move v.at).1) in
          let degree : degree_of i.columns (lcm (the_move ms u.number).head (the_move ms v.number).head) ≡ degree_of i.columns (lcm u.move.head v.move.head) =
          ap₂ (λ (m n : Binomial). degree_of i.columns (lcm m.head n.head)) first second in
          let within : Within (degree_of i.columns (lcm u.move.head v.move.head)) =
          parts (degree_of i.columns k.beside) (degree_of i.columns (lcm u.move.head v.move.head))
          (subst Within (ap (degree_of i.columns) k.whole ∙ degree-add i.columns k.beside (lcm u.move.head v.move.head)) w) in
          let meets : Meet i ms (pair_end (the_move ms u.number) (the_move ms v.number)) (pair_end_second (the_move ms u.number) (the_move ms v.number)) =
          joins (Pair u.number v.number) job (subst Within (sym degree) within)
          (λ d. n (subst₂ (λ (m n : Binomial). Disjoint m.head n.head) first second d)) in
          subst₂ (λ (m n : Binomial). Meet i ms (pair_end m n) (pair_end_second m n)) first second meets

  same_swaps : (p q r : List ℕ) (u : IsSwap i ms p q) (v : IsSwap i ms p r) → u.number ≡ v.number → q ≡ r
  same_swaps p q r u v e =
      let same : u.move ≡ v.move = let f : Some u.move ≡ Some v.move = sym u.at ∙ ap (move_at ms) e ∙ v.at in cc in
      let rests : u.rest ≡ v.rest =
      add_right_cancel u.rest v.rest v.move.head (u.wide ∙ sym v.wide) (ap (λ (m : Binomial). add u.rest m.head) (sym same) ∙ sym u.before ∙ v.before) in
      u.after ∙ ap₂ (λ (a : List ℕ) (m : Binomial). add a m.tail) rests same ∙ sym v.after

  local : (p q r : List ℕ) → Within (degree_of i.columns p) → IsSwap i ms p q → IsSwap i ms p r → Meet i ms q r
  local p q r w u v =
      ⊎_elim (λ l. two_swaps p q r u v l w)
      (λ l. ⊎_elim (λ k. meet_flip i ms r q (two_swaps p r q v u k w)) (λ k. subst (Meet i ms q) (same_swaps p q r u v (omega arith)) (meet_itself i ms q)) (cases_lt v.number u.number))
      (cases_lt u.number v.number)

  -- ---- two runs from one point lead to points that meet

  newman : (n : ℕ) (p a b : List ℕ) → rank_of i p < n → IsPoint i p → Within (degree_of i.columns p) → Runs i ms p a → Runs i ms p b → Meet i ms a b
  newman zero p a b l e w f g = absurd (omega arith)
  newman (suc n) p a b l e w f g =
      ⊎_elim (λ x. subst (λ (c : List ℕ). Meet i ms c b) (sym x) (record { point = b; first = g; second = halt b }))
      (λ x. ⊎_elim (λ y. subst (Meet i ms a) (sym y) (record { point = a; first = halt a; second = f }))
      (λ y.
      let near = local p x.0 y.0 w x.1 y.1 in
      let left = later x.0 a near.point x.1 (newman n x.0 a near.point) x.2 near.first in
      let right = later y.0 left.point b y.1 (newman n y.0 left.point b) (run_on i ms y.0 near.point left.point near.second left.second) y.2 in
      record { point = right.point; first = run_on i ms a left.point right.point left.first right.first; second = right.second })
      (run_cases i ms p b g))
      (run_cases i ms p a f)
    where
      later : (q c d : List ℕ) → IsSwap i ms p q → (rank_of i q < n → IsPoint i q → Within (degree_of i.columns q) → Runs i ms q c → Runs i ms q d → Meet i ms c d) →
          Runs i ms q c → Runs i ms q d → Meet i ms c d
      later q c d u more h k =
          let down : GoesDown i p q = (swap_down i ms moves p q u).1 in
          more (omega (arith, swap_rank i s ms moves p q u)) (down.member).point (subst Within (sym (down.member).degree) w) h k

  meets_trans : (p a b : List ℕ) → IsPoint i p → Within (degree_of i.columns p) → Meet i ms a p → Meet i ms p b → Meet i ms a b
  meets_trans p a b e w m n =
      let t = newman (suc (rank_of i p)) p m.point n.point (omega arith) e w m.second n.first in
      record { point = t.point; first = run_on i ms a m.point t.point m.first t.first; second = run_on i ms b n.point t.point n.second t.second }

  -- ---- each point meets its degree in artificials

  -- one variable and its column
  one_column : (j : ℕ) → j < column_count i → Within (get_or i.columns j []) → Meet i ms (unit_of i j) (start_of i (get_or i.columns j []))
  one_column j l w =
      let e : suc j - 1 ≡ j = omega arith in
      let c = the_column_is i j in
      subst₂ (λ (k : ℕ) (b : List ℕ). Meet i ms (unit_of i k) (start_of i b)) e c
      (joins (Generator (suc j)) (omega arith, omega arith) (subst Within (sym c) w) (λ d. d))

  to_bottom : (n : ℕ) (p : List ℕ) → total (take (column_count i) p) ≤ n → IsPoint i p → Within (degree_of i.columns p) → Meet i ms p (start_of i (degree_of i.columns p))
  to_bottom zero p l e w = subst (Meet i ms p) (is_start i s p e (omega arith)) (meet_itself i ms p)
  to_bottom (suc n) p l e w =
      ⊎_elim (λ none. subst (Meet i ms p) (is_start i s p e none) (meet_itself i ms p)) (λ none. down (has_unit i p e (omega (arith, none))) (to_bottom n)) (cases_eq (total (take (column_count i) p)) 0)
    where
      down : HasUnit i p → ((q : List ℕ) → total (take (column_count i) q) ≤ n → IsPoint i q → Within (degree_of i.columns q) → Meet i ms q (start_of i (degree_of i.columns q))) →
          Meet i ms p (start_of i (degree_of i.columns p))
      down u more =
          let b : List ℕ = get_or i.columns u.column [] in
          let right : IsRight i b = column_is_right i s u.column u.within in
          let x : List ℕ = unit_of i u.column in
          let y : List ℕ = start_of i b in
          let q : List ℕ = add u.rest y in
          let fx = unit_in_fiber i s u.column u.within in
          let fy = start_in_fiber i s b right in
          let same : degree_of i.columns q ≡ degree_of i.columns p =
          degree_of_swap i.columns u.rest x y (fy.degree ∙ sym fx.degree) ∙ ap (degree_of i.columns) (sym u.whole) in
          let column : Within b =
          subst Within fx.degree (parts (degree_of i.columns u.rest) (degree_of i.columns x) (subst Within (ap (degree_of i.columns) u.whole ∙ degree-add i.columns u.rest x) w)) in
          let near : Meet i ms p q = subst (λ (r : List ℕ). Meet i ms r q) (sym u.whole) (meet_of_sum i ms u.rest x y u.wide (one_column u.column u.within column)) in
          let point : IsPoint i q = length-add_same u.rest y u.wide fy.point in
          let within : Within (degree_of i.columns q) = subst Within (sym same) w in
          let front : total (take (column_count i) y) ≡ 0 =
          ap total (subst (λ (k : ℕ). take k y ≡ zeros (column_count i)) (length-zeros (column_count i)) (take-append_seam (zeros (column_count i)) b)) ∙ total-zeros (column_count i) in
          let less : total (take (column_count i) q) ≤ n =
          omega (arith, ap total (take-add (column_count i) u.rest y), total-add (take (column_count i) u.rest) (take (column_count i) y), u.less) in
          subst (λ (d : List ℕ). Meet i ms p (start_of i d)) same (meets_trans q p (start_of i (degree_of i.columns q)) point within near (more q less point within))

  fiber_meets : (b p q : List ℕ) → Within b → IsInFiber i b p → IsInFiber i b q → Meet i ms p q
  fiber_meets b p q w f g =
      let right : IsRight i b = fiber_is_right i s b p f in
      let start = start_in_fiber i s b right in
      meets_trans (start_of i b) p q start.point (subst Within (sym start.degree) w) (low p f) (meet_flip i ms q (start_of i b) (low q g))
    where
      low : (r : List ℕ) → IsInFiber i b r → Meet i ms r (start_of i b)
      low r h =
          subst (λ (d : List ℕ). Meet i ms r (start_of i d)) h.degree
          (to_bottom (total (take (column_count i) r)) r (omega arith) h.point (subst Within (sym h.degree) w))

  -- ---- the one normal point

  pub one_normal_point : (b : List ℕ) → IsRight i b → Within b → HasOneNormalPoint i ms b
  one_normal_point b right w =
      let start = start_in_fiber i s b right in
      let low = runs_to_normal i s ms moves (start_of i b) start.point in
      let down = run_down i ms moves (start_of i b) low.0 start.point low.1 in
      let member : IsInFiber i b low.0 = record { point = (down.member).point; degree = (down.member).degree ∙ start.degree } in
      record {
        point = low.0;
        least = record { member = member; below = λ q f differ. ⊎_elim (λ e. absurd (differ (sym e))) (λ d. d) (lower low.0 member low.2 q f) };
        normal = low.2;
        only = λ q f n.
            let m = fiber_meets b low.0 q w member f in
            sym (run_from_normal i ms q m.point n m.second) ∙ run_from_normal i ms low.0 m.point low.2 m.first;
      }
    where
      lower : (z : List ℕ) → IsInFiber i b z → IsNormal ms z → (q : List ℕ) → IsInFiber i b q → (z ≡ q) ⊎ IsBelow i z q
      lower z member n q f =
          let m = fiber_meets b z q w member f in
          let still : m.point ≡ z = run_from_normal i ms z m.point n m.first in
          (run_down i ms moves q z f.point (subst (Runs i ms q) still m.second)).down

pub graded_critical_pairs : (i : Problem) → IsInstance i → (ms : List Binomial) → AreMoves i ms → (g : ℕ) (top : List ℕ) → JobsAreJoined i ms g top →
    (b : List ℕ) → IsRight i b → IsWithin g top b → HasOneNormalPoint i ms b
graded_critical_pairs i s ms moves g top joins b right w = one_normal_point i s ms moves (IsWithin g top) (parts_within g top) meets b right w
  where
    meets : (j : Job) → IsJob i ms j → IsWithin g top (job_degree_of i ms j) → (IsCoprime ms j → ⊥) → Meet i ms (first_end_of i ms j) (second_end_of i ms j)
    meets j k u n =
        let joined : AreJoined ms (first_end_of i ms j) (second_end_of i ms j) = joins j k u n in
        let fibers = ends_in_fiber i s ms moves j k in
        record {
          point = joined.point;
          first = leads_run i ms moves (first_end_of i ms j) joined.point (fibers.0).point joined.first;
          second = leads_run i ms moves (second_end_of i ms j) joined.point (fibers.1).point joined.second;
        }

-- a test list joins each job within its grade
pub test_list_joins_jobs : (i : Problem) → IsInstance i → (g : ℕ) (top : List ℕ) (ms : List Binomial) → IsTestList i g ms → JobsAreJoined i ms g top
test_list_joins_jobs i s g top ms t j k u n =
    let fibers = ends_in_fiber i s ms (test_list_moves i g ms t) j k in
    test_list_joins i s g ms t (job_degree_of i ms j) (first_end_of i ms j) (second_end_of i ms j) fibers.0 fibers.1 u.grade

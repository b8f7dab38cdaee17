-- What the points that a grade's jobs leave give, with the test list of the grades before: a list that joins each job of
-- the grade, so that the least point of a group is the least of its fiber. All is said within a bound on degrees.
use Rattle.std.proofs.Common.{ℕ, ◌≤◌, ◌<◌, ◌≡◌, ◌⊎◌, ⊎_elim, Bool, ◌&&◌, nat_eq, Decides, Option, Some, None, List, [], ◌∷◌, ◌++◌, length, map, filter, flat_map, get_or, Contains, refl, sym, subst, subst₂, ap, ◌∙◌, arith, zero, suc}
use Rattle.std.specs.List.{slice_get}
use Rattle.std.specs.Cmp.Lexicographic.{pointwise}
use Rattle.std.proofs.lemmas.Option.{slice_get-get_or, slice_get_within, get_or_from_slice_get}
use Rattle.std.proofs.lemmas.Bool.{cases_lt, and_parts, and_from}
use Rattle.std.proofs.lemmas.List.Elements.{All-append, Contains-append_right, Contains-append_cases, Contains-get_or}
use Rattle.ct_vectors.specs.Vectors.{total, add, subtract, zeros, lcm, Divides, Disjoint}
use Rattle.ct_vectors.proofs.Sums.{total-add, length-subtract, length-zeros, zeros-add, subtract_self}
use Rattle.ct_vectors.proofs.Divisors.{Divides-lcm, Divides-lcm_right, length-lcm, add-subtract, Decides-same_numbers}
use Rattle.ct_order.proofs.Order.{Less-from_test, test_from_Less}
use Rattle.ct_order.specs.Order.{refined_order}
use Rattle.ct_instance.specs.declared.jobs.Job.{Job}
use Rattle.ct_instance.specs.declared.jobs.Job.TheVariants.{Generator, Pair}
use Rattle.ct_instance.specs.Instance.{Problem, IsInstance, IsPoint, IsRight, column_count, width_of, degree_of, grade_of}
use Rattle.ct_instance.specs.Fiber.{least_of, is_lower, IsInFiber, IsBelow, IsLeast}
use Rattle.ct_instance.specs.TestSet.{Binomial, IsTestHead, IsTestMove}
use Rattle.ct_instance.specs.Walk.{move_at, first_dividing, IsNormal, IsMove, AreMoves}
use Rattle.ct_instance.specs.Jobs.{the_move, IsJob, job_degree_of, job_grade_of, first_end_of, second_end_of, IsCoprime}
use Rattle.ct_instance.proofs.Lists.{Contains-filter, filter_gives, Contains-map, map_gives, Contains-flat_map, flat_map_gives}
use Rattle.ct_instance.proofs.Degree.{columns, degree-add, degree_is_right, grade-add, grade-divides, zeros_from_grade}
use Rattle.ct_instance.proofs.Fiber.{in_own_fiber, rank_of, rank_falls, points_cases, below_itself, below_chain, below_differs, one_least, is_least_of, not_below_least, least_or_improvable, least_not_improvable}
use Rattle.ct_instance.proofs.TestHeads.{has_test_head, minimal_is, test_move_is_move}
use Rattle.ct_walk.specs.Laws.{HasOneNormalPoint}
use Rattle.ct_walk.proofs.Steps.{move_at_listed, dividing_gives, normal_none, normal_from_none, move_at-append}
use Rattle.ct_walk.proofs.Runs.{IsSwap, Runs, halt, swap, Meet, meet_itself, run_on, run_down, pair_end, pair_end_second}
use Rattle.ct_walk.proofs.Ends.{the_move_is, the_move_at, ends_in_fiber}
use Rattle.ct_walk.proofs.Pairs.{runs_to_normal, one_normal_point}
use Rattle.ct_completion.specs.Remainders.{IsGroupMove}

-- ---- a longer list

swap_longer : (i : Problem) (ms more : List Binomial) (p q : List ℕ) → IsSwap i ms p q → IsSwap i (ms ++ more) p q
swap_longer i ms more p q u = record {
  number = u.number;
  move = u.move;
  rest = u.rest;
  at = move_at-append ms more u.number u.move u.at;
  wide = u.wide;
  before = u.before;
  after = u.after;
}

runs_longer : (i : Problem) (ms more : List Binomial) (p q : List ℕ) → Runs i ms p q → Runs i (ms ++ more) p q
runs_longer i ms more p q (halt r) = halt r
runs_longer i ms more p r (swap s q t u l) = swap s q t (swap_longer i ms more s q u) (runs_longer i ms more q t l)

-- a move with a number above the length of the first list is one of the second
later_move : (ms more : List Binomial) (k : ℕ) (m : Binomial) → move_at (ms ++ more) k ≡ Some m → length ms < k → Contains more m
later_move ms more zero m e l = absurd (omega arith)
later_move ms more (suc k) m e l = later ms k e (omega arith)
  where
    later : (ms : List Binomial) (k : ℕ) → slice_get (ms ++ more) k ≡ Some m → length ms ≤ k → Contains more m
    later [] k e l = (k, slice_get_within more k m e, get_or_from_slice_get more k m m e)
    later (x ∷ ms) zero e l = absurd (omega arith)
    later (x ∷ ms) (suc k) e l = later ms k e (omega arith)

-- ---- the moves from each point of a group to each lower one

abbrev move_of : List ℕ → List ℕ → Binomial
move_of p q = record { head = p; tail = q }

abbrev is_lower_beside : Problem → List ℕ → List ℕ → Bool
is_lower_beside i p q = pointwise nat_eq (degree_of i.columns q) (degree_of i.columns p) && is_lower i q p

abbrev pub pair_moves : Problem → List (List ℕ) → List Binomial
pair_moves i points = flat_map (λ p. map (move_of p) (filter (is_lower_beside i p) points)) points

pub record IsNewPair (i : Problem) (points : List (List ℕ)) (m : Binomial) : Type 0 where
  pub head : Contains points m.head
  pub tail : Contains points m.tail
  pub degree : degree_of i.columns m.tail ≡ degree_of i.columns m.head
  pub below : IsBelow i m.tail m.head

pair_gives : (i : Problem) (points : List (List ℕ)) (m : Binomial) → Contains (pair_moves i points) m → IsNewPair i points m
pair_gives i points m c =
    let r = flat_map_gives (λ p. map (move_of p) (filter (is_lower_beside i p) points)) points m c in
    let t = map_gives (move_of r.0) (filter (is_lower_beside i r.0) points) m r.2 in
    let f = filter_gives (is_lower_beside i r.0) points t.0 t.1 in
    let b = and_parts (pointwise nat_eq (degree_of i.columns t.0) (degree_of i.columns r.0)) (is_lower i t.0 r.0) f.1 in
    subst (IsNewPair i points) t.2
    (record {
      head = r.1;
      tail = f.0;
      degree = (Decides-same_numbers (degree_of i.columns t.0) (degree_of i.columns r.0)).0 b.0;
      below = Less-from_test (refined_order (column_count i) i.cost_rows t.0 r.0) b.1;
    })

pair_has : (i : Problem) (points : List (List ℕ)) (p q : List ℕ) → Contains points p → Contains points q → degree_of i.columns q ≡ degree_of i.columns p → IsBelow i q p →
    Contains (pair_moves i points) (move_of p q)
pair_has i points p q c d e b =
    Contains-flat_map (λ r. map (move_of r) (filter (is_lower_beside i r) points)) points p (move_of p q) c
    (Contains-map (move_of p) (filter (is_lower_beside i p) points) q
    (Contains-filter (is_lower_beside i p) points q d
    (and_from (pointwise nat_eq (degree_of i.columns q) (degree_of i.columns p)) (is_lower i q p)
    ((Decides-same_numbers (degree_of i.columns q) (degree_of i.columns p)).1 e)
    (test_from_Less (refined_order (column_count i) i.cost_rows q p) b))))

-- ---- points of one grade

-- a point that divides another of at most its grade is the same
same_from_divides : (i : Problem) → IsInstance i → (h p : List ℕ) → IsPoint i h → IsPoint i p → Divides h p → grade_of i.columns p ≤ grade_of i.columns h → h ≡ p
same_from_divides i s h p e f d l =
    let c : List ℕ = subtract p h in
    let whole : add c h ≡ p = add-subtract p h (omega (arith, e, f)) d in
    let wide : length c ≡ width_of i = length-subtract p h ∙ f in
    let none : grade_of i.columns c ≡ 0 = omega (arith, grade-add i.columns c h, ap (grade_of i.columns) whole) in
    sym (ap (λ x. add x h) (zeros_from_grade i.rows i.columns (columns i s) c none) ∙ zeros-add (length c) h (omega (arith, e, wide))) ∙ whole

-- what is left of a point itself beside a tail is the tail
nothing_left : (l h t : List ℕ) → l ≡ h → length h ≤ length t → add (subtract l h) t ≡ t
nothing_left l h t e w = ap (λ x. add (subtract x h) t) e ∙ ap (λ x. add x t) (subtract_self h) ∙ zeros-add (length h) t w

-- ---- what is given

-- the test moves of grade at most g whose degrees are within
pub record IsTestListWithin (i : Problem) (Within : List ℕ → Type 0) (g : ℕ) (ms : List Binomial) : Type 0 where
  pub sound : (m : Binomial) → Contains ms m → IsTestMove i m × (grade_of i.columns m.head ≤ g) × Within (degree_of i.columns m.head)
  pub complete : (p : List ℕ) → IsTestHead i p → grade_of i.columns p ≤ g → Within (degree_of i.columns p) → (m : Binomial) × Contains ms m × (m.head ≡ p)

-- a point of grade d within that no head divides
pub record IsMark (i : Problem) (Within : List ℕ → Type 0) (ms : List Binomial) (d : ℕ) (z : List ℕ) : Type 0 where
  pub point : IsPoint i z
  pub normal : IsNormal ms z
  pub grade : grade_of i.columns z ≡ d
  pub within : Within (degree_of i.columns z)

-- the ends of a job run to one point, or to two of the points
pub record IsLeft (i : Problem) (ms : List Binomial) (points : List (List ℕ)) (j : Job) : Type 0 where
  pub first : List ℕ
  pub second : List ℕ
  pub first_run : Runs i ms (first_end_of i ms j) first
  pub second_run : Runs i ms (second_end_of i ms j) second
  pub left : (first ≡ second) ⊎ (Contains points first × Contains points second)

module _ (i : Problem) (s : IsInstance i) (Within : List ℕ → Type 0) (parts : (a b : List ℕ) → Within (add a b) → Within b)
    (g : ℕ) (ms : List Binomial) (test : IsTestListWithin i Within g ms)
    (points : List (List ℕ)) (marks : (z : List ℕ) → Contains points z → IsMark i Within ms (suc g) z)
    (left : (j : Job) → IsJob i ms j → job_grade_of i ms j ≡ suc g → Within (job_degree_of i ms j) → (IsCoprime ms j → ⊥) → IsLeft i ms points j) where
  abbrev ns : List Binomial
  ns = ms ++ pair_moves i points

  old_are_moves : AreMoves i ms
  old_are_moves k d l = test_move_is_move i (get_or ms k d) (test.sound (get_or ms k d) (Contains-get_or ms k d l)).0

  are_moves : AreMoves i ns
  are_moves = All-append (IsMove i) ms (pair_moves i points) old_are_moves (λ k d l. new_is (get_or (pair_moves i points) k d) (pair_gives i points (get_or (pair_moves i points) k d) (Contains-get_or (pair_moves i points) k d l)))
    where
      new_is : (m : Binomial) → IsNewPair i points m → IsMove i m
      new_is m u = record { head = (marks m.head u.head).point; tail = (marks m.tail u.tail).point; degree = u.degree; below = u.below }

  longer : (p q : List ℕ) → Runs i ms p q → Runs i ns p q
  longer p q r = runs_longer i ms (pair_moves i points) p q r

  -- a test head of an earlier grade divides no point within that no head divides
  no_earlier_head : (z h : List ℕ) → IsPoint i z → IsNormal ms z → Within (degree_of i.columns z) → IsTestHead i h → Divides h z → grade_of i.columns h ≤ g → ⊥
  no_earlier_head z h e n w t d l =
      let whole : add (subtract z h) h ≡ z = add-subtract z h (omega (arith, e, t.point)) d in
      let within : Within (degree_of i.columns h) =
      parts (degree_of i.columns (subtract z h)) (degree_of i.columns h) (subst Within (ap (degree_of i.columns) (sym whole) ∙ degree-add i.columns (subtract z h) h) w) in
      let r = test.complete h t l within in
      normal_none ms z n r.0 r.1 (subst (λ (x : List ℕ). Divides x z) (sym r.2) d)

  -- ---- each job joins

  run_to_least : (b p : List ℕ) → IsInFiber i b p → total b ≤ g → Within b → Runs i ms p (least_of i b)
  run_to_least b p f l w =
      let r = runs_to_normal i s ms old_are_moves p f.point in
      let down = run_down i ms old_are_moves p r.0 f.point r.1 in
      let member : IsInFiber i b r.0 = record { point = (down.member).point; degree = (down.member).degree ∙ f.degree } in
      subst (Runs i ms p) (is_least_of i s b r.0 (least r.0 member r.2)) r.1
    where
      least : (z : List ℕ) → IsInFiber i b z → IsNormal ms z → IsLeast i b z
      least z f n =
          ⊎_elim (λ u. subst (λ (c : List ℕ). IsLeast i c z) f.degree u)
          (λ m.
          let r = has_test_head i s z f.point m in
          let same : grade_of i.columns z ≡ total b = ap total f.degree in
          absurd (no_earlier_head z r.0 f.point n (subst Within (sym f.degree) w) r.1 r.2
          (omega (arith, grade-divides i.columns r.0 z (omega (arith, (r.1).point, f.point)) r.2))))
          (least_or_improvable i s z f.point)

  run_by_pair : (p q : List ℕ) → Contains points p → Contains points q → degree_of i.columns q ≡ degree_of i.columns p → IsBelow i q p → Runs i ns p q
  run_by_pair p q c d e b =
      let listed : Contains ns (move_of p q) = Contains-append_right ms (pair_moves i points) (move_of p q) (pair_has i points p q c d e b) in
      swap p q q
      (record {
        number = suc listed.0;
        move = move_of p q;
        rest = zeros (width_of i);
        at = slice_get-get_or ns listed.0 (move_of p q) listed.1 ∙ ap Some listed.2;
        wide = length-zeros (width_of i);
        before = sym (zeros-add (width_of i) p (omega (arith, (marks p c).point)));
        after = sym (zeros-add (width_of i) q (omega (arith, (marks q d).point)));
      })
      (halt q)

  points_meet : (p q : List ℕ) → Contains points p → Contains points q → degree_of i.columns q ≡ degree_of i.columns p → Meet i ns p q
  points_meet p q c d e =
      ⊎_elim (λ b. record { point = p; first = halt p; second = run_by_pair q p d c (sym e) b })
      (λ r. ⊎_elim (λ same. subst (Meet i ns p) same (meet_itself i ns p)) (λ b. record { point = q; first = run_by_pair p q c d e b; second = halt q }) r)
      (points_cases i p q (marks p c).point (marks q d).point)

  old_job : (j : Job) → IsJob i ms j → total (job_degree_of i ms j) ≤ suc g → Within (job_degree_of i ms j) → (IsCoprime ms j → ⊥) → Meet i ns (first_end_of i ms j) (second_end_of i ms j)
  old_job j k l w n =
      ⊎_elim
      (λ small.
      let b : List ℕ = job_degree_of i ms j in
      record {
        point = least_of i b;
        first = longer (first_end_of i ms j) (least_of i b) (run_to_least b (first_end_of i ms j) fibers.0 (omega arith) w);
        second = longer (second_end_of i ms j) (least_of i b) (run_to_least b (second_end_of i ms j) fibers.1 (omega arith) w);
      })
      (λ large. joined (left j k (omega arith) w n)) (cases_lt (total (job_degree_of i ms j)) (suc g))
    where
      fibers : IsInFiber i (job_degree_of i ms j) (first_end_of i ms j) × IsInFiber i (job_degree_of i ms j) (second_end_of i ms j)
      fibers = ends_in_fiber i s ms old_are_moves j k

      joined : IsLeft i ms points j → Meet i ns (first_end_of i ms j) (second_end_of i ms j)
      joined u =
          let first = longer (first_end_of i ms j) u.first u.first_run in
          let second = longer (second_end_of i ms j) u.second u.second_run in
          ⊎_elim (λ same. record { point = u.second; first = subst (Runs i ns (first_end_of i ms j)) same first; second = second })
          (λ c.
          let down = run_down i ms old_are_moves (first_end_of i ms j) u.first (fibers.0).point u.first_run in
          let beside = run_down i ms old_are_moves (second_end_of i ms j) u.second (fibers.1).point u.second_run in
          let same : degree_of i.columns u.second ≡ degree_of i.columns u.first =
          (beside.member).degree ∙ (fibers.1).degree ∙ sym (fibers.0).degree ∙ sym (down.member).degree in
          let m = points_meet u.first u.second c.0 c.1 same in
          record {
            point = m.point;
            first = run_on i ns (first_end_of i ms j) u.first m.point first m.first;
            second = run_on i ns (second_end_of i ms j) u.second m.point second m.second;
          })
          u.left

  -- a move of the list whose head divides one of the points has this point as its head
  head_is_point : (z : List ℕ) → Contains points z → (m : Binomial) → Contains ns m → Divides m.head z → IsNewPair i points m × (m.head ≡ z)
  head_is_point z c m d h =
      ⊎_elim (λ old. absurd (normal_none ms z (marks z c).normal m old h))
      (λ new.
      let u = pair_gives i points m new in
      let k = marks m.head u.head in
      (u, same_from_divides i s m.head z k.point (marks z c).point h (omega (arith, k.grade, (marks z c).grade))))
      (Contains-append_cases ms (pair_moves i points) m d)

  new_pair : (m n : Binomial) → Contains ns m → IsNewPair i points n → grade_of i.columns (lcm m.head n.head) ≤ suc g → IsPoint i m.head → Meet i ns (pair_end m n) (pair_end_second m n)
  new_pair m n c u l e =
      let z = marks n.head u.head in
      let wide : IsPoint i (lcm m.head n.head) = omega (arith, length-lcm m.head n.head, e, z.point) in
      let whole : n.head ≡ lcm m.head n.head =
      same_from_divides i s n.head (lcm m.head n.head) z.point wide (Divides-lcm_right m.head n.head) (omega (arith, z.grade)) in
      let r = head_is_point n.head u.head m c (subst (Divides m.head) (sym whole) (Divides-lcm m.head n.head)) in
      let v : IsNewPair i points m = r.0 in
      let same : degree_of i.columns n.tail ≡ degree_of i.columns m.tail = u.degree ∙ ap (degree_of i.columns) (sym r.1) ∙ sym v.degree in
      let first : pair_end m n ≡ m.tail = nothing_left (lcm m.head n.head) m.head m.tail (sym whole ∙ sym r.1) (omega (arith, e, (marks m.tail v.tail).point)) in
      let second : pair_end_second m n ≡ n.tail = nothing_left (lcm m.head n.head) n.head n.tail (sym whole) (omega (arith, z.point, (marks n.tail u.tail).point)) in
      subst₂ (Meet i ns) (sym first) (sym second) (points_meet m.tail n.tail v.tail u.tail same)

  abbrev Bound : List ℕ → Type 0
  Bound b = (total b ≤ suc g) × Within b

  joins : (j : Job) → IsJob i ns j → Bound (job_degree_of i ns j) → (IsCoprime ns j → ⊥) → Meet i ns (first_end_of i ns j) (second_end_of i ns j)
  joins (Generator c) k w n = old_job (Generator c) k w.0 w.1 n
  joins (Pair a b) k w n = ⊎_elim new old (cases_lt (length ms) b)
    where
      first : 1 ≤ a
      first = k.0

      between : a < b
      between = k.1

      last : b ≤ length ns
      last = k.2

      at : (c : ℕ) → 1 ≤ c → c ≤ length ns → move_at ns c ≡ Some (the_move ns c)
      at c = the_move_at ns c

      new : length ms < b → Meet i ns (first_end_of i ns (Pair a b)) (second_end_of i ns (Pair a b))
      new l =
          let m = move_at_listed ns a (the_move ns a) (at a first (omega arith)) in
          new_pair (the_move ns a) (the_move ns b) m
          (pair_gives i points (the_move ns b) (later_move ms (pair_moves i points) b (the_move ns b) (at b (omega arith) last) l)) w.0
          (are_moves_at (the_move ns a) m)
        where
          are_moves_at : (m : Binomial) → Contains ns m → IsPoint i m.head
          are_moves_at m c = (subst (IsMove i) c.2 (are_moves c.0 m c.1)).head

      old : b ≤ length ms → Meet i ns (first_end_of i ns (Pair a b)) (second_end_of i ns (Pair a b))
      old l =
          let e : the_move ms a ≡ the_move ns a = same a first (omega (arith, l)) in
          let f : the_move ms b ≡ the_move ns b = same b (omega arith) (omega (arith, l)) in
          subst₂ (λ (x y : Binomial). Meet i ns (pair_end x y) (pair_end_second x y)) e f
          (old_job (Pair a b) (first, between, omega (arith, l))
          (subst₂ (λ (x y : Binomial). grade_of i.columns (lcm x.head y.head) ≤ suc g) (sym e) (sym f) w.0)
          (subst₂ (λ (x y : Binomial). Within (degree_of i.columns (lcm x.head y.head))) (sym e) (sym f) w.1)
          (λ d. n (subst₂ (λ (x y : Binomial). Disjoint x.head y.head) e f d)))
        where
          same : (c : ℕ) → 1 ≤ c → c ≤ length ms → the_move ms c ≡ the_move ns c
          same c l h = sym (the_move_is ns c (the_move ms c) (move_at-append ms (pair_moves i points) c (the_move ms c) (the_move_at ms c l h)))

  one_normal : (b : List ℕ) → IsRight i b → total b ≤ suc g → Within b → HasOneNormalPoint i ns b
  one_normal b right l w = one_normal_point i s ns are_moves Bound (λ x y u. (omega (arith, total-add x y, u.0), parts x y u.1)) joins b right (l, w)

  -- ---- groups

  -- down in a group to a point that no head divides
  lowest : (n : ℕ) (z : List ℕ) → rank_of i z < n → Contains points z → (q : List ℕ) × Contains points q × (degree_of i.columns q ≡ degree_of i.columns z) × IsNormal ns q
  lowest zero z l c = absurd (omega arith)
  lowest (suc n) z l c = go (first_dividing ns z) refl (lowest n)
    where
      go : (o : Option ℕ) → first_dividing ns z ≡ o →
          ((y : List ℕ) → rank_of i y < n → Contains points y → (q : List ℕ) × Contains points q × (degree_of i.columns q ≡ degree_of i.columns y) × IsNormal ns q) →
          (q : List ℕ) × Contains points q × (degree_of i.columns q ≡ degree_of i.columns z) × IsNormal ns q
      go None e later = (z, c, refl, e)
      go (Some k) e later =
          let d = dividing_gives ns z k e in
          let r = head_is_point z c d.0 (move_at_listed ns k d.0 d.1) d.2 in
          let u : IsNewPair i points d.0 = r.0 in
          let same : degree_of i.columns d.0.tail ≡ degree_of i.columns z = u.degree ∙ ap (degree_of i.columns) r.1 in
          let below : IsBelow i d.0.tail z = subst (IsBelow i d.0.tail) r.1 u.below in
          let q = later d.0.tail (omega (arith, rank_falls i s z d.0.tail (marks z c).point (marks d.0.tail u.tail).point same below)) u.tail in
          (q.0, q.1, q.2 ∙ same, q.3)

  -- it is the least point of the fiber
  group_has_least : (z : List ℕ) → Contains points z → (q : List ℕ) × Contains points q × IsLeast i (degree_of i.columns z) q
  group_has_least z c =
      let r = lowest (suc (rank_of i z)) z (omega arith) c in
      let k = marks z c in
      let one = one_normal (degree_of i.columns z) (degree_is_right i s z k.point) (omega (arith, k.grade)) k.within in
      let same : r.0 ≡ one.point = one.only r.0 (record { point = (marks r.0 r.1).point; degree = r.2 }) r.3 in
      (r.0, r.1, subst (IsLeast i (degree_of i.columns z)) (sym same) one.least)

  in_group : (z p : List ℕ) → Contains points p → degree_of i.columns p ≡ degree_of i.columns z → IsInFiber i (degree_of i.columns z) p
  in_group z p c e = record { point = (marks p c).point; degree = e }

  -- a test move of the grade takes a point of a group to its least
  pub test_move_in_group : (m : Binomial) → IsTestMove i m → grade_of i.columns m.head ≡ suc g → Within (degree_of i.columns m.head) → IsGroupMove i points m
  test_move_in_group m t e w =
      let listed : Contains points m.head = head_listed (first_dividing ns m.head) refl in
      let r = group_has_least m.head listed in
      let tail : r.0 ≡ m.tail = one_least i (degree_of i.columns m.head) r.0 m.tail r.2 t.tail in
      record {
        head = listed;
        tail = subst (Contains points) tail r.1;
        degree = t.tail.member.degree;
        other = λ same. not_least (subst (IsLeast i (degree_of i.columns m.head)) (sym same) t.tail);
        least = λ p c d n. t.tail.below p (in_group m.head p c (d ∙ t.tail.member.degree)) n;
      }
    where
      not_least : IsLeast i (degree_of i.columns m.head) m.head → ⊥
      not_least l = least_not_improvable i (degree_of i.columns m.head) m.head l t.head.improvable

      normal : IsNormal ms m.head
      normal = normal_from_none ms m.head none
        where
          none : (n : Binomial) → Contains ms n → Divides n.head m.head → ⊥
          none n c d =
              let u = test.sound n c in
              let head : IsTestHead i n.head = (u.0).head in
              let same : n.head ≡ m.head = minimal_is i m.head n.head t.head head.point head.improvable d in
              omega (arith, u.1, e, ap (grade_of i.columns) same)

      head_listed : (o : Option ℕ) → first_dividing ns m.head ≡ o → Contains points m.head
      head_listed None f =
          let one = one_normal (degree_of i.columns m.head) (degree_is_right i s m.head t.head.point) (omega (arith, e)) w in
          absurd (not_least (subst (IsLeast i (degree_of i.columns m.head)) (sym (one.only m.head (in_own_fiber i m.head t.head.point) f)) one.least))
      head_listed (Some k) f =
          let d = dividing_gives ns m.head k f in
          ⊎_elim (λ old. absurd (normal_none ms m.head normal d.0 old d.2))
          (λ new.
          let u = pair_gives i points d.0 new in
          let z = marks d.0.head u.head in
          subst (Contains points) (same_from_divides i s d.0.head m.head z.point t.head.point d.2 (omega (arith, z.grade, e))) u.head)
          (Contains-append_cases ms (pair_moves i points) d.0 (move_at_listed ns k d.0 d.1))

  -- and what takes a point of a group to its least is a test move of the grade
  pub group_move_tests : (m : Binomial) → IsGroupMove i points m → IsTestMove i m × (grade_of i.columns m.head ≡ suc g) × Within (degree_of i.columns m.head)
  group_move_tests m u = (record { head = is_head; tail = is_tail }, z.grade, z.within)
    where
      z : IsMark i Within ms (suc g) m.head
      z = marks m.head u.head

      below : IsBelow i m.tail m.head
      below = u.least m.head u.head (sym u.degree) u.other

      is_head : IsTestHead i m.head
      is_head =
          let r = has_test_head i s m.head z.point (record { lower = m.tail; member = in_group m.head m.tail u.tail u.degree; below = below }) in
          let whole : grade_of i.columns m.head ≤ grade_of i.columns r.0 =
          ⊎_elim (λ l. absurd (no_earlier_head m.head r.0 z.point z.normal z.within r.1 r.2 (omega arith))) (λ l. omega (arith, l, z.grade)) (cases_lt (grade_of i.columns r.0) (suc g)) in
          subst (IsTestHead i) (same_from_divides i s r.0 m.head (r.1).point z.point r.2 whole) r.1

      is_tail : IsLeast i (degree_of i.columns m.head) m.tail
      is_tail = go (group_has_least m.head u.head)
        where
          go : (q : List ℕ) × Contains points q × IsLeast i (degree_of i.columns m.head) q → IsLeast i (degree_of i.columns m.head) m.tail
          go r =
              let least : IsLeast i (degree_of i.columns m.head) r.0 = r.2 in
              ⊎_elim
              (λ b. absurd (below_itself i r.0 (below_chain i r.0 m.tail r.0 b
              (u.least r.0 r.1 ((least.member).degree ∙ sym u.degree) (below_differs i r.0 m.tail b)))))
              (λ c. ⊎_elim (λ same. subst (IsLeast i (degree_of i.columns m.head)) same least)
              (λ b. absurd (not_below_least i (degree_of i.columns m.head) r.0 least m.tail (in_group m.head m.tail u.tail u.degree) b)) c)
              (points_cases i r.0 m.tail (least.member).point (marks m.tail u.tail).point)

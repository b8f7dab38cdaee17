-- Moves that decide each fiber up to a grade are its test list exactly where they are reduced.
use Rattle.std.proofs.Common.{ℕ, ◌-◌, ◌≤◌, ◌<◌, ◌≡◌, ⊎_elim, Option, Some, None, List, [], length, map, All, Contains, AllPairs, refl, sym, subst, subst₂, ap, ◌∙◌, arith, zero, suc}
use Rattle.std.proofs.lemmas.Bool.{cases_lt, cases_eq}
use Rattle.std.proofs.lemmas.List.{get_or_default}
use Rattle.std.proofs.lemmas.List.Elements.{All-get_or}
use Rattle.std.proofs.lemmas.Option.{unwrap_or-slice_get}
use Rattle.ct_vectors.specs.Vectors.{total, add, unit, Divides}
use Rattle.ct_vectors.proofs.Sums.{total-add, total-unit}
use Rattle.ct_vectors.proofs.Divisors.{Divides-trans, Divides-add_left, total-divides}
use Rattle.ct_instance.specs.Instance.{Problem, IsInstance, IsPoint, IsRight, width_of, degree_of, grade_of}
use Rattle.ct_instance.specs.Fiber.{IsLeast}
use Rattle.ct_instance.specs.TestSet.{Binomial, IsImprovable, IsTestHead, IsTestMove, IsTestList, ComesBefore}
use Rattle.ct_instance.specs.Walk.{first_dividing, IsNormal, IsMove, AreMoves}
use Rattle.ct_instance.specs.Jobs.{the_move}
use Rattle.ct_instance.proofs.Degree.{degree_is_right, grade-divides}
use Rattle.ct_instance.proofs.Fiber.{in_own_fiber, least_not_improvable}
use Rattle.ct_instance.proofs.TestHeads.{improvable_above, minimal_is}
use Rattle.ct_instance.proofs.TestList.{move_is_sound, before_itself, before_chain}
use Rattle.ct_walk.specs.Laws.{HasOneNormalPoint}
use Rattle.ct_walk.proofs.Steps.{move_is, move_at_within, dividing_gives, normal_from_none}
use Rattle.ct_walk.proofs.Ends.{the_move_is, the_move_at}
use Rattle.ct_walk.proofs.Openings.{head_is_listed}
use Rattle.ct_levels.proofs.Numbered.{the_test_move, heads_in_turn}
use Rattle.ct_resume.specs.Reduced.{IsReduced}

-- ---- a test list is reduced

module _ (i : Problem) (g : ℕ) (ms : List Binomial) (t : IsTestList i g ms) where
  only_itself : (l k : ℕ) → 1 ≤ l → l ≤ length ms → 1 ≤ k → k ≤ length ms → (l ≡ k → ⊥) → Divides (the_move ms l).head (the_move ms k).head → ⊥
  only_itself l k a b c d other e =
      let m = the_test_move i g ms t l a b in
      let n = the_test_move i g ms t k c d in
      let same : (the_move ms l).head ≡ (the_move ms k).head =
      minimal_is i (the_move ms k).head (the_move ms l).head (n.0).head ((m.0).head).point ((m.0).head).improvable e in
      ⊎_elim (λ h. before_itself i (the_move ms l).head (subst (ComesBefore i (the_move ms l).head) (sym same) (heads_in_turn i g ms t l k a h d)))
      (λ h. before_itself i (the_move ms k).head (subst (ComesBefore i (the_move ms k).head) same (heads_in_turn i g ms t k l c
      (let u : k < l = ⊎_elim (λ x. x) (λ x. absurd (other (omega arith))) (cases_lt k l) in u) b))) (cases_lt l k)

  undivided_tail : (k : ℕ) → 1 ≤ k → k ≤ length ms → IsNormal ms (the_move ms k).tail
  undivided_tail k c d =
      let n = (the_test_move i g ms t k c d).0 in
      normal_from_none ms (the_move ms k).tail
      (λ m u e.
      let h = ((move_is_sound i g ms t m u).0).head in
      let b : List ℕ = degree_of i.columns (the_move ms k).head in
      least_not_improvable i b (the_move ms k).tail n.tail (improvable_above i m.head (the_move ms k).tail h.point ((n.tail).member).point e h.improvable))

  pub test_list_is_reduced : IsReduced i ms
  test_list_is_reduced k c d = record {
    head = λ l a b other e. only_itself l k a b c d other e;
    tail = undivided_tail k c d;
    order = λ two. heads_in_turn i g ms t (k - 1) k (omega arith) (omega arith) d;
  }

-- ---- reduced moves that decide are a test list

module _ (i : Problem) (s : IsInstance i) (g : ℕ) (ms : List Binomial) (moves : AreMoves i ms) (low : All (λ m. grade_of i.columns m.head ≤ g) ms)
    (decide : (b : List ℕ) → IsRight i b → total b ≤ g → HasOneNormalPoint i ms b) (r : IsReduced i ms) where
  move_is_at : (k : ℕ) → 1 ≤ k → k ≤ length ms → IsMove i (the_move ms k)
  move_is_at k a b = move_is i ms moves k (the_move ms k) (the_move_at ms k a b)

  low_at : (k : ℕ) → 1 ≤ k → k ≤ length ms → grade_of i.columns (the_move ms k).head ≤ g
  low_at zero a b = absurd (omega arith)
  low_at (suc k) a b =
      let none : Binomial = record { head = []; tail = [] } in
      subst (λ (m : Binomial). grade_of i.columns m.head ≤ g) (sym (unwrap_or-slice_get ms k none))
      (All-get_or (λ (m : Binomial). grade_of i.columns m.head ≤ g) ms k none (omega arith) low)

  decides : (p : List ℕ) → IsPoint i p → grade_of i.columns p ≤ g → HasOneNormalPoint i ms (degree_of i.columns p)
  decides p e l = decide (degree_of i.columns p) (degree_is_right i s p e) l

  -- a point that no head divides isn't improvable
  still : (p : List ℕ) → IsPoint i p → grade_of i.columns p ≤ g → IsNormal ms p → IsImprovable i p → ⊥
  still p e l n m =
      let one = decides p e l in
      least_not_improvable i (degree_of i.columns p) p (subst (IsLeast i (degree_of i.columns p)) (sym (one.only p (in_own_fiber i p e) n)) one.least) m

  -- what divides a smaller point than the head is another head
  head_minimal : (k : ℕ) → 1 ≤ k → k ≤ length ms → (q : List ℕ) (j : ℕ) → IsPoint i q → j < width_of i →
      (the_move ms k).head ≡ add q (unit (width_of i) j) → IsImprovable i q → ⊥
  head_minimal k a b q j f l e m = found (first_dividing ms q) refl
    where
      h : List ℕ
      h = (the_move ms k).head

      part : Divides q (the_move ms k).head
      part = subst (Divides q) (sym e) (Divides-add_left q (unit (width_of i) j))

      small : grade_of i.columns q ≤ g
      small =
          let wide : length (the_move ms k).head ≡ width_of i = (move_is_at k a b).head in
          omega (arith, grade-divides i.columns q (the_move ms k).head (omega arith) part, low_at k a b)

      found : (o : Option ℕ) → first_dividing ms q ≡ o → ⊥
      found None n = still q f small n m
      found (Some n) u =
          let d = dividing_gives ms q n u in
          let at = move_at_within ms n d.0 d.1 in
          let same : the_move ms n ≡ d.0 = the_move_is ms n d.0 d.1 in
          let below : Divides (the_move ms n).head q = subst (λ (x : Binomial). Divides x.head q) (sym same) d.2 in
          ⊎_elim
          (λ w.
          let smaller : total (the_move ms k).head ≤ total q = total-divides (the_move ms k).head q (subst (λ (x : ℕ). Divides (the_move ms x).head q) w below) in
          let larger : total (the_move ms k).head ≡ total (add q (unit (width_of i) j)) = ap total e in
          omega (arith, total-add q (unit (width_of i) j), total-unit (width_of i) j l))
          (λ w. (r k a b).head n at.0 at.1 w (Divides-trans (the_move ms n).head q (the_move ms k).head below part)) (cases_eq n k)

  test_move_at : (k : ℕ) → 1 ≤ k → k ≤ length ms → IsTestMove i (the_move ms k)
  test_move_at k a b =
      let m = move_is_at k a b in
      let one = decides (the_move ms k).head m.head (low_at k a b) in
      record {
        head = record {
          point = m.head;
          improvable = record { lower = (the_move ms k).tail; member = record { point = m.tail; degree = m.degree }; below = m.below };
          minimal = head_minimal k a b;
        };
        tail = subst (IsLeast i (degree_of i.columns (the_move ms k).head)) (sym (one.only (the_move ms k).tail (record { point = m.tail; degree = m.degree }) (r k a b).tail)) one.least;
      }

  -- each move of the list is one of them
  each : (P : Binomial → Type 0) → ((k : ℕ) → 1 ≤ k → k ≤ length ms → P (the_move ms k)) → All P ms
  each P f k d l =
      let none : Binomial = record { head = []; tail = [] } in
      subst P (unwrap_or-slice_get ms k none ∙ get_or_default ms k none d l) (f (suc k) (omega arith) (omega arith))

  -- heads come in turn: each after the one before it
  in_turn : (a b : ℕ) → 1 ≤ a → a < b → b ≤ length ms → ComesBefore i (the_move ms a).head (the_move ms b).head
  in_turn a zero one l h = absurd (omega arith)
  in_turn a (suc b) one l h =
      let next : ComesBefore i (the_move ms b).head (the_move ms (suc b)).head =
      subst (λ (k : ℕ). ComesBefore i (the_move ms k).head (the_move ms (suc b)).head) (let e : suc b - 1 ≡ b = omega arith in e)
      ((r (suc b) (omega arith) h).order (omega arith)) in
      ⊎_elim (λ m. before_chain i (the_move ms a).head (the_move ms b).head (the_move ms (suc b)).head (in_turn a b one m (omega arith)) next)
      (λ m. subst (λ (k : ℕ). ComesBefore i (the_move ms k).head (the_move ms (suc b)).head) (let e : b ≡ a = omega arith in e) next) (cases_lt a b)

  pub reduced_is_test_list : IsTestList i g ms
  reduced_is_test_list = record { sound = sound; complete = complete; ordered = ordered }
    where
      sound : All (λ m. IsTestMove i m × (grade_of i.columns m.head ≤ g)) ms
      sound = each (λ m. IsTestMove i m × (grade_of i.columns m.head ≤ g)) (λ k a b. (test_move_at k a b, low_at k a b))

      complete : (p : List ℕ) → IsTestHead i p → grade_of i.columns p ≤ g → Contains (map (λ m. m.head) ms) p
      complete p h l = head_is_listed i ms (λ m c. subst (λ (x : Binomial). IsTestHead i x.head) c.2 ((sound c.0 m c.1).0).head) p h (decides p h.point l)

      ordered : AllPairs (λ m n. ComesBefore i m.head n.head) ms
      ordered a b d l h =
          let none : Binomial = record { head = []; tail = [] } in
          subst₂ (λ (m n : Binomial). ComesBefore i m.head n.head)
          (unwrap_or-slice_get ms a none ∙ get_or_default ms a none d (omega arith)) (unwrap_or-slice_get ms b none ∙ get_or_default ms b none d h)
          (in_turn (suc a) (suc b) (omega arith) (omega arith) (omega arith))

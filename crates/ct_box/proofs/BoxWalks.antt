-- Walks by the box: they end at the least point, and the moves up to a point's grade are enough for its walk.
use Rattle.std.proofs.Common.{ℕ, ◌≤◌, ◌<◌, ◌≡◌, ◌↔◌, inl, ⊎_elim, nat_lt, List, ◌++◌, filter, Contains, refl, sym, subst, ap, arith, ltb-true, lt-ltb}
use Rattle.std.proofs.lemmas.Bool.{cases_lt}
use Rattle.std.proofs.lemmas.List.Elements.{Contains-append_left, Contains-append_right, Contains-append_cases}
use Rattle.ct_vectors.specs.Vectors.{total, Divides}
use Rattle.ct_vectors.proofs.Divisors.{total-divides}
use Rattle.ct_instance.specs.Instance.{Problem, IsInstance, IsPoint, IsRight, degree_of, grade_of, start_of}
use Rattle.ct_instance.specs.Fiber.{least_of, IsInFiber, IsLeast}
use Rattle.ct_instance.specs.TestSet.{Binomial}
use Rattle.ct_instance.specs.Walk.{AreMoves, IsMove, IsNormal, IsWalk, IsWalkEnd}
use Rattle.ct_instance.proofs.Lists.{Contains-filter, filter_gives}
use Rattle.ct_instance.proofs.Degree.{grade-divides}
use Rattle.ct_instance.proofs.Fiber.{start_in_fiber, is_least_of}
use Rattle.ct_instance.proofs.Ordered.{InOrder, InOrder-append, InOrder-filter}
use Rattle.ct_instance.proofs.TestHeads.{test_move_is_move}
use Rattle.ct_walk.specs.Laws.{IsWithin}
use Rattle.ct_walk.proofs.Steps.{normal_from_none}
use Rattle.ct_walk.proofs.WalkFacts.{walk_least_within, parts_within, walk_by_longer, walk_by_front}
use Rattle.ct_box.specs.Box.{box_list, box_list_to}
use Rattle.ct_box.proofs.BoxLists.{Before, box_gives, box_in_order, up_to_gives, up_to_has, up_to_in_order, one_in_order, whole_box_list, box_moves}

pub box_walk_least : (i : Problem) → IsInstance i → (top b : List ℕ) → IsRight i b → Divides b top → (q : List ℕ) → IsWalkEnd (box_list i top) (start_of i b) q → q ≡ least_of i b
box_walk_least i s top b right d q w =
    let f = start_in_fiber i s b right in
    let whole = whole_box_list i s top in
    let within : IsWithin (total top) top (degree_of i.columns (start_of i b)) =
    subst (IsWithin (total top) top) (sym f.degree) (record { grade = total-divides b top d; bound = d }) in
    is_least_of i s b q
    (subst (λ (c : List ℕ). IsLeast i c q) f.degree
    (walk_least_within i s (box_list i top) (box_moves i top (total top) (box_list i top) whole) (IsWithin (total top) top) (parts_within (total top) top)
    whole.complete (start_of i b) q f.point within w))

-- ---- the moves beyond a grade

beyond : Problem → List ℕ → ℕ → List Binomial
beyond i top g = filter (λ m. nat_lt g (grade_of i.columns m.head)) (box_list i top)

beyond_gives : (i : Problem) (top : List ℕ) (g : ℕ) (m : Binomial) → Contains (beyond i top g) m → Contains (box_list i top) m × (g < grade_of i.columns m.head)
unfolding beyond
beyond_gives i top g m c =
    let f = filter_gives (λ m. nat_lt g (grade_of i.columns m.head)) (box_list i top) m c in
    (f.0, ltb-true g (grade_of i.columns m.head) f.1)

beyond_has : (i : Problem) (top : List ℕ) (g : ℕ) (m : Binomial) → Contains (box_list i top) m → g < grade_of i.columns m.head → Contains (beyond i top g) m
unfolding beyond
beyond_has i top g m c l = Contains-filter (λ m. nat_lt g (grade_of i.columns m.head)) (box_list i top) m c (lt-ltb g (grade_of i.columns m.head) l)

beyond_in_order : (i : Problem) → IsInstance i → (top : List ℕ) (g : ℕ) → InOrder (Before i) (beyond i top g)
unfolding beyond
beyond_in_order i s top g = InOrder-filter (Before i) (λ m. nat_lt g (grade_of i.columns m.head)) (box_list i top) (box_in_order i s top)

-- the box is its moves up to a grade and then those beyond it
parted : (i : Problem) → IsInstance i → (top : List ℕ) (g : ℕ) → box_list_to i top g ++ beyond i top g ≡ box_list i top
parted i s top g =
    one_in_order i (box_list_to i top g ++ beyond i top g) (box_list i top)
    (InOrder-append (Before i) (box_list_to i top g) (beyond i top g) (up_to_in_order i s top g) (beyond_in_order i s top g)
    (λ m n c d. inl (omega (arith, (up_to_gives i top g m c).1, (beyond_gives i top g n d).1))))
    (box_in_order i s top)
    (λ m c. ⊎_elim (λ d. (up_to_gives i top g m d).0) (λ d. (beyond_gives i top g m d).0) (Contains-append_cases (box_list_to i top g) (beyond i top g) m c))
    (λ m c. ⊎_elim (λ l. Contains-append_right (box_list_to i top g) (beyond i top g) m (beyond_has i top g m c l))
    (λ l. Contains-append_left (box_list_to i top g) (beyond i top g) m (up_to_has i top g m c l)) (cases_lt g (grade_of i.columns m.head)))

none_beyond : (i : Problem) → IsInstance i → (top : List ℕ) (g : ℕ) (r : List ℕ) → IsPoint i r → grade_of i.columns r ≤ g → IsNormal (beyond i top g) r
none_beyond i s top g r e l = normal_from_none (beyond i top g) r none
  where
    none : (m : Binomial) → Contains (beyond i top g) m → Divides m.head r → ⊥
    none m c d =
        let b = beyond_gives i top g m c in
        let move : IsMove i m = test_move_is_move i m (box_gives i s top m b.0).0 in
        omega (arith, b.1, grade-divides i.columns m.head r (omega (arith, move.head, e)) d)

-- ---- walks stay

pub box_walks_stay : (i : Problem) → IsInstance i → (top : List ℕ) (g : ℕ) (p : List ℕ) → IsPoint i p → grade_of i.columns p ≤ g →
    (steps : List (ℕ × ℕ)) (q : List ℕ) → IsWalk (box_list i top) p steps q ↔ IsWalk (box_list_to i top g) p steps q
box_walks_stay i s top g p e l steps q =
    subst (λ (ms : List Binomial). IsWalk ms p steps q ↔ IsWalk (box_list_to i top g) p steps q) (parted i s top g) (
      walk_by_longer i (box_list_to i top g) (beyond i top g) moves (degree_of i.columns p) none p q steps (record { point = e; degree = refl }),
      walk_by_front i (box_list_to i top g) (beyond i top g) moves (degree_of i.columns p) none p q steps (record { point = e; degree = refl }),
    )
  where
    moves : AreMoves i (box_list_to i top g ++ beyond i top g)
    moves = subst (AreMoves i) (sym (parted i s top g)) (box_moves i top (total top) (box_list i top) (whole_box_list i s top))

    none : (r : List ℕ) → IsInFiber i (degree_of i.columns p) r → IsNormal (beyond i top g) r
    none r f = none_beyond i s top g r f.point (let same : grade_of i.columns r ≡ grade_of i.columns p = ap total f.degree in omega (arith, same))

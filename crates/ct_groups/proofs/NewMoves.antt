-- The sorted pairs are the moves of the groups, in order and within the limit.
use Rattle.std.proofs.Common.{ℕ, Result, Ok, Err, IfOk, ◌<◌, ◌≡◌, ◌↔◌, inl, inr, ⊎_elim, All, AllPairs, Contains, Ordering, Less, Equal, Greater, List, [], ◌∷◌, length, get_or, map, refl, sym, subst, ap, ◌∙◌, arith}
use Rattle.std.specs.Cmp.{tied_itself, nat_cmp_total}
use Rattle.std.specs.Cmp.Lexicographic.{slice_cmp, lists_total}
use Rattle.std.specs.List.Sorted.{IsStrictlySortedBy}
use Rattle.std.specs.Ordering.{nat_cmp, ordering_then}
use Rattle.std.proofs.lemmas.Cmp.{ranked}
use Rattle.std.proofs.lemmas.List.{get_or_default, get_or-map, length-map}
use Rattle.std.proofs.lemmas.List.Elements.{All-contains, All-from_recursion, Contains-get_or}
use Rattle.std.proofs.lemmas.Map.Lookups.{exact_bytes}
use Rattle.ct_order.specs.Order.{first_difference}
use Rattle.ct_instance.specs.Instance.{Problem, IsPoint, degree_of, grade_of}
use Rattle.ct_instance.specs.TestSet.{Binomial, ComesBefore}
use Rattle.ct_instance.proofs.Fiber.{points_cases, below_itself, below_chain, below_differs}
use Rattle.ct_instance.proofs.Lists.{Contains-map}
use Rattle.ct_instance.proofs.Ordered.{InOrder, InOrder-map, InOrder-pairs}
use Rattle.ct_walk.specs.Moves.{IsSmallMove}
use Rattle.ct_completion.specs.Remainders.{IsGroupMove}
use Rattle.ct_groups.specs.declared.pairs.Pair.{Pair}
use Rattle.ct_groups.specs.Groups.{IsSmallPoint}
use Rattle.ct_groups.specs.Pairs.{pair_seen, pair_order, HasPairs}

small_from : (i : Problem) (ps : List (List ℕ)) → All (IsSmallPoint i) ps → (p : List ℕ) → Contains ps p → IsSmallPoint i p
small_from i ps small p c = All-contains (IsSmallPoint i) ps p small c

pub move_is_small : (i : Problem) (ps : List (List ℕ)) → All (IsSmallPoint i) ps → (m : Binomial) → IsGroupMove i ps m → IsSmallMove i m
move_is_small i ps small m g =
    let head = small_from i ps small m.head g.head in record {
      move = record {
        head = head.point;
        tail = (small_from i ps small m.tail g.tail).point;
        degree = g.degree;
        below = g.least m.head g.head (sym g.degree) g.other;
      };
      grade = head.grade;
    }

-- a group has one least point
one_tail : (i : Problem) (ps : List (List ℕ)) → All (IsSmallPoint i) ps → (m n : Binomial) → IsGroupMove i ps m → IsGroupMove i ps n → m.head ≡ n.head → m.tail ≡ n.tail
one_tail i ps small m n g h e =
    let degree : degree_of i.columns m.tail ≡ degree_of i.columns n.tail = g.degree ∙ ap (degree_of i.columns) e ∙ sym h.degree in
    ⊎_elim (λ d. absurd (below_itself i n.tail (below_chain i n.tail m.tail n.tail (h.least m.tail g.tail degree (below_differs i m.tail n.tail d)) d)))
    (λ u. ⊎_elim (λ same. same)
    (λ d. absurd (below_itself i m.tail (below_chain i m.tail n.tail m.tail (g.least n.tail h.tail (sym degree) (below_differs i n.tail m.tail d)) d))) u)
    (points_cases i m.tail n.tail (small_from i ps small m.tail g.tail).point (small_from i ps small n.tail h.tail).point)

-- on one width the order of slices is that of the first difference
first_is : (p q : List ℕ) → length p ≡ length q → slice_cmp nat_cmp p q ≡ first_difference p q
first_is [] [] e = refl
first_is [] (y ∷ q) e = absurd (omega arith)
first_is (x ∷ p) [] e = absurd (omega arith)
first_is (x ∷ p) (y ∷ q) e = ap (ordering_then (nat_cmp x y)) (first_is p q (omega arith))

strict_in_order : (xs : List Pair) → IsStrictlySortedBy pair_order xs → InOrder (λ p q. pair_order p q ≡ Less) xs
unfolding IsStrictlySortedBy
strict_in_order [] h = tt
strict_in_order (x ∷ xs) h = (λ y c. All-contains (λ q. pair_order x q ≡ Less) xs y (All-from_recursion (λ q. pair_order x q ≡ Less) xs h.0) c, strict_in_order xs h.1)

module _ (i : Problem) (ps : List (List ℕ)) (small : All (IsSmallPoint i) ps) (ys xs : List Pair) (has : HasPairs i ps (length ps) ys)
    (sorted : IsStrictlySortedBy pair_order xs) (same : (m : Binomial) → Contains (map pair_seen xs) m ↔ Contains (map pair_seen ys) m)
    (graded : All (λ p. p.grade ≡ grade_of i.columns p.head.now) xs) where
  pub exact : (m : Binomial) → Contains (map pair_seen xs) m ↔ IsGroupMove i ps m
  exact m = (λ c. has.sound m ((same m).0 c), λ g. (same m).1 (found g))
    where
      found : IsGroupMove i ps m → Contains (map pair_seen ys) m
      found g = has.complete (g.head).0 (g.head).1 m g (sym (get_or_default ps (g.head).0 [] m.head (g.head).1 ∙ (g.head).2))

  pub all_small : All (IsSmallMove i) (map pair_seen xs)
  all_small k d l = let c = Contains-get_or (map pair_seen xs) k d l in move_is_small i ps small (get_or (map pair_seen xs) k d) ((exact (get_or (map pair_seen xs) k d)).0 c)

  comes_before : (p q : Pair) → Contains xs p → Contains xs q → pair_order p q ≡ Less → ComesBefore i (pair_seen p).head (pair_seen q).head
  comes_before p q c d e = by_grade (nat_cmp p.grade q.grade) refl e
    where
      grade : (x : Pair) → Contains xs x → x.grade ≡ grade_of i.columns x.head.now
      grade x f = All-contains (λ y. y.grade ≡ grade_of i.columns y.head.now) xs x graded f

      move : (x : Pair) → Contains xs x → IsGroupMove i ps (pair_seen x)
      move x f = (exact (pair_seen x)).0 (Contains-map pair_seen xs x f)

      width : (x : Pair) → Contains xs x → IsPoint i x.head.now
      width x f = (small_from i ps small x.head.now (move x f).head).point

      by_head : p.grade ≡ q.grade → (o : Ordering) → slice_cmp nat_cmp p.head.now q.head.now ≡ o → ordering_then o (slice_cmp nat_cmp p.tail.now q.tail.now) ≡ Less → ComesBefore i p.head.now q.head.now
      by_head g Less f u = inr (sym (grade p c) ∙ g ∙ grade q d, sym (first_is p.head.now q.head.now (width p c ∙ sym (width q d))) ∙ f)
      by_head g Equal f u =
          let tails : p.tail.now ≡ q.tail.now = one_tail i ps small (pair_seen p) (pair_seen q) (move p c) (move q d) (exact_bytes p.head.now q.head.now f) in
          let tied : Equal ≡ Less = sym (tied_itself (lists_total nat_cmp_total) p.tail.now) ∙ ap (slice_cmp nat_cmp p.tail.now) tails ∙ u in
          absurd (cc)
      by_head g Greater f u = absurd (cc)

      by_grade : (o : Ordering) → nat_cmp p.grade q.grade ≡ o → ordering_then o (ordering_then (slice_cmp nat_cmp p.head.now q.head.now) (slice_cmp nat_cmp p.tail.now q.tail.now)) ≡ Less →
          ComesBefore i p.head.now q.head.now
      by_grade Less f u = let l : p.grade < q.grade = ranked p.grade q.grade Less (sym f) in inl (omega (arith, grade p c, grade q d))
      by_grade Equal f u = let g : p.grade ≡ q.grade = ranked p.grade q.grade Equal (sym f) in by_head g (slice_cmp nat_cmp p.head.now q.head.now) refl u
      by_grade Greater f u = absurd (cc)

  pub ordered : AllPairs (λ m n. ComesBefore i m.head n.head) (map pair_seen xs)
  ordered =
      InOrder-pairs (λ (m n : Binomial). ComesBefore i m.head n.head) (map pair_seen xs)
      (InOrder-map (λ p q. pair_order p q ≡ Less) (λ (m n : Binomial). ComesBefore i m.head n.head) pair_seen xs comes_before (strict_in_order xs sorted))

-- the move at a place of the pairs
pub small_pair_at : (i : Problem) (xs : List Pair) (k : ℕ) (d : Pair) → All (IsSmallMove i) (map pair_seen xs) → k < length xs → IsSmallMove i (pair_seen (get_or xs k d))
small_pair_at i xs k d a l =
    subst (IsSmallMove i) (get_or-map pair_seen xs k d (pair_seen d) l) (a k (pair_seen d) (let m : k < length (map pair_seen xs) = omega (arith, length-map xs pair_seen) in m))

-- what holds of the moves holds of the vector that is them
pub ok_items : {A E : Type 0} (items : A → List Binomial) (r : Result A E) (xs : List Binomial) (P : List Binomial → Type 0) → IfOk r (λ v. items v ≡ xs) → P xs → IfOk r (λ v. P (items v))
ok_items items (Ok v) xs P e h = subst P (sym e) h
ok_items items (Err x) xs P e h = tt

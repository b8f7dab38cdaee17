-- The refined order is a total order up to coordinates that are missing, and adding a point to both sides keeps it.
use Rattle.std.proofs.Common.{ℕ, ℤ, pos, ◌+◌, ◌≤◌, ◌<◌, ◌+ℤ◌, ◌*ℤ◌, ◌<ℤ◌, ◌≡◌, ◌⊎◌, inl, inr, true, true≢false, List, [], ◌∷◌, length, drop, Ordering, Less, Equal, Greater, is_lt, refl, sym, subst, ap, ap₂, ◌∙◌, arith}
use Rattle.std.specs.Ordering.{nat_cmp, int_cmp, ordering_then, ordering_reverse, MatchOrdering}
use Rattle.std.specs.Cmp.{IsTotalOrder, ranks, int_ranks, nat_cmp_is, int_cmp_is, nat_cmp_total, int_cmp_total, on_total, then_total, alike_right, tied_itself}
use Rattle.std.proofs.lemmas.Int.{ints}
use Rattle.ct_vectors.specs.Vectors.{total, add}
use Rattle.ct_vectors.proofs.Sums.{cons_same, total-add, add_comm}
use Rattle.ct_vectors.proofs.Places.{drop-add}
use Rattle.ct_order.specs.Order.{art_total_of, cost_of, first_difference, cost_order, refined_order, IsBelow}

-- ---- one comparison and then another

then-reverse : (a b : Ordering) → ordering_reverse (ordering_then a b) ≡ ordering_then (ordering_reverse a) (ordering_reverse b)
then-reverse Less b = refl
then-reverse Equal b = refl
then-reverse Greater b = refl

then-antisymm : (a b c d : Ordering) → a ≡ ordering_reverse c → b ≡ ordering_reverse d → ordering_then a b ≡ ordering_reverse (ordering_then c d)
then-antisymm a b c d e f = ap₂ ordering_then e f ∙ sym (then-reverse c d)

then-first : (a b : Ordering) → ordering_then a b ≡ Equal → a ≡ Equal
then-first Less b e = e
then-first Equal b e = refl
then-first Greater b e = e

pub then-second : (a b : Ordering) → ordering_then a b ≡ Equal → b ≡ Equal
then-second Less b e = absurd (grind arith)
then-second Equal b e = e
then-second Greater b e = absurd (grind arith)

trans_by : (x y z : ℕ) (a b s t u : Ordering) → nat_cmp x y ≡ a → nat_cmp y z ≡ b → (s ≡ Less → t ≡ Less → u ≡ Less) →
    ordering_then a s ≡ Less → ordering_then b t ≡ Less → ordering_then (nat_cmp x z) u ≡ Less
trans_by x y z Less Less s t u p q r e f = ap (λ o. ordering_then o u) (nat_cmp_total.trans x y z p q)
trans_by x y z Less Equal s t u p q r e f = ap (λ o. ordering_then o u) (sym (alike_right nat_cmp_total y z x q) ∙ p)
trans_by x y z Equal Less s t u p q r e f = ap (λ o. ordering_then o u) (nat_cmp_total.congr x y z p ∙ q)
trans_by x y z Equal Equal s t u p q r e f = ap (λ o. ordering_then o u) (nat_cmp_total.congr x y z p ∙ q) ∙ r e f
trans_by x y z Less Greater s t u p q r e f = absurd (grind arith)
trans_by x y z Equal Greater s t u p q r e f = absurd (grind arith)
trans_by x y z Greater b s t u p q r e f = absurd (grind arith)

then-trans : (x y z : ℕ) (s t u : Ordering) → (s ≡ Less → t ≡ Less → u ≡ Less) →
    ordering_then (nat_cmp x y) s ≡ Less → ordering_then (nat_cmp y z) t ≡ Less → ordering_then (nat_cmp x z) u ≡ Less
then-trans x y z s t u r e f = trans_by x y z (nat_cmp x y) (nat_cmp y z) s t u refl refl r e f

then-congr : (x y z : ℕ) (s t u : Ordering) → (s ≡ Equal → t ≡ u) → ordering_then (nat_cmp x y) s ≡ Equal →
    ordering_then (nat_cmp x z) t ≡ ordering_then (nat_cmp y z) u
then-congr x y z s t u r e = ap₂ ordering_then (nat_cmp_total.congr x y z (then-first (nat_cmp x y) s e)) (r (then-second (nat_cmp x y) s e))

-- ---- by the first coordinate that differs

first-antisymm : (p q : List ℕ) → first_difference p q ≡ ordering_reverse (first_difference q p)
first-antisymm [] [] = refl
first-antisymm [] (y ∷ q) = then-antisymm _ _ _ _ (nat_cmp_total.antisymm 0 y) (first-antisymm [] q)
first-antisymm (x ∷ p) [] = then-antisymm _ _ _ _ (nat_cmp_total.antisymm x 0) (first-antisymm p [])
first-antisymm (x ∷ p) (y ∷ q) = then-antisymm _ _ _ _ (nat_cmp_total.antisymm x y) (first-antisymm p q)

first-trans : (p q r : List ℕ) → first_difference p q ≡ Less → first_difference q r ≡ Less → first_difference p r ≡ Less
first-trans [] [] r e f = f
first-trans [] (y ∷ q) [] e f = then-trans 0 y 0 (first_difference [] q) (first_difference q []) Equal (first-trans [] q []) e f
first-trans [] (y ∷ q) (z ∷ r) e f = then-trans 0 y z (first_difference [] q) (first_difference q r) (first_difference [] r) (first-trans [] q r) e f
first-trans (x ∷ p) [] [] e f = e
first-trans (x ∷ p) [] (z ∷ r) e f = then-trans x 0 z (first_difference p []) (first_difference [] r) (first_difference p r) (first-trans p [] r) e f
first-trans (x ∷ p) (y ∷ q) [] e f = then-trans x y 0 (first_difference p q) (first_difference q []) (first_difference p []) (first-trans p q []) e f
first-trans (x ∷ p) (y ∷ q) (z ∷ r) e f = then-trans x y z (first_difference p q) (first_difference q r) (first_difference p r) (first-trans p q r) e f

first-congr : (p q r : List ℕ) → first_difference p q ≡ Equal → first_difference p r ≡ first_difference q r
first-congr [] [] r e = refl
first-congr [] (y ∷ q) [] e = then-congr 0 y 0 (first_difference [] q) Equal (first_difference q []) (first-congr [] q []) e
first-congr [] (y ∷ q) (z ∷ r) e = then-congr 0 y z (first_difference [] q) (first_difference [] r) (first_difference q r) (first-congr [] q r) e
first-congr (x ∷ p) [] [] e = then-congr x 0 0 (first_difference p []) (first_difference p []) Equal (first-congr p [] []) e
first-congr (x ∷ p) [] (z ∷ r) e = then-congr x 0 z (first_difference p []) (first_difference p r) (first_difference [] r) (first-congr p [] r) e
first-congr (x ∷ p) (y ∷ q) [] e = then-congr x y 0 (first_difference p q) (first_difference p []) (first_difference q []) (first-congr p q []) e
first-congr (x ∷ p) (y ∷ q) (z ∷ r) e = then-congr x y z (first_difference p q) (first_difference p r) (first_difference q r) (first-congr p q r) e

pub first_difference_total : IsTotalOrder first_difference
first_difference_total = record { antisymm = first-antisymm; trans = first-trans; congr = first-congr }

first_equal : (p q : List ℕ) → length p ≡ length q → first_difference p q ≡ Equal → p ≡ q
first_equal [] [] l e = refl
first_equal [] (y ∷ q) l e = absurd (omega arith)
first_equal (x ∷ p) [] l e = absurd (omega arith)
first_equal (x ∷ p) (y ∷ q) l e =
    cons_same (same_number x y (nat_cmp x y) refl (then-first (nat_cmp x y) (first_difference p q) e))
    (first_equal p q (omega arith) (then-second (nat_cmp x y) (first_difference p q) e))
  where
    same_number : (x y : ℕ) (o : Ordering) → nat_cmp x y ≡ o → nat_cmp x y ≡ Equal → x ≡ y
    same_number x y o h e = subst (λ (r : Ordering). MatchOrdering r (x < y) (x ≡ y) (y < x)) e (ranks x y)

-- ---- the whole order

pub cost_order_total : (rows : List (List ℤ)) → IsTotalOrder (cost_order rows)
cost_order_total [] = first_difference_total
cost_order_total (row ∷ rows) = then_total (on_total (cost_of row) int_cmp_total) (cost_order_total rows)

pub refined_order_total : (n : ℕ) (rows : List (List ℤ)) → IsTotalOrder (refined_order n rows)
refined_order_total n rows = then_total (on_total (art_total_of n) nat_cmp_total) (cost_order_total rows)

cost_equal : (rows : List (List ℤ)) (p q : List ℕ) → cost_order rows p q ≡ Equal → first_difference p q ≡ Equal
cost_equal [] p q e = e
cost_equal (row ∷ rows) p q e = cost_equal rows p q (then-second (int_cmp (cost_of row p) (cost_of row q)) (cost_order rows p q) e)

-- points of one width that the order doesn't tell apart are the same
pub order-equal : (n : ℕ) (rows : List (List ℤ)) (p q : List ℕ) → length p ≡ length q → refined_order n rows p q ≡ Equal → p ≡ q
order-equal n rows p q l e =
    first_equal p q l (cost_equal rows p q (then-second (nat_cmp (art_total_of n p) (art_total_of n q)) (cost_order rows p q) e))

pub order_itself : (n : ℕ) (rows : List (List ℤ)) (p : List ℕ) → refined_order n rows p p ≡ Equal
order_itself n rows p = tied_itself (refined_order_total n rows) p

pub below-irrefl : (n : ℕ) (rows : List (List ℤ)) (p : List ℕ) → IsBelow n rows p p → ⊥
below-irrefl n rows p b = let e : Equal ≡ Less = sym (order_itself n rows p) ∙ b in grind arith

pub below-trans : (n : ℕ) (rows : List (List ℤ)) (p q r : List ℕ) → IsBelow n rows p q → IsBelow n rows q r → IsBelow n rows p r
below-trans n rows p q r b c = (refined_order_total n rows).trans p q r b c

pub below-asymm : (n : ℕ) (rows : List (List ℤ)) (p q : List ℕ) → IsBelow n rows p q → IsBelow n rows q p → ⊥
below-asymm n rows p q b c = below-irrefl n rows p (below-trans n rows p q p b c)

-- greater one way is less the other way
pub order-greater : (n : ℕ) (rows : List (List ℤ)) (p q : List ℕ) → refined_order n rows p q ≡ Greater → IsBelow n rows q p
order-greater n rows p q e = (refined_order_total n rows).antisymm q p ∙ ap ordering_reverse e

pub order_ranks : (n : ℕ) (rows : List (List ℤ)) (p q : List ℕ) → length p ≡ length q →
    MatchOrdering (refined_order n rows p q) (IsBelow n rows p q) (p ≡ q) (IsBelow n rows q p)
order_ranks n rows p q l = go (refined_order n rows p q) refl
  where
    go : (o : Ordering) → refined_order n rows p q ≡ o → MatchOrdering o (IsBelow n rows p q) (p ≡ q) (IsBelow n rows q p)
    go Less e = e
    go Equal e = order-equal n rows p q l e
    go Greater e = order-greater n rows p q e

pub below_cases : (n : ℕ) (rows : List (List ℤ)) (p q : List ℕ) → length p ≡ length q → IsBelow n rows p q ⊎ ((p ≡ q) ⊎ IsBelow n rows q p)
below_cases n rows p q l = go (refined_order n rows p q) refl
  where
    go : (o : Ordering) → refined_order n rows p q ≡ o → IsBelow n rows p q ⊎ ((p ≡ q) ⊎ IsBelow n rows q p)
    go Less e = inl e
    go Equal e = inr (inl (order-equal n rows p q l e))
    go Greater e = inr (inr (order-greater n rows p q e))

pub Less-from_test : (o : Ordering) → is_lt o ≡ true → o ≡ Less
Less-from_test Less e = refl
Less-from_test Equal e = absurd (true≢false (sym e))
Less-from_test Greater e = absurd (true≢false (sym e))

pub test_from_Less : (o : Ordering) → o ≡ Less → is_lt o ≡ true
test_from_Less o e = ap is_lt e

-- ---- adding a point to both sides

nat_cmp_shift : (a b x y z : ℕ) → a ≡ x + z → b ≡ y + z → nat_cmp a b ≡ nat_cmp x y
nat_cmp_shift a b x y z e f = nat_cmp_is x y (nat_cmp a b) (go (nat_cmp a b) (ranks a b))
  where
    go : (o : Ordering) → MatchOrdering o (a < b) (a ≡ b) (b < a) → MatchOrdering o (x < y) (x ≡ y) (y < x)
    go Less h = omega arith
    go Equal h = omega arith
    go Greater h = omega arith

int_cmp_shift : (a b x y z : ℤ) → a ≡ x +ℤ z → b ≡ y +ℤ z → int_cmp a b ≡ int_cmp x y
int_cmp_shift a b x y z e f = int_cmp_is x y (int_cmp a b) (go (int_cmp a b) (int_ranks a b))
  where
    go : (o : Ordering) → MatchOrdering o (a <ℤ b) (a ≡ b) (b <ℤ a) → MatchOrdering o (x <ℤ y) (x ≡ y) (y <ℤ x)
    go Less h = omega (arith, ints)
    go Equal h = omega (arith, ints)
    go Greater h = omega (arith, ints)

pub art_total-add : (n : ℕ) (p q : List ℕ) → art_total_of n (add p q) ≡ art_total_of n p + art_total_of n q
art_total-add n p q = ap total (drop-add n p q) ∙ total-add (drop n p) (drop n q)

cost_step : (c s t u : ℤ) (x y : ℕ) → s ≡ t +ℤ u → (c *ℤ pos (x + y)) +ℤ s ≡ ((c *ℤ pos x) +ℤ t) +ℤ ((c *ℤ pos y) +ℤ u)
cost_step c s t u x y e = omega (arith, ints)

pub cost-add : (row : List ℤ) (p q : List ℕ) → cost_of row (add p q) ≡ cost_of row p +ℤ cost_of row q
cost-add [] p q = refl
cost-add (c ∷ cs) [] q = omega (arith, ints)
cost-add (c ∷ cs) (x ∷ p) [] = omega (arith, ints)
cost-add (c ∷ cs) (x ∷ p) (y ∷ q) = cost_step c (cost_of cs (add p q)) (cost_of cs p) (cost_of cs q) x y (cost-add cs p q)

first_difference-add : (p q r : List ℕ) → first_difference (add p r) (add q r) ≡ first_difference p q
first_difference-add [] [] r = tied_itself first_difference_total r
first_difference-add [] (y ∷ q) [] = refl
first_difference-add [] (y ∷ q) (z ∷ r) = ap₂ ordering_then (nat_cmp_shift z (y + z) 0 y z (omega arith) refl) (first_difference-add [] q r)
first_difference-add (x ∷ p) [] [] = refl
first_difference-add (x ∷ p) [] (z ∷ r) = ap₂ ordering_then (nat_cmp_shift (x + z) z x 0 z refl (omega arith)) (first_difference-add p [] r)
first_difference-add (x ∷ p) (y ∷ q) [] = refl
first_difference-add (x ∷ p) (y ∷ q) (z ∷ r) = ap₂ ordering_then (nat_cmp_shift (x + z) (y + z) x y z refl refl) (first_difference-add p q r)

cost_order-add : (rows : List (List ℤ)) (p q r : List ℕ) → cost_order rows (add p r) (add q r) ≡ cost_order rows p q
cost_order-add [] p q r = first_difference-add p q r
cost_order-add (row ∷ rows) p q r =
    ap₂ ordering_then
    (int_cmp_shift (cost_of row (add p r)) (cost_of row (add q r)) (cost_of row p) (cost_of row q) (cost_of row r) (cost-add row p r) (cost-add row q r))
    (cost_order-add rows p q r)

pub order-add : (n : ℕ) (rows : List (List ℤ)) (p q r : List ℕ) → refined_order n rows (add p r) (add q r) ≡ refined_order n rows p q
order-add n rows p q r =
    ap₂ ordering_then
    (nat_cmp_shift (art_total_of n (add p r)) (art_total_of n (add q r)) (art_total_of n p) (art_total_of n q) (art_total_of n r) (art_total-add n p r) (art_total-add n q r))
    (cost_order-add rows p q r)

pub order-add_left : (n : ℕ) (rows : List (List ℤ)) (r p q : List ℕ) → refined_order n rows (add r p) (add r q) ≡ refined_order n rows p q
order-add_left n rows r p q = ap₂ (refined_order n rows) (add_comm r p) (add_comm r q) ∙ order-add n rows p q r

pub below-add : (n : ℕ) (rows : List (List ℤ)) (p q r : List ℕ) → IsBelow n rows p q → IsBelow n rows (add p r) (add q r)
below-add n rows p q r b = order-add n rows p q r ∙ b

pub below-add_left : (n : ℕ) (rows : List (List ℤ)) (r p q : List ℕ) → IsBelow n rows p q → IsBelow n rows (add r p) (add r q)
below-add_left n rows r p q b = order-add_left n rows r p q ∙ b

-- what is below has no greater artificial total
pub art_total-below : (n : ℕ) (rows : List (List ℤ)) (p q : List ℕ) → IsBelow n rows p q → art_total_of n p ≤ art_total_of n q
art_total-below n rows p q b = go (nat_cmp (art_total_of n p) (art_total_of n q)) (ranks (art_total_of n p) (art_total_of n q)) b
  where
    go : (o : Ordering) → MatchOrdering o (art_total_of n p < art_total_of n q) (art_total_of n p ≡ art_total_of n q) (art_total_of n q < art_total_of n p) →
        ordering_then o (cost_order rows p q) ≡ Less → art_total_of n p ≤ art_total_of n q
    go Less h e = omega arith
    go Equal h e = omega arith
    go Greater h e = absurd (grind arith)

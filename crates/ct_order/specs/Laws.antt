-- What holds of the refined order, whatever the number of columns and the rows of costs.
use Rattle.std.specs.Prelude.{ℕ, ℤ, ◌≡◌, List, length}
use Rattle.std.specs.Ordering.{MatchOrdering}
use Rattle.ct_vectors.specs.Vectors.{add}
use Rattle.ct_order.specs.Order.{refined_order, IsBelow}

abbrev pub OrderIsIrreflexive : Type 0
OrderIsIrreflexive = (n : ℕ) (rows : List (List ℤ)) (p : List ℕ) → IsBelow n rows p p → ⊥

abbrev pub OrderIsTransitive : Type 0
OrderIsTransitive = (n : ℕ) (rows : List (List ℤ)) (p q r : List ℕ) → IsBelow n rows p q → IsBelow n rows q r → IsBelow n rows p r

-- of two points of one width the first is below, or they are equal, or the second is below, as the order says
abbrev pub OrderIsTotal : Type 0
OrderIsTotal =
    (n : ℕ) (rows : List (List ℤ)) (p q : List ℕ) → length p ≡ length q →
    MatchOrdering (refined_order n rows p q) (IsBelow n rows p q) (p ≡ q) (IsBelow n rows q p)

abbrev pub OrderKeepsSums : Type 0
OrderKeepsSums =
    (n : ℕ) (rows : List (List ℤ)) (p q r : List ℕ) → refined_order n rows (add p r) (add q r) ≡ refined_order n rows p q

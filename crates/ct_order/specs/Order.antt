-- The refined order on points of n + m coordinates: x_1 to x_n, then the artificials y_1 to y_m.
use Rattle.std.specs.Prelude.{ℕ, ℤ, pos, ◌+ℤ◌, ◌*ℤ◌, ◌≡◌, List, [], ◌∷◌, drop}
use Rattle.std.specs.declared.cmp.Ordering.{Ordering}
use Rattle.std.specs.declared.cmp.Ordering.TheVariants.{Less, Equal}
use Rattle.std.specs.Ordering.{nat_cmp, int_cmp, ordering_then}
use Rattle.ct_vectors.specs.Vectors.{total}

-- the sum of the coordinates after the first n
abbrev pub art_total_of : ℕ → List ℕ → ℕ
art_total_of n p = total (drop n p)

-- the sum of cost times coordinate, over the columns that have a cost
abbrev pub cost_of : List ℤ → List ℕ → ℤ
cost_of [] p = pos 0
cost_of (c ∷ cs) [] = pos 0
cost_of (c ∷ cs) (x ∷ p) = (c *ℤ pos x) +ℤ cost_of cs p

-- by the first coordinate that differs; one that a list lacks reads as 0
abbrev pub first_difference : List ℕ → List ℕ → Ordering
first_difference [] [] = Equal
first_difference [] (y ∷ q) = ordering_then (nat_cmp 0 y) (first_difference [] q)
first_difference (x ∷ p) [] = ordering_then (nat_cmp x 0) (first_difference p [])
first_difference (x ∷ p) (y ∷ q) = ordering_then (nat_cmp x y) (first_difference p q)

-- by the cost rows in turn, then by the first coordinate that differs
abbrev pub cost_order : List (List ℤ) → List ℕ → List ℕ → Ordering
cost_order [] p q = first_difference p q
cost_order (row ∷ rows) p q = ordering_then (int_cmp (cost_of row p) (cost_of row q)) (cost_order rows p q)

-- by the artificial total, then the cost rows, then the first coordinate that differs: the smaller number is lower
abbrev pub refined_order : ℕ → List (List ℤ) → List ℕ → List ℕ → Ordering
refined_order n rows p q = ordering_then (nat_cmp (art_total_of n p) (art_total_of n q)) (cost_order rows p q)

-- p is below q in the refined order
abbrev pub IsBelow : ℕ → List (List ℤ) → List ℕ → List ℕ → Type 0
IsBelow n rows p q = refined_order n rows p q ≡ Less

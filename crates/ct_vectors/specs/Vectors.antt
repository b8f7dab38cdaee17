-- Arithmetic of points. A point is a list of natural numbers, and a coordinate that a list lacks reads as 0.
use Rattle.std.specs.Prelude.{ℕ, ◌+◌, ◌-◌, ◌*◌, ◌≤◌, ◌≡◌, ◌⊎◌, max, Bool, true, ◌&&◌, ◌||◌, nat_le, nat_eq, List, [], ◌∷◌, ◌++◌, replicate, zero, suc}

-- the sum of the coordinates
abbrev pub total : List ℕ → ℕ
total [] = 0
total (x ∷ p) = x + total p

abbrev pub add : List ℕ → List ℕ → List ℕ
add [] q = q
add (x ∷ p) [] = x ∷ p
add (x ∷ p) (y ∷ q) = (x + y) ∷ add p q

-- the difference, 0 where it would be negative
abbrev pub subtract : List ℕ → List ℕ → List ℕ
subtract [] q = []
subtract (x ∷ p) [] = x ∷ p
subtract (x ∷ p) (y ∷ q) = (x - y) ∷ subtract p q

abbrev pub scale : ℕ → List ℕ → List ℕ
scale t [] = []
scale t (x ∷ p) = (t * x) ∷ scale t p

-- the greater number in each coordinate
abbrev pub lcm : List ℕ → List ℕ → List ℕ
lcm [] q = q
lcm (x ∷ p) [] = x ∷ p
lcm (x ∷ p) (y ∷ q) = max x y ∷ lcm p q

-- n coordinates that are 0
abbrev pub zeros : ℕ → List ℕ
zeros n = replicate n 0

-- n coordinates, of which the one with the index j, from 0, is 1 and the others are 0
abbrev pub unit : ℕ → ℕ → List ℕ
unit zero j = []
unit (suc n) zero = 1 ∷ zeros n
unit (suc n) (suc j) = 0 ∷ unit n j

-- the first list is at most the second in each coordinate
abbrev pub Divides : List ℕ → List ℕ → Type 0
Divides [] q = Unit {0}
Divides (x ∷ p) [] = (x ≡ 0) × Divides p []
Divides (x ∷ p) (y ∷ q) = (x ≤ y) × Divides p q

-- the same as a test
abbrev pub divides : List ℕ → List ℕ → Bool
divides [] q = true
divides (x ∷ p) [] = nat_eq x 0 && divides p []
divides (x ∷ p) (y ∷ q) = nat_le x y && divides p q

-- t is the greatest count with t times h at most p
pub record IsTimes (h p : List ℕ) (t : ℕ) : Type 0 where
  pub fits : Divides (scale t h) p
  pub most : (s : ℕ) → Divides (scale s h) p → s ≤ t

-- no coordinate is positive in both
abbrev pub Disjoint : List ℕ → List ℕ → Type 0
Disjoint [] q = Unit {0}
Disjoint (x ∷ p) [] = Unit {0}
Disjoint (x ∷ p) (y ∷ q) = ((x ≡ 0) ⊎ (y ≡ 0)) × Disjoint p q

-- the same as a test
abbrev pub disjoint : List ℕ → List ℕ → Bool
disjoint [] q = true
disjoint (x ∷ p) [] = true
disjoint (x ∷ p) (y ∷ q) = (nat_eq x 0 || nat_eq y 0) && disjoint p q

-- the numbers from 0 to n
abbrev pub up_to : ℕ → List ℕ
up_to zero = 0 ∷ []
up_to (suc n) = up_to n ++ suc n ∷ []

-- List arithmetic place by place.
use Rattle.std.proofs.Common.{◌≡◌, ℕ, ◌+◌, ◌-◌, ◌*◌, ◌<◌, max, List, [], ◌∷◌, length, get_or, refl, sym, zero-add, arith, zero, suc}
use Rattle.ct_vectors.specs.Vectors.{add, subtract, scale, lcm, total}

pub get_or-add : (p q : List ℕ) (i : ℕ) → get_or (add p q) i 0 ≡ get_or p i 0 + get_or q i 0
get_or-add [] q i = sym (zero-add (get_or q i 0))
get_or-add (x ∷ p) [] i = omega arith
get_or-add (x ∷ p) (y ∷ q) zero = refl
get_or-add (x ∷ p) (y ∷ q) (suc i) = get_or-add p q i

pub get_or-subtract : (p q : List ℕ) (i : ℕ) → get_or (subtract p q) i 0 ≡ get_or p i 0 - get_or q i 0
get_or-subtract [] q i = omega arith
get_or-subtract (x ∷ p) [] i = omega arith
get_or-subtract (x ∷ p) (y ∷ q) zero = refl
get_or-subtract (x ∷ p) (y ∷ q) (suc i) = get_or-subtract p q i

pub get_or-scale : (t : ℕ) (p : List ℕ) (i : ℕ) → get_or (scale t p) i 0 ≡ t * get_or p i 0
get_or-scale t [] i = omega arith
get_or-scale t (x ∷ p) zero = refl
get_or-scale t (x ∷ p) (suc i) = get_or-scale t p i

pub get_or-lcm : (p q : List ℕ) (i : ℕ) → get_or (lcm p q) i 0 ≡ max (get_or p i 0) (get_or q i 0)
get_or-lcm [] q i = omega arith
get_or-lcm (x ∷ p) [] i = omega arith
get_or-lcm (x ∷ p) (y ∷ q) zero = refl
get_or-lcm (x ∷ p) (y ∷ q) (suc i) = get_or-lcm p q i

pub total-zero : (p : List ℕ) → ((i : ℕ) → i < length p → get_or p i 0 ≡ 0) → total p ≡ 0
total-zero [] h = refl
total-zero (x ∷ p) h =
    let first : x ≡ 0 = h 0 (omega arith) in
    let rest : total p ≡ 0 = total-zero p (λ i l. let m : suc i < length (x ∷ p) = omega arith in h (suc i) m) in
    omega arith

-- Laws of sum, difference and multiple. A law asks for equal lengths only where a coordinate could get lost.
use Rattle.std.proofs.Common.{ℕ, ◌+◌, ◌*◌, ◌≤◌, ◌<◌, ◌≡◌, max, All, List, [], ◌∷◌, length, refl, sym, ap, ap₂, ◌∙◌, arith, zero, suc}
use Rattle.std.proofs.lemmas.List.Elements.{All-tail}
use Rattle.ct_vectors.specs.Vectors.{total, add, subtract, scale, zeros, unit}

pub cons_same : {x y : ℕ} {p q : List ℕ} → x ≡ y → p ≡ q → x ∷ p ≡ y ∷ q
cons_same e f = ap₂ ◌∷◌ e f

pub cons_head : {x y : ℕ} {p q : List ℕ} → x ∷ p ≡ y ∷ q → x ≡ y
cons_head e = cc

pub cons_tail : {x y : ℕ} {p q : List ℕ} → x ∷ p ≡ y ∷ q → p ≡ q
cons_tail e = cc

-- lengths

pub length-add : (p q : List ℕ) → length (add p q) ≡ max (length p) (length q)
length-add [] q = omega arith
length-add (x ∷ p) [] = omega arith
length-add (x ∷ p) (y ∷ q) = omega (arith, length-add p q)

pub length-add_same : {n : ℕ} (p q : List ℕ) → length p ≡ n → length q ≡ n → length (add p q) ≡ n
length-add_same p q e f = omega (arith, length-add p q)

pub length-subtract : (p q : List ℕ) → length (subtract p q) ≡ length p
length-subtract [] q = refl
length-subtract (x ∷ p) [] = refl
length-subtract (x ∷ p) (y ∷ q) = ap suc (length-subtract p q)

pub length-scale : (t : ℕ) (p : List ℕ) → length (scale t p) ≡ length p
length-scale t [] = refl
length-scale t (x ∷ p) = ap suc (length-scale t p)

pub length-zeros : (n : ℕ) → length (zeros n) ≡ n
length-zeros zero = refl
length-zeros (suc n) = ap suc (length-zeros n)

pub length-unit : (n j : ℕ) → length (unit n j) ≡ n
length-unit zero j = refl
length-unit (suc n) zero = ap suc (length-zeros n)
length-unit (suc n) (suc j) = ap suc (length-unit n j)

-- the sum

pub add-nil : (p : List ℕ) → add p [] ≡ p
add-nil [] = refl
add-nil (x ∷ p) = refl

pub add_comm : (p q : List ℕ) → add p q ≡ add q p
add_comm [] q = sym (add-nil q)
add_comm (x ∷ p) [] = refl
add_comm (x ∷ p) (y ∷ q) = cons_same (omega arith) (add_comm p q)

pub add_assoc : (p q r : List ℕ) → add (add p q) r ≡ add p (add q r)
add_assoc [] q r = refl
add_assoc (x ∷ p) [] r = refl
add_assoc (x ∷ p) (y ∷ q) [] = refl
add_assoc (x ∷ p) (y ∷ q) (z ∷ r) = cons_same (omega arith) (add_assoc p q r)

pub add_right_comm : (p q r : List ℕ) → add (add p q) r ≡ add (add p r) q
add_right_comm p q r = add_assoc p q r ∙ ap (add p) (add_comm q r) ∙ sym (add_assoc p r q)

-- (p + q) + (r + s) = (p + r) + (q + s)
pub add_cross : (p q r s : List ℕ) → add (add p q) (add r s) ≡ add (add p r) (add q s)
add_cross p q r s = sym (add_assoc (add p q) r s) ∙ ap (λ u. add u s) (add_right_comm p q r) ∙ add_assoc (add p r) q s

pub add_right_cancel : (p q h : List ℕ) → length p ≡ length q → add p h ≡ add q h → p ≡ q
add_right_cancel [] [] h e f = refl
add_right_cancel [] (y ∷ q) h e f = absurd (omega arith)
add_right_cancel (x ∷ p) [] h e f = absurd (omega arith)
add_right_cancel (x ∷ p) (y ∷ q) [] e f = f
add_right_cancel (x ∷ p) (y ∷ q) (z ∷ h) e f =
    let heads : x + z ≡ y + z = cons_head f in
    cons_same (omega arith) (add_right_cancel p q h (omega arith) (cons_tail f))

pub add-zeros : (p : List ℕ) (n : ℕ) → n ≤ length p → add p (zeros n) ≡ p
add-zeros [] zero h = refl
add-zeros [] (suc n) h = absurd (omega arith)
add-zeros (x ∷ p) zero h = refl
add-zeros (x ∷ p) (suc n) h = cons_same (omega arith) (add-zeros p n (omega arith))

pub zeros-add : (n : ℕ) (p : List ℕ) → n ≤ length p → add (zeros n) p ≡ p
zeros-add n p h = add_comm (zeros n) p ∙ add-zeros p n h

-- the difference

pub subtract-add : (p h : List ℕ) → length h ≤ length p → subtract (add p h) h ≡ p
subtract-add [] [] l = refl
subtract-add [] (y ∷ h) l = absurd (omega arith)
subtract-add (x ∷ p) [] l = refl
subtract-add (x ∷ p) (y ∷ h) l = cons_same (omega arith) (subtract-add p h (omega arith))

pub subtract-zeros : (p : List ℕ) (n : ℕ) → subtract p (zeros n) ≡ p
subtract-zeros [] n = refl
subtract-zeros (x ∷ p) zero = refl
subtract-zeros (x ∷ p) (suc n) = cons_same (omega arith) (subtract-zeros p n)

pub subtract_self : (p : List ℕ) → subtract p p ≡ zeros (length p)
subtract_self [] = refl
subtract_self (x ∷ p) = cons_same (omega arith) (subtract_self p)

-- the multiple

pub scale-add : (t : ℕ) (p q : List ℕ) → scale t (add p q) ≡ add (scale t p) (scale t q)
scale-add t [] q = refl
scale-add t (x ∷ p) [] = refl
scale-add t (x ∷ p) (y ∷ q) = cons_same (omega arith) (scale-add t p q)

pub scale_of_sum : (s t : ℕ) (p : List ℕ) → scale (s + t) p ≡ add (scale s p) (scale t p)
scale_of_sum s t [] = refl
scale_of_sum s t (x ∷ p) = cons_same (omega arith) (scale_of_sum s t p)

pub scale-suc : (t : ℕ) (p : List ℕ) → scale (suc t) p ≡ add (scale t p) p
scale-suc t [] = refl
scale-suc t (x ∷ p) = cons_same (omega arith) (scale-suc t p)

pub scale-one : (p : List ℕ) → scale 1 p ≡ p
scale-one [] = refl
scale-one (x ∷ p) = cons_same (omega arith) (scale-one p)

pub scale-zero : (p : List ℕ) → scale 0 p ≡ zeros (length p)
scale-zero [] = refl
scale-zero (x ∷ p) = cons_same (omega arith) (scale-zero p)

-- the total

pub total-add : (p q : List ℕ) → total (add p q) ≡ total p + total q
total-add [] q = omega arith
total-add (x ∷ p) [] = omega arith
total-add (x ∷ p) (y ∷ q) = omega (arith, total-add p q)

pub total-scale : (t : ℕ) (p : List ℕ) → total (scale t p) ≡ t * total p
total-scale t [] = omega arith
total-scale t (x ∷ p) = omega (arith, total-scale t p)

pub total-zeros : (n : ℕ) → total (zeros n) ≡ 0
total-zeros zero = refl
total-zeros (suc n) = omega (arith, total-zeros n)

pub total-unit : (n j : ℕ) → j < n → total (unit n j) ≡ 1
total-unit zero j h = absurd (omega arith)
total-unit (suc n) zero h = omega (arith, total-zeros n)
total-unit (suc n) (suc j) h = omega (arith, total-unit n j (omega arith))

pub zeros_from_total : (p : List ℕ) → total p ≡ 0 → p ≡ zeros (length p)
zeros_from_total [] h = refl
zeros_from_total (x ∷ p) h = cons_same (omega arith) (zeros_from_total p (omega arith))

-- the total of numbers that have a limit
pub total-limit : (k : ℕ) (p : List ℕ) → All (λ x. x ≤ k) p → total p ≤ length p * k
total-limit k [] h = omega arith
total-limit k (x ∷ p) h =
    let first : x ≤ k = h 0 0 (omega arith) in
    let rest : total p ≤ length p * k = total-limit k p (All-tail (λ x. x ≤ k) x p h) in
    limit_more x (total p) (length p) k first rest
  where
    limit_more : (x t n k : ℕ) → x ≤ k → t ≤ n * k → x + t ≤ suc n * k
    limit_more x t n k h l = omega arith

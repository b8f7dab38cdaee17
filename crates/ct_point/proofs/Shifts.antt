-- A shift place by place: so many times the head away, and as many times the tail added.
use Rattle.std.proofs.Common.{◌≡◌, ℕ, ◌+◌, ◌-◌, ◌*◌, ◌≤◌, max, List, length, get_or, arith}
use Rattle.ct_vectors.specs.Vectors.{add, subtract, scale, Divides}
use Rattle.ct_vectors.proofs.Sums.{length-add, length-subtract, length-scale}
use Rattle.ct_vectors.proofs.Divisors.{Divides-at}
use Rattle.ct_point.proofs.Places

abbrev pub shifted : ℕ → List ℕ → List ℕ → List ℕ → List ℕ
shifted t p head tail = add (subtract p (scale t head)) (scale t tail)

pub length-shifted : (t : ℕ) (p head tail : List ℕ) → length p ≡ length tail → length (shifted t p head tail) ≡ length p
length-shifted t p head tail width =
    let less : length (subtract p (scale t head)) ≡ length p = length-subtract p (scale t head) in
    let more : length (scale t tail) ≡ length tail = length-scale t tail in
    let sum : length (add (subtract p (scale t head)) (scale t tail)) ≡ max (length (subtract p (scale t head))) (length (scale t tail)) = length-add (subtract p (scale t head)) (scale t tail) in
    omega arith

pub get_or-shifted : (t : ℕ) (p head tail : List ℕ) (i : ℕ) → get_or (shifted t p head tail) i 0 ≡ get_or p i 0 - t * get_or head i 0 + t * get_or tail i 0
get_or-shifted t p head tail i =
    let taken : get_or (scale t head) i 0 ≡ t * get_or head i 0 = Places.get_or-scale t head i in
    let given : get_or (scale t tail) i 0 ≡ t * get_or tail i 0 = Places.get_or-scale t tail i in
    let less : get_or (subtract p (scale t head)) i 0 ≡ get_or p i 0 - get_or (scale t head) i 0 = Places.get_or-subtract p (scale t head) i in
    let sum : get_or (add (subtract p (scale t head)) (scale t tail)) i 0 ≡ get_or (subtract p (scale t head)) i 0 + get_or (scale t tail) i 0 = Places.get_or-add (subtract p (scale t head)) (scale t tail) i in
    omega arith

pub multiple-at : (t : ℕ) (head p : List ℕ) → Divides (scale t head) p → (i : ℕ) → t * get_or head i 0 ≤ get_or p i 0
multiple-at t head p d i =
    let taken : get_or (scale t head) i 0 ≡ t * get_or head i 0 = Places.get_or-scale t head i in
    let at_most : get_or (scale t head) i 0 ≤ get_or p i 0 = Divides-at (scale t head) p d i in
    omega arith

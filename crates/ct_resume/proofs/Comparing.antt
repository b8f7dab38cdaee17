-- Heads by their grade, and then by the first coordinate that differs.
use Rattle.std.proofs.Common.{ℕ, ◌≡◌, true, true≢false, List, [], ◌∷◌, length, Ordering, Less, Equal, Greater, refl, sym, ap, arith}
use Rattle.std.specs.Bool.{◌==◌}
use Rattle.std.specs.Cmp.Lexicographic.{slice_cmp}
use Rattle.std.specs.Ordering.{nat_cmp, ordering_then, ordering_index}
use Rattle.ct_order.specs.Order.{first_difference}

-- on one width the order of slices is that of the first difference
pub first_is : (p q : List ℕ) → length p ≡ length q → slice_cmp nat_cmp p q ≡ first_difference p q
first_is [] [] e = refl
first_is [] (y ∷ q) e = absurd (omega arith)
first_is (x ∷ p) [] e = absurd (omega arith)
first_is (x ∷ p) (y ∷ q) e = ap (ordering_then (nat_cmp x y)) (first_is p q (omega arith))

pub index_of_less : (o : Ordering) → (ordering_index o == 0) ≡ true → o ≡ Less
index_of_less Less e = refl
index_of_less Equal e = absurd (true≢false (sym e))
index_of_less Greater e = absurd (true≢false (sym e))

pub less_has_index : (o : Ordering) → o ≡ Less → (ordering_index o == 0) ≡ true
less_has_index o e = ap (λ (x : Ordering). ordering_index x == 0) e

-- Costs and the first difference of lists with slacks behind.
use Rattle.std.proofs.Common.{ℕ, ℤ, pos, ◌+ℤ◌, ◌*ℤ◌, ◌≡◌, ◌⊎◌, inl, inr, ◌<◌, Bool, true, false, nat_eq, List, [], ◌∷◌, ◌++◌, length, map, replicate, Ordering, Less, Equal, Greater, refl, sym, ap, ap₂, ◌∙◌, arith, zero, suc, true≢false}
use Rattle.std.specs.List.{AllByRecursion}
use Rattle.std.specs.Cmp.{ranks}
use Rattle.std.specs.Cmp.Lexicographic.{pointwise}
use Rattle.std.specs.Ordering.{nat_cmp, int_cmp, ordering_then, MatchOrdering}
use Rattle.std.proofs.lemmas.Int.{ints}
use Rattle.ct_vectors.proofs.Sums.{cons_same}
use Rattle.ct_vectors.proofs.Divisors.{Decides-same_numbers}
use Rattle.ct_order.specs.Order.{cost_of, first_difference, cost_order}

-- costs that are 0 count for nothing
cost_nothing : (k : ℕ) (u : List ℕ) → cost_of (replicate k (pos 0)) u ≡ pos 0
cost_nothing zero u = refl
cost_nothing (suc k) [] = refl
cost_nothing (suc k) (x ∷ u) = let rest : cost_of (replicate k (pos 0)) u ≡ pos 0 = cost_nothing k u in omega (arith, ints)

pub cost-front : (row : List ℤ) (k : ℕ) (x u : List ℕ) → length row ≡ length x → cost_of (row ++ replicate k (pos 0)) (x ++ u) ≡ cost_of row x
cost-front [] k [] u e = cost_nothing k u
cost-front [] k (x ∷ xs) u e = absurd (omega arith)
cost-front (c ∷ row) k [] u e = absurd (omega arith)
cost-front (c ∷ row) k (x ∷ xs) u e = ap (λ z. (c *ℤ pos x) +ℤ z) (cost-front row k xs u (omega arith))

-- rows of costs with costs of 0 behind
abbrev pub padded_rows : ℕ → List (List ℤ) → List (List ℤ)
padded_rows k rows = map (λ row. row ++ replicate k (pos 0)) rows

pub costs-front : (n k : ℕ) (rows : List (List ℤ)) → AllByRecursion (λ row. length row ≡ n) rows → (x u : List ℕ) → length x ≡ n →
    map (λ row. cost_of row (x ++ u)) (padded_rows k rows) ≡ map (λ row. cost_of row x) rows
costs-front n k [] a x u e = refl
costs-front n k (row ∷ rows) a x u e = ap₂ ◌∷◌ (cost-front row k x u (a.0 ∙ sym e)) (costs-front n k rows a.1 x u e)

then_same : (x y : ℕ) (s t : Ordering) → (x ≡ y → s ≡ t) → ordering_then (nat_cmp x y) s ≡ ordering_then (nat_cmp x y) t
then_same x y s t same = go (nat_cmp x y) (ranks x y)
  where
    go : (o : Ordering) → MatchOrdering o (x < y) (x ≡ y) (y < x) → ordering_then o s ≡ ordering_then o t
    go Less h = refl
    go Equal h = same h
    go Greater h = refl

-- the first difference of lists of one length that differ is that of their fronts
pub difference-front : (p q u v : List ℕ) → length p ≡ length q → (p ≡ q → ⊥) → first_difference (p ++ u) (q ++ v) ≡ first_difference p q
difference-front [] [] u v e n = absurd (n refl)
difference-front [] (y ∷ q) u v e n = absurd (omega arith)
difference-front (x ∷ p) [] u v e n = absurd (omega arith)
difference-front (x ∷ p) (y ∷ q) u v e n =
    then_same x y (first_difference (p ++ u) (q ++ v)) (first_difference p q)
    (λ head. difference-front p q u v (omega arith) (λ same. n (cons_same head same)))

pub order-front : (n k : ℕ) (rows : List (List ℤ)) → AllByRecursion (λ row. length row ≡ n) rows → (x z u v : List ℕ) → length x ≡ n → length z ≡ n →
    (x ≡ z → ⊥) → cost_order (padded_rows k rows) (x ++ u) (z ++ v) ≡ cost_order rows x z
order-front n k [] a x z u v e f differ = difference-front x z u v (e ∙ sym f) differ
order-front n k (row ∷ rows) a x z u v e f differ =
    ap₂ ordering_then (ap₂ int_cmp (cost-front row k x u (a.0 ∙ sym e)) (cost-front row k z v (a.0 ∙ sym f))) (order-front n k rows a.1 x z u v e f differ)

-- two lists are the same, or not
pub same_or_not : (p q : List ℕ) → (p ≡ q) ⊎ (p ≡ q → ⊥)
same_or_not p q = go (pointwise nat_eq p q) refl
  where
    go : (t : Bool) → pointwise nat_eq p q ≡ t → (p ≡ q) ⊎ (p ≡ q → ⊥)
    go true e = inl ((Decides-same_numbers p q).0 e)
    go false e = inr (λ same. true≢false (sym ((Decides-same_numbers p q).1 same) ∙ e))

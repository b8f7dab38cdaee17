-- Totals over the views of all seats.
use Rattle.std.proofs.Common.{◌≡◌, ◌≢◌, ℕ, zero, suc, ◌+◌, ◌<◌, ◌≤◌, false, cond, List, [], ◌∷◌, ◌++◌, set, sym, refl, ap, arith}
use Rattle.std.proofs.lemmas.Bool.Decides.{nat_tests}
use mathlib.Core.Option.{some, some-injective, some-ne-none}
use lib.ListN.{get_elem?}
use Rattle.count_lock.specs.declared.note.Note.{Note}
use Rattle.count_lock.specs.Pairs.{times}
use Rattle.count_lock.specs.Count.{total, worth, once}

module _ {A : Type 0} (f : A → ℕ) where
  pub total_set : (l : List A) (i : ℕ) (a b : A) → get_elem? l i ≡ some a → total f (set l i b) + f a ≡ total f l + f b
  total_set [] i a b e = absurd (some-ne-none a (sym e))
  total_set (x ∷ xs) zero a b e = let same = ap f (some-injective x a e) in omega arith
  total_set (x ∷ xs) (suc i) a b e = let rest = total_set xs i a b e in omega arith

  pub total_snoc : (l : List A) (b : A) → total f (l ++ b ∷ []) ≡ total f l + f b
  total_snoc [] b = omega arith
  total_snoc (x ∷ xs) b = let rest = total_snoc xs b in omega arith

  pub total_one : (l : List A) (i : ℕ) (a : A) → get_elem? l i ≡ some a → f a ≤ total f l
  total_one [] i a e = absurd (some-ne-none a (sym e))
  total_one (x ∷ xs) zero a e = let same = ap f (some-injective x a e) in omega arith
  total_one (x ∷ xs) (suc i) a e = let rest = total_one xs i a e in omega arith

  pub total_two : (l : List A) (i j : ℕ) (a b : A) → i ≢ j → get_elem? l i ≡ some a → get_elem? l j ≡ some b → f a + f b ≤ total f l
  total_two [] i j a b apart e e' = absurd (some-ne-none a (sym e))
  total_two (x ∷ xs) zero zero a b apart e e' = absurd (apart refl)
  total_two (x ∷ xs) zero (suc j) a b apart e e' = let same = ap f (some-injective x a e) in let rest = total_one xs j b e' in omega arith
  total_two (x ∷ xs) (suc i) zero a b apart e e' = let same = ap f (some-injective x b e') in let rest = total_one xs i a e in omega arith
  total_two (x ∷ xs) (suc i) (suc j) a b apart e e' = let rest = total_two xs i j a b (λ same. apart (ap suc same)) e e' in omega arith

-- each number below the number of passes counts once, and no other
pub once_small : (p n : ℕ) → once p n ≤ 1
once_small p n = grind (arith, nat_tests)

pub once_below : (p n : ℕ) → 1 ≤ once p n → p < n
once_below p n stands = grind (arith, nat_tests)

pub once_is : (p n : ℕ) → p < n → once p n ≡ 1
once_is p n low = grind (arith, nat_tests)

pub once_not : (p n : ℕ) → ¬ (p < n) → once p n ≡ 0
once_not p n high = grind (arith, nat_tests)

module _ {V : Type 0} where
  pub unspent_worth : (p : ℕ) (view : Note V) → view.spent ≡ false → worth p view ≡ times p view.pairs
  unspent_worth p view unspent = ap (λ b. cond b 0 (times p view.pairs)) unspent

  -- where a view keeps the numbers of its pairs, the totals stay
  pub total_stays : (p : ℕ) (views : List (Note V)) (id : ℕ) (view w : Note V) → get_elem? views id ≡ some view → worth p w ≡ worth p view → total (worth p) (set views id w) ≡ total (worth p) views
  total_stays p views id view w at same = let moved = total_set (worth p) views id view w at in omega arith

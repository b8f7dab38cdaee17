-- Lists that are the same in another order: one element may be taken from both.
use Rattle.std.proofs.Common.{ℕ, ◌+◌, ◌≤◌, ◌≡◌, ⊎_elim, Bool, true, false, cond, Decides, List, [], ◌∷◌, ◌++◌, count_by, Contains, refl, sym, subst, ap, arith}
use Rattle.std.specs.List.Sorted.{IsPermutation}
use Rattle.std.proofs.lemmas.Bool.{cond-true}
use Rattle.std.proofs.lemmas.List.Sums.{sum_by-append}
use Rattle.std.proofs.lemmas.List.Sorted.{IsPermutation-refl, IsPermutation-sym, IsPermutation-trans, IsPermutation-cons, IsPermutation-middle, sum_by-IsPermutation}
use Rattle.ct_instance.proofs.Lists.{Contains-here, Contains-there, Contains-cons_cases, Contains-nil, count_by-cons}

module _ {X : Type 0} where
  -- what stands before and after an element
  pub split_at : (xs : List X) (x : X) → Contains xs x → (before : List X) × (after : List X) × (xs ≡ before ++ x ∷ after)
  split_at [] x c = absurd (Contains-nil x c)
  split_at (y ∷ xs) x c =
      ⊎_elim (λ e. ([], xs, ap (λ z. z ∷ xs) e)) (λ d. let r = split_at xs x d in (y ∷ r.0, r.1, ap (λ zs. y ∷ zs) r.2)) (Contains-cons_cases y xs x c)

  module _ (eq : X → X → Bool) (same : (a b : X) → Decides (eq a b) (a ≡ b)) where
    counted_itself : (x : X) (xs : List X) → 1 ≤ count_by (eq x) (x ∷ xs)
    counted_itself x xs =
        let one : cond {A = ℕ} (eq x x) 1 0 ≡ 1 = cond-true (eq x x) 1 0 ((same x x).1 refl) in
        omega (arith, count_by-cons (eq x) x xs)

    contains_counted : (x : X) (xs : List X) → 1 ≤ count_by (eq x) xs → Contains xs x
    contains_counted x [] l = absurd (omega arith)
    contains_counted x (y ∷ xs) l = go (eq x y) refl (contains_counted x xs)
      where
        go : (b : Bool) → eq x y ≡ b → (1 ≤ count_by (eq x) xs → Contains xs x) → Contains (y ∷ xs) x
        go true e later = subst (Contains (y ∷ xs)) (sym ((same x y).0 e)) (Contains-here y xs)
        go false e later =
            let none : cond {A = ℕ} (eq x y) 1 0 ≡ 0 = ap (λ (b : Bool). cond {A = ℕ} b 1 0) e in
            Contains-there y xs x (later (omega (arith, count_by-cons (eq x) y xs)))

    count_middle : (x y : X) (before after : List X) → count_by (eq x) (before ++ y ∷ after) ≡ cond (eq x y) 1 0 + count_by (eq x) (before ++ after)
    count_middle x y before after =
        omega (arith, sum_by-append (λ z. cond {A = ℕ} (eq x z) 1 0) before (y ∷ after), sum_by-append (λ z. cond {A = ℕ} (eq x z) 1 0) before after, count_by-cons (eq x) y after)

    -- each element stands in both equally often
    permutation_from_counts : (xs ys : List X) → ((x : X) → count_by (eq x) xs ≡ count_by (eq x) ys) → IsPermutation xs ys
    permutation_from_counts [] [] f = IsPermutation-refl []
    permutation_from_counts [] (y ∷ ys) f = absurd (omega (arith, f y, counted_itself y ys))
    permutation_from_counts (x ∷ xs) ys f =
        let r = split_at ys x (contains_counted x ys (omega (arith, f x, counted_itself x xs))) in
        let rest : IsPermutation xs (r.0 ++ r.1) =
        permutation_from_counts xs (r.0 ++ r.1)
        (λ z. omega (arith, f z, count_by-cons (eq z) x xs, ap (count_by (eq z)) r.2, count_middle z x r.0 r.1)) in
        subst (IsPermutation (x ∷ xs)) (sym r.2)
        (IsPermutation-trans (x ∷ xs) (x ∷ (r.0 ++ r.1)) (r.0 ++ x ∷ r.1) (IsPermutation-cons x xs (r.0 ++ r.1) rest)
        (IsPermutation-sym (r.0 ++ x ∷ r.1) (x ∷ (r.0 ++ r.1)) (IsPermutation-middle r.0 x r.1)))

    pub take_from_both : (x : X) (before after first last : List X) → IsPermutation (before ++ x ∷ after) (first ++ x ∷ last) → IsPermutation (before ++ after) (first ++ last)
    take_from_both x before after first last p =
        permutation_from_counts (before ++ after) (first ++ last)
        (λ z. omega (arith, sum_by-IsPermutation (λ y. cond {A = ℕ} (eq z y) 1 0) (before ++ x ∷ after) (first ++ x ∷ last) p, count_middle z x before after, count_middle z x first last))

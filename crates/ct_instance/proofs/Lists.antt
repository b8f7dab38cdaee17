-- What is in a list: after `map`, `filter` and `flat_map`; and counts of what passes a test.
use Rattle.std.proofs.Common.{ℕ, ◌+◌, ◌≤◌, ◌<◌, ◌≡◌, ◌⊎◌, inl, inr, ⊎_elim, Bool, true, false, true≢false, cond, List, [], ◌∷◌, map, filter, flat_map, count_by, Contains, refl, sym, subst, ap, ◌∙◌, arith, zero, suc}
use Rattle.std.specs.List.{list_any, list_all}
use Rattle.std.proofs.lemmas.Bool.{cond-true, cond-false, or_cases, or_left, or_right, and_parts, and_from, and_cases}
use Rattle.std.proofs.lemmas.List.Elements.{Contains-append_left, Contains-append_right, Contains-append_cases}
use Rattle.std.proofs.lemmas.List.Sums.{sum_by-cons}

one_or_none : (b c : Bool) → (b ≡ true → c ≡ true) → cond b 1 0 ≤ cond c 1 0
one_or_none true true f = omega arith
one_or_none true false f = absurd (true≢false (sym (f refl)))
one_or_none false c f = omega arith

module _ {X : Type 0} where
  pub Contains-here : (x : X) (xs : List X) → Contains (x ∷ xs) x
  Contains-here x xs = (0, omega arith, refl)

  pub Contains-there : (x : X) (xs : List X) (y : X) → Contains xs y → Contains (x ∷ xs) y
  Contains-there x xs y c = (suc c.0, omega (arith, c.1), c.2)

  pub Contains-cons_cases : (x : X) (xs : List X) (y : X) → Contains (x ∷ xs) y → (x ≡ y) ⊎ Contains xs y
  Contains-cons_cases x xs y (zero, l, e) = inl e
  Contains-cons_cases x xs y (suc k, l, e) = inr (k, omega arith, e)

  pub Contains-nil : (y : X) → Contains [] y → ⊥
  Contains-nil y c = let l : c.0 < 0 = c.1 in omega arith

  pub Contains-filter : (p : X → Bool) (xs : List X) (y : X) → Contains xs y → p y ≡ true → Contains (filter p xs) y
  Contains-filter p [] y c e = c
  Contains-filter p (x ∷ xs) y c e = go (p x) refl (λ d. Contains-filter p xs y d e)
    where
      go : (b : Bool) → p x ≡ b → (Contains xs y → Contains (filter p xs) y) → Contains (cond b (x ∷ filter p xs) (filter p xs)) y
      go true f rest =
          ⊎_elim (λ s. subst (Contains (x ∷ filter p xs)) s (Contains-here x (filter p xs)))
          (λ d. Contains-there x (filter p xs) y (rest d)) (Contains-cons_cases x xs y c)
      go false f rest = ⊎_elim (λ s. absurd (true≢false (sym e ∙ sym (ap p s) ∙ f))) rest (Contains-cons_cases x xs y c)

  pub filter_gives : (p : X → Bool) (xs : List X) (y : X) → Contains (filter p xs) y → Contains xs y × (p y ≡ true)
  filter_gives p [] y c = absurd (Contains-nil y c)
  filter_gives p (x ∷ xs) y c = go (p x) refl (λ d. let r = filter_gives p xs y d in (Contains-there x xs y r.0, r.1)) c
    where
      go : (b : Bool) → p x ≡ b → (Contains (filter p xs) y → Contains (x ∷ xs) y × (p y ≡ true)) →
          Contains (cond b (x ∷ filter p xs) (filter p xs)) y → Contains (x ∷ xs) y × (p y ≡ true)
      go true f later d =
          ⊎_elim (λ s. (subst (Contains (x ∷ xs)) s (Contains-here x xs), sym (ap p s) ∙ f)) later (Contains-cons_cases x (filter p xs) y d)
      go false f later d = later d

  -- a test that finds an element of the list
  pub list_any-contains : (p : X → Bool) (xs : List X) (y : X) → Contains xs y → p y ≡ true → list_any p xs ≡ true
  list_any-contains p [] y c e = absurd (Contains-nil y c)
  list_any-contains p (x ∷ xs) y c e =
      ⊎_elim (λ s. or_left (p x) (list_any p xs) (ap p s ∙ e)) (λ d. or_right (p x) (list_any p xs) (list_any-contains p xs y d e)) (Contains-cons_cases x xs y c)

  pub list_any_gives : (p : X → Bool) (xs : List X) → list_any p xs ≡ true → (y : X) × Contains xs y × (p y ≡ true)
  list_any_gives p [] e = absurd (true≢false (sym e))
  list_any_gives p (x ∷ xs) e =
      ⊎_elim (λ f. (x, Contains-here x xs, f)) (λ f. let r = list_any_gives p xs f in (r.0, Contains-there x xs r.0 r.1, r.2)) (or_cases (p x) (list_any p xs) e)

  pub list_all_gives : (p : X → Bool) (xs : List X) (y : X) → list_all p xs ≡ true → Contains xs y → p y ≡ true
  list_all_gives p [] y e c = absurd (Contains-nil y c)
  list_all_gives p (x ∷ xs) y e c =
      let b = and_parts (p x) (list_all p xs) e in
      ⊎_elim (λ s. sym (ap p s) ∙ b.0) (λ d. list_all_gives p xs y b.1 d) (Contains-cons_cases x xs y c)

  pub list_all_from : (p : X → Bool) (xs : List X) → ((y : X) → Contains xs y → p y ≡ true) → list_all p xs ≡ true
  list_all_from p [] f = refl
  list_all_from p (x ∷ xs) f =
      and_from (p x) (list_all p xs) (f x (Contains-here x xs)) (list_all_from p xs (λ y c. f y (Contains-there x xs y c)))

  pub list_all_fails : (p : X → Bool) (xs : List X) → list_all p xs ≡ false → (y : X) × Contains xs y × (p y ≡ false)
  list_all_fails p [] e = absurd (true≢false e)
  list_all_fails p (x ∷ xs) e =
      ⊎_elim (λ f. (x, Contains-here x xs, f)) (λ f. let r = list_all_fails p xs f in (r.0, Contains-there x xs r.0 r.1, r.2)) (and_cases (p x) (list_all p xs) e)

  -- ---- counts

  pub count_by-cons : (p : X → Bool) (x : X) (xs : List X) → count_by p (x ∷ xs) ≡ cond (p x) 1 0 + count_by p xs
  count_by-cons p x xs = sum_by-cons (λ y. cond (p y) 1 0) x xs

  -- where each element that passes p passes q
  pub count_by-weaker : (p q : X → Bool) (xs : List X) → ((x : X) → Contains xs x → p x ≡ true → q x ≡ true) → count_by p xs ≤ count_by q xs
  count_by-weaker p q [] f = omega arith
  count_by-weaker p q (x ∷ xs) f =
      let here : cond (p x) 1 0 ≤ cond (q x) 1 0 = one_or_none (p x) (q x) (f x (Contains-here x xs)) in
      let rest : count_by p xs ≤ count_by q xs = count_by-weaker p q xs (λ y c. f y (Contains-there x xs y c)) in
      omega (arith, count_by-cons p x xs, count_by-cons q x xs)

  -- and some element passes q and not p
  pub count_by-lt : (p q : X → Bool) (xs : List X) (a : X) → ((x : X) → Contains xs x → p x ≡ true → q x ≡ true) → Contains xs a → p a ≡ false → q a ≡ true →
      count_by p xs < count_by q xs
  count_by-lt p q [] a f c n y = absurd (Contains-nil a c)
  count_by-lt p q (x ∷ xs) a f c n y =
      ⊎_elim (first x xs a n y (λ z d. f z (Contains-there x xs z d)))
      (λ d.
      let here : cond (p x) 1 0 ≤ cond (q x) 1 0 = one_or_none (p x) (q x) (f x (Contains-here x xs)) in
      let rest : count_by p xs < count_by q xs = count_by-lt p q xs a (λ z e. f z (Contains-there x xs z e)) d n y in
      omega (arith, count_by-cons p x xs, count_by-cons q x xs))
      (Contains-cons_cases x xs a c)
    where
      first : (x : X) (xs : List X) (a : X) → p a ≡ false → q a ≡ true → ((z : X) → Contains xs z → p z ≡ true → q z ≡ true) → x ≡ a →
          count_by p (x ∷ xs) < count_by q (x ∷ xs)
      first x xs a n y more s =
          let none : cond {A = ℕ} (p x) 1 0 ≡ 0 = cond-false (p x) 1 0 (ap p s ∙ n) in
          let one : cond {A = ℕ} (q x) 1 0 ≡ 1 = cond-true (q x) 1 0 (ap q s ∙ y) in
          omega (arith, count_by-cons p x xs, count_by-cons q x xs, count_by-weaker p q xs more)

module _ {X Y : Type 0} where
  pub Contains-map : (f : X → Y) (xs : List X) (x : X) → Contains xs x → Contains (map f xs) (f x)
  Contains-map f [] x c = absurd (Contains-nil x c)
  Contains-map f (z ∷ xs) x c =
      ⊎_elim (λ s. subst (λ (w : X). Contains (f z ∷ map f xs) (f w)) s (Contains-here (f z) (map f xs)))
      (λ d. Contains-there (f z) (map f xs) (f x) (Contains-map f xs x d)) (Contains-cons_cases z xs x c)

  pub map_gives : (f : X → Y) (xs : List X) (y : Y) → Contains (map f xs) y → (x : X) × Contains xs x × (f x ≡ y)
  map_gives f [] y c = absurd (Contains-nil y c)
  map_gives f (z ∷ xs) y c =
      ⊎_elim (λ s. (z, Contains-here z xs, s)) (λ d. let r = map_gives f xs y d in (r.0, Contains-there z xs r.0 r.1, r.2)) (Contains-cons_cases (f z) (map f xs) y c)

  pub Contains-flat_map : (f : X → List Y) (xs : List X) (x : X) (y : Y) → Contains xs x → Contains (f x) y → Contains (flat_map f xs) y
  Contains-flat_map f [] x y c d = absurd (Contains-nil x c)
  Contains-flat_map f (z ∷ xs) x y c d =
      ⊎_elim (λ s. Contains-append_left (f z) (flat_map f xs) y (subst (λ (w : X). Contains (f w) y) (sym s) d))
      (λ e. Contains-append_right (f z) (flat_map f xs) y (Contains-flat_map f xs x y e d)) (Contains-cons_cases z xs x c)

  pub flat_map_gives : (f : X → List Y) (xs : List X) (y : Y) → Contains (flat_map f xs) y → (x : X) × Contains xs x × Contains (f x) y
  flat_map_gives f [] y c = absurd (Contains-nil y c)
  flat_map_gives f (z ∷ xs) y c =
      ⊎_elim (λ d. (z, Contains-here z xs, d)) (λ d. let r = flat_map_gives f xs y d in (r.0, Contains-there z xs r.0 r.1, r.2)) (Contains-append_cases (f z) (flat_map f xs) y c)

-- Lists in strict order: each element stands before all later ones. Two such lists with the same elements are equal.
use Rattle.std.proofs.Common.{ℕ, ◌<◌, ◌≡◌, ⊎_elim, Bool, true, false, List, [], ◌∷◌, ◌++◌, map, filter, flat_map, get_or, cond, Contains, AllPairs, refl, sym, subst, ap₂, ◌∙◌, arith, zero, suc}
use Rattle.std.proofs.lemmas.List.Elements.{Contains-append_cases, Contains-get_or}
use Rattle.ct_vectors.specs.Vectors.{up_to}
use Rattle.ct_vectors.proofs.Places.{le-up_to}
use Rattle.ct_instance.proofs.Lists.{Contains-here, Contains-there, Contains-cons_cases, Contains-nil, filter_gives, map_gives, flat_map_gives}

abbrev pub InOrder : {X : Type 0} → (X → X → Type 0) → List X → Type 0
InOrder R [] = Unit {0}
InOrder R (x ∷ xs) = ((y : _) → Contains xs y → R x y) × InOrder R xs

module _ {X : Type 0} (R : X → X → Type 0) where
  pub InOrder-append : (xs ys : List X) → InOrder R xs → InOrder R ys → ((x y : X) → Contains xs x → Contains ys y → R x y) → InOrder R (xs ++ ys)
  InOrder-append [] ys o u f = u
  InOrder-append (x ∷ xs) ys o u f = (
    λ y c. ⊎_elim (o.0 y) (f x y (Contains-here x xs)) (Contains-append_cases xs ys y c),
    InOrder-append xs ys o.1 u (λ z y c d. f z y (Contains-there x xs z c) d),
  )

  pub InOrder-filter : (p : X → Bool) (xs : List X) → InOrder R xs → InOrder R (filter p xs)
  InOrder-filter p [] o = tt
  InOrder-filter p (x ∷ xs) o = go (p x) (InOrder-filter p xs o.1)
    where
      go : (b : Bool) → InOrder R (filter p xs) → InOrder R (cond b (x ∷ filter p xs) (filter p xs))
      go true u = (λ y c. o.0 y (filter_gives p xs y c).0, u)
      go false u = u

  pub InOrder-pairs : (xs : List X) → InOrder R xs → AllPairs R xs
  InOrder-pairs [] o i j d l k = absurd (omega arith)
  InOrder-pairs (x ∷ xs) o i zero d l k = absurd (omega arith)
  InOrder-pairs (x ∷ xs) o zero (suc j) d l k = o.0 (get_or xs j d) (Contains-get_or xs j d (omega arith))
  InOrder-pairs (x ∷ xs) o (suc i) (suc j) d l k = InOrder-pairs xs o.1 i j d (omega arith) (omega arith)

  pub InOrder-from_pairs : (xs : List X) → AllPairs R xs → InOrder R xs
  InOrder-from_pairs [] a = tt
  InOrder-from_pairs (x ∷ xs) a = (
    λ y c. subst (R x) (c.2) (a 0 (suc c.0) y (omega arith) (omega (arith, c.1))),
    InOrder-from_pairs xs (λ i j d l k. a (suc i) (suc j) d (omega arith) (omega arith)),
  )

  module _ (irrefl : (x : X) → R x x → ⊥) (chain : (x y z : X) → R x y → R y z → R x z) where
    -- two lists in order with the same elements are one
    pub InOrder-unique : (xs ys : List X) → InOrder R xs → InOrder R ys → ((x : X) → Contains xs x → Contains ys x) → ((y : X) → Contains ys y → Contains xs y) → xs ≡ ys
    InOrder-unique [] [] o u f g = refl
    InOrder-unique [] (y ∷ ys) o u f g = absurd (Contains-nil y (g y (Contains-here y ys)))
    InOrder-unique (x ∷ xs) [] o u f g = absurd (Contains-nil x (f x (Contains-here x xs)))
    InOrder-unique (x ∷ xs) (y ∷ ys) o u f g =
        let same : x ≡ y =
        ⊎_elim (λ s. sym s)
        (λ c. ⊎_elim (λ s. s) (λ d. absurd (irrefl x (chain x y x (o.0 y d) (u.0 x c)))) (Contains-cons_cases x xs y (g y (Contains-here y ys))))
        (Contains-cons_cases y ys x (f x (Contains-here x xs))) in
        let there : (z : X) → Contains xs z → Contains ys z =
        λ z c. ⊎_elim (λ s. absurd (irrefl x (subst (R x) (sym s ∙ sym same) (o.0 z c)))) (λ d. d) (Contains-cons_cases y ys z (f z (Contains-there x xs z c))) in
        let back : (z : X) → Contains ys z → Contains xs z =
        λ z c. ⊎_elim (λ s. absurd (irrefl y (subst (R y) (sym s ∙ same) (u.0 z c)))) (λ d. d) (Contains-cons_cases x xs z (g z (Contains-there y ys z c))) in
        ap₂ ◌∷◌ same (InOrder-unique xs ys o.1 u.1 there back)

module _ {X Y : Type 0} (R : X → X → Type 0) (S : Y → Y → Type 0) where
  pub InOrder-map : (f : X → Y) (xs : List X) → ((x y : X) → Contains xs x → Contains xs y → R x y → S (f x) (f y)) → InOrder R xs → InOrder S (map f xs)
  InOrder-map f [] g o = tt
  InOrder-map f (x ∷ xs) g o = (
    λ y c. let t = map_gives f xs y c in subst (S (f x)) t.2 (g x t.0 (Contains-here x xs) (Contains-there x xs t.0 t.1) (o.0 t.0 t.1)),
    InOrder-map f xs (λ y z c d. g y z (Contains-there x xs y c) (Contains-there x xs z d)) o.1,
  )

  pub InOrder-flat_map : (f : X → List Y) → ((x : X) → InOrder S (f x)) → ((x y : X) (a b : Y) → R x y → Contains (f x) a → Contains (f y) b → S a b) →
      (xs : List X) → InOrder R xs → InOrder S (flat_map f xs)
  InOrder-flat_map f each apart [] o = tt
  InOrder-flat_map f each apart (x ∷ xs) o =
      InOrder-append S (f x) (flat_map f xs) (each x) (InOrder-flat_map f each apart xs o.1)
      (λ a b c d. let t = flat_map_gives f xs b d in apart x t.0 a b (o.0 t.0 t.1) c t.2)

pub InOrder-up_to : (n : ℕ) → InOrder (λ (a b : ℕ). a < b) (up_to n)
InOrder-up_to zero = (λ y c. absurd (Contains-nil y c), tt)
InOrder-up_to (suc n) =
    InOrder-append (λ (a b : ℕ). a < b) (up_to n) (suc n ∷ []) (InOrder-up_to n) (λ y c. absurd (Contains-nil y c), tt)
    (λ x y c d. ⊎_elim (λ s. omega (arith, le-up_to n x c)) (λ e. absurd (Contains-nil y e)) (Contains-cons_cases (suc n) [] y d))

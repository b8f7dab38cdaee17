-- The k least of what counts, in a strict order: one list, and there is one. Parts of lists in order.
use Rattle.std.proofs.Common.{ℕ, ◌+◌, ◌≤◌, ◌≡◌, ◌⊎◌, inl, inr, ⊎_elim, List, [], ◌∷◌, ◌++◌, length, take, drop, Contains, refl, sym, subst, ap₂, ◌∙◌, arith, zero, suc}
use Rattle.std.proofs.lemmas.List.{length-take, length-drop, take-append-drop}
use Rattle.std.proofs.lemmas.List.Elements.{Contains-append_left, Contains-append_right, Contains-append_cases}
use Rattle.ct_instance.proofs.Lists.{Contains-here, Contains-there, Contains-cons_cases, Contains-nil}
use Rattle.ct_instance.proofs.Ordered.{InOrder}

-- xs are the k least of what counts by S, each before those after it
pub record AreLeast {X : Type 0} (R : X → X → Type 0) (S : X → Type 0) (k : ℕ) (xs : List X) : Type 0 where
  pub members : (x : X) → Contains xs x → S x
  pub ordered : InOrder R xs
  pub most : length xs ≤ k
  pub left : (z : X) → S z → (Contains xs z → ⊥) → (length xs ≡ k) × ((x : X) → Contains xs x → R x z)

-- of two that count one is first, or they are one
abbrev pub IsTotalOn : {X : Type 0} → (X → X → Type 0) → (X → Type 0) → Type 0
IsTotalOn {X} R S = (x y : X) → S x → S y → R x y ⊎ ((x ≡ y) ⊎ R y x)

module _ {X : Type 0} where
  pub in_front : (n : ℕ) (xs : List X) (x : X) → Contains (take n xs) x → Contains xs x
  in_front n xs x c = subst (λ (l : List X). Contains l x) (take-append-drop n xs) (Contains-append_left (take n xs) (drop n xs) x c)

  pub in_back : (n : ℕ) (xs : List X) (x : X) → Contains (drop n xs) x → Contains xs x
  in_back n xs x c = subst (λ (l : List X). Contains l x) (take-append-drop n xs) (Contains-append_right (take n xs) (drop n xs) x c)

  pub in_parts : (n : ℕ) (xs : List X) (x : X) → Contains xs x → Contains (take n xs) x ⊎ Contains (drop n xs) x
  in_parts n xs x c = Contains-append_cases (take n xs) (drop n xs) x (subst (λ (l : List X). Contains l x) (sym (take-append-drop n xs)) c)

module _ {X : Type 0} (R : X → X → Type 0) where
  pub front_order : (xs ys : List X) → InOrder R (xs ++ ys) → InOrder R xs
  front_order [] ys o = tt
  front_order (x ∷ xs) ys o = (λ y c. o.0 y (Contains-append_left xs ys y c), front_order xs ys o.1)

  pub back_order : (xs ys : List X) → InOrder R (xs ++ ys) → InOrder R ys
  back_order [] ys o = o
  back_order (x ∷ xs) ys o = back_order xs ys o.1

  pub across : (xs ys : List X) → InOrder R (xs ++ ys) → (x y : X) → Contains xs x → Contains ys y → R x y
  across [] ys o x y c d = absurd (Contains-nil x c)
  across (w ∷ xs) ys o x y c d =
      ⊎_elim (λ s. subst (λ (v : X). R v y) s (o.0 y (Contains-append_right xs ys y d))) (λ e. across xs ys o.1 x y e d) (Contains-cons_cases w xs x c)

  -- the first k of a list in order that has all that counts
  pub least_of_listed : (S : X → Type 0) (k : ℕ) (xs : List X) → InOrder R xs → ((x : X) → Contains xs x → S x) → ((x : X) → S x → Contains xs x) →
      AreLeast R S k (take k xs)
  least_of_listed S k xs o only all = record {
    members = λ x c. only x (in_front k xs x c);
    ordered = front_order (take k xs) (drop k xs) parts;
    most = omega (arith, length-take k xs);
    left = λ z s n. ⊎_elim (λ c. absurd (n c)) (λ c. (omega (arith, c.1, length-take k xs, length-drop k xs), λ x d. across (take k xs) (drop k xs) parts x z d c))
        (in_parts k xs z (all z s));
  }
    where
      parts : InOrder R (take k xs ++ drop k xs)
      parts = subst (InOrder R) (sym (take-append-drop k xs)) o

  module _ (irrefl : (x : X) → R x x → ⊥) (chain : (x y z : X) → R x y → R y z → R x z) where
    -- what is before the head of a list in order isn't in it
    before_head : (x y : X) (ys : List X) → InOrder R (y ∷ ys) → R x y → Contains (y ∷ ys) x → ⊥
    before_head x y ys o r c =
        ⊎_elim (λ s. irrefl x (subst (R x) s r)) (λ d. irrefl x (chain x y x r (o.0 x d))) (Contains-cons_cases y ys x c)

    -- the head of one list of the k least isn't before that of another
    not_before : (S : X → Type 0) (k : ℕ) (x y : X) (ys : List X) → S x → AreLeast R S k (y ∷ ys) → R x y → ⊥
    not_before S k x y ys s a r =
        irrefl x (chain x y x r ((a.left x s (before_head x y ys a.ordered r)).1 y (Contains-here y ys)))

    -- without the head, they are the least of what is above it
    rest_least : (S : X → Type 0) (k : ℕ) (x : X) (xs : List X) → AreLeast R S k (x ∷ xs) → (n : ℕ) → n + 1 ≡ k → AreLeast R (λ z. S z × R x z) n xs
    rest_least S k x xs a n e = record {
      members = λ z c. (a.members z (Contains-there x xs z c), a.ordered.0 z c);
      ordered = a.ordered.1;
      most = omega (arith, a.most);
      left = λ z s m.
          let f = a.left z s.0 (λ c. ⊎_elim (λ w. irrefl x (subst (R x) (sym w) s.1)) m (Contains-cons_cases x xs z c)) in
          (omega (arith, f.0), λ w c. f.1 w (Contains-there x xs w c));
    }

    pub least_are_one : (xs ys : List X) (S : X → Type 0) → IsTotalOn R S → (k : ℕ) → AreLeast R S k xs → AreLeast R S k ys → xs ≡ ys
    least_are_one [] [] S cases k a c = refl
    least_are_one [] (y ∷ ys) S cases k a c =
        absurd (omega (arith, c.most, (a.left y (c.members y (Contains-here y ys)) (Contains-nil y)).0))
    least_are_one (x ∷ xs) [] S cases k a c =
        absurd (omega (arith, a.most, (c.left x (a.members x (Contains-here x xs)) (Contains-nil x)).0))
    least_are_one (x ∷ xs) (y ∷ ys) S cases zero a c = absurd (omega (arith, a.most))
    least_are_one (x ∷ xs) (y ∷ ys) S cases (suc k) a c =
        let s : S x = a.members x (Contains-here x xs) in
        let t : S y = c.members y (Contains-here y ys) in
        let same : x ≡ y =
        ⊎_elim (λ r. absurd (not_before S (suc k) x y ys s c r)) (λ r. ⊎_elim (λ e. e) (λ d. absurd (not_before S (suc k) y x xs t a d)) r) (cases x y s t) in
        let from_y : AreLeast R S (suc k) (x ∷ ys) = subst (λ (w : X). AreLeast R S (suc k) (w ∷ ys)) (sym same) c in
        ap₂ ◌∷◌ same
        (least_are_one xs ys (λ z. S z × R x z) (λ v w p q. cases v w p.0 q.0) k (rest_least S (suc k) x xs a k (omega arith)) (rest_least S (suc k) x ys from_y k (omega arith)))

    -- a list with the same elements and one more, in order
    inserted : (S : X → Type 0) → IsTotalOn R S → (x : X) → S x → (xs : List X) → ((y : X) → Contains xs y → S y) → InOrder R xs →
        (zs : List X) × InOrder R zs × ((z : X) → Contains zs z → Contains (x ∷ xs) z) × ((z : X) → Contains (x ∷ xs) z → Contains zs z)
    inserted S cases x s [] all o = (x ∷ [], (λ y c. absurd (Contains-nil y c), tt), λ z c. c, λ z c. c)
    inserted S cases x s (y ∷ ys) all o = by_case (cases x y s (all y (Contains-here y ys))) (inserted S cases x s ys (λ z c. all z (Contains-there y ys z c)) o.1)
      where
        by_case : R x y ⊎ ((x ≡ y) ⊎ R y x) →
            (ws : List X) × InOrder R ws × ((z : X) → Contains ws z → Contains (x ∷ ys) z) × ((z : X) → Contains (x ∷ ys) z → Contains ws z) →
            (zs : List X) × InOrder R zs × ((z : X) → Contains zs z → Contains (x ∷ y ∷ ys) z) × ((z : X) → Contains (x ∷ y ∷ ys) z → Contains zs z)
        by_case (inl r) rest = (
          x ∷ y ∷ ys,
          (λ z c. ⊎_elim (λ e. subst (R x) e r) (λ d. chain x y z r (o.0 z d)) (Contains-cons_cases y ys z c), o),
          λ z c. c,
          λ z c. c,
        )
        by_case (inr (inl e)) rest = (
          y ∷ ys,
          o,
          λ z c. Contains-there x (y ∷ ys) z c,
          λ z c. ⊎_elim (λ w. subst (Contains (y ∷ ys)) (sym e ∙ w) (Contains-here y ys)) (λ d. d) (Contains-cons_cases x (y ∷ ys) z c),
        )
        by_case (inr (inr r)) rest = (
          y ∷ rest.0,
          (λ z c. ⊎_elim (λ e. subst (R y) e r) (λ d. o.0 z d) (Contains-cons_cases x ys z (rest.2 z c)), rest.1),
          λ z c. ⊎_elim (λ e. Contains-there x (y ∷ ys) z (subst (Contains (y ∷ ys)) e (Contains-here y ys)))
              (λ d. ⊎_elim (λ e. subst (Contains (x ∷ y ∷ ys)) e (Contains-here x (y ∷ ys)))
              (λ f. Contains-there x (y ∷ ys) z (Contains-there y ys z f)) (Contains-cons_cases x ys z (rest.2 z d)))
              (Contains-cons_cases y rest.0 z c),
          λ z c. ⊎_elim (λ e. Contains-there y rest.0 z (rest.3 z (subst (Contains (x ∷ ys)) e (Contains-here x ys))))
              (λ d. ⊎_elim (λ e. subst (Contains (y ∷ rest.0)) e (Contains-here y rest.0))
              (λ f. Contains-there y rest.0 z (rest.3 z (Contains-there x ys z f))) (Contains-cons_cases y ys z d))
              (Contains-cons_cases x (y ∷ ys) z c),
        )

    pub put_in_order : (S : X → Type 0) → IsTotalOn R S → (xs : List X) → ((x : X) → Contains xs x → S x) →
        (zs : List X) × InOrder R zs × ((z : X) → Contains zs z → Contains xs z) × ((z : X) → Contains xs z → Contains zs z)
    put_in_order S cases [] all = ([], tt, λ z c. c, λ z c. c)
    put_in_order S cases (x ∷ xs) all =
        let rest = put_in_order S cases xs (λ z c. all z (Contains-there x xs z c)) in
        let here = inserted S cases x (all x (Contains-here x xs)) rest.0 (λ z c. all z (Contains-there x xs z (rest.2 z c))) rest.1 in (
          here.0,
          here.1,
          λ z c. ⊎_elim (λ e. subst (Contains (x ∷ xs)) e (Contains-here x xs)) (λ d. Contains-there x xs z (rest.2 z d)) (Contains-cons_cases x rest.0 z (here.2 z c)),
          λ z c. here.3 z (⊎_elim (λ e. subst (Contains (x ∷ rest.0)) e (Contains-here x rest.0)) (λ d. Contains-there x rest.0 z (rest.3 z d)) (Contains-cons_cases x xs z c)),
        )

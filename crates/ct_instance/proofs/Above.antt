-- The least of the numbers above a number, and the level before it.
use Rattle.std.proofs.Common.{ℕ, ◌-◌, ◌≤◌, ◌<◌, ◌≡◌, ⊎_elim, Bool, true, false, nat_lt, min, Option, Some, None, List, [], ◌∷◌, Contains, refl, sym, subst, ap, arith, ltb-true, ltb-false}
use Rattle.std.proofs.lemmas.Bool.{cases_lt}
use Rattle.ct_instance.specs.Versions.{Level, upto, everything, least_above, level_before}
use Rattle.ct_instance.proofs.Lists.{Contains-here, Contains-there, Contains-cons_cases, Contains-nil}

-- what the least of the numbers above d is, and what it means that there is none
abbrev pub IsLeastAbove : ℕ → List ℕ → Option ℕ → Type 0
IsLeastAbove d gs None = (g : ℕ) → Contains gs g → g ≤ d
IsLeastAbove d gs (Some g) = (d < g) × Contains gs g × ((h : ℕ) → Contains gs h → d < h → g ≤ h)

-- a number more: the lesser of it and the rest, where it is above
abbrev pub lesser_above : Bool → ℕ → Option ℕ → Option ℕ
lesser_above false g rest = rest
lesser_above true g None = Some g
lesser_above true g (Some h) = Some (min g h)

pub least_above-cons : (d g : ℕ) (gs : List ℕ) → least_above d (g ∷ gs) ≡ lesser_above (nat_lt d g) g (least_above d gs)
least_above-cons d g gs = go (nat_lt d g) refl (least_above d gs) refl
  where
    go : (b : Bool) → nat_lt d g ≡ b → (o : Option ℕ) → least_above d gs ≡ o → least_above d (g ∷ gs) ≡ lesser_above (nat_lt d g) g (least_above d gs)
    go true e None f = rw (e, f) refl
    go true e (Some h) f = rw (e, f) refl
    go false e None f = rw (e, f) refl
    go false e (Some h) f = rw (e, f) refl

pub least_above_is : (d : ℕ) (gs : List ℕ) → IsLeastAbove d gs (least_above d gs)
least_above_is d [] = λ g c. absurd (Contains-nil g c)
least_above_is d (g ∷ gs) =
    subst (IsLeastAbove d (g ∷ gs)) (sym (least_above-cons d g gs)) (more (nat_lt d g) refl (least_above d gs) (least_above_is d gs))
  where
    more : (b : Bool) → nat_lt d g ≡ b → (o : Option ℕ) → IsLeastAbove d gs o → IsLeastAbove d (g ∷ gs) (lesser_above b g o)
    more false e None n = λ h c. ⊎_elim (λ s. omega (arith, ltb-false d g e)) (n h) (Contains-cons_cases g gs h c)
    more false e (Some x) n = (
      n.0,
      Contains-there g gs x n.1,
      λ h c l. ⊎_elim (λ s. absurd (omega (arith, ltb-false d g e))) (λ k. n.2 h k l) (Contains-cons_cases g gs h c),
    )
    more true e None n = (
      ltb-true d g e,
      Contains-here g gs,
      λ h c l. ⊎_elim (λ s. omega arith) (λ k. absurd (omega (arith, n h k))) (Contains-cons_cases g gs h c),
    )
    more true e (Some x) n =
        ⊎_elim
        (λ l. subst (λ y. IsLeastAbove d (g ∷ gs) (Some y)) (let s : g ≡ min g x = omega arith in s)
        (ltb-true d g e, Contains-here g gs, λ h c k. ⊎_elim (λ s. omega arith) (λ m. omega (arith, n.2 h m k)) (Contains-cons_cases g gs h c)))
        (λ l. subst (λ y. IsLeastAbove d (g ∷ gs) (Some y)) (let s : x ≡ min g x = omega arith in s)
        (n.0, Contains-there g gs x n.1, λ h c k. ⊎_elim (λ s. omega arith) (λ m. n.2 h m k) (Contains-cons_cases g gs h c)))
        (cases_lt g x)

pub least_above_some : (d : ℕ) (gs : List ℕ) (g : ℕ) → least_above d gs ≡ Some g → (d < g) × Contains gs g × ((h : ℕ) → Contains gs h → d < h → g ≤ h)
least_above_some d gs g e = subst (IsLeastAbove d gs) e (least_above_is d gs)

pub least_above_none : (d : ℕ) (gs : List ℕ) → least_above d gs ≡ None → (g : ℕ) → Contains gs g → g ≤ d
least_above_none d gs e = subst (IsLeastAbove d gs) e (least_above_is d gs)

-- two answers for the numbers of one list are one
one_least_above : (d : ℕ) (gs hs : List ℕ) → ((g : ℕ) → Contains gs g → d < g → Contains hs g) → ((g : ℕ) → Contains hs g → d < g → Contains gs g) →
    (a b : Option ℕ) → IsLeastAbove d gs a → IsLeastAbove d hs b → a ≡ b
one_least_above d gs hs to from None None m n = refl
one_least_above d gs hs to from None (Some y) m n = absurd (omega (arith, m y (from y n.1 n.0), n.0))
one_least_above d gs hs to from (Some x) None m n = absurd (omega (arith, n x (to x m.1 m.0), m.0))
one_least_above d gs hs to from (Some x) (Some y) m n = ap Some (omega (arith, m.2 y (from y n.1 n.0) n.0, n.2 x (to x m.1 m.0) m.0))

-- it is told by the numbers above d that are in the list
pub least_above-same : (d : ℕ) (gs hs : List ℕ) → ((g : ℕ) → Contains gs g → d < g → Contains hs g) → ((g : ℕ) → Contains hs g → d < g → Contains gs g) →
    least_above d gs ≡ least_above d hs
least_above-same d gs hs to from = one_least_above d gs hs to from (least_above d gs) (least_above d hs) (least_above_is d gs) (least_above_is d hs)

-- ---- the level before it

abbrev pub level_under : Option ℕ → Level
level_under None = everything
level_under (Some g) = upto (g - 1)

pub level_before_is : (d : ℕ) (gs : List ℕ) (o : Option ℕ) → least_above d gs ≡ o → level_before d gs ≡ level_under o
level_before_is d gs None e = rw e refl
level_before_is d gs (Some g) e = rw e refl

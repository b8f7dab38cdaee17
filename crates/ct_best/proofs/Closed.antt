-- An ordered list of at most k items: putting one in keeps what was reached, and a list that is closed under steps has
-- the k least.
use Rattle.std.proofs.Common.{ℕ, ◌+◌, ◌≤◌, ◌<◌, ◌≡◌, ◌⊎◌, inl, inr, ⊎_elim, List, ◌∷◌, ◌++◌, length, get_or, take, drop, Contains, sym, subst, ◌∙◌, arith, zero, suc}
use Rattle.std.specs.List.{insert}
use Rattle.std.proofs.lemmas.List.{length-take, length-drop, take-append-drop, get_or-take, drop_more}
use Rattle.std.proofs.lemmas.List.Edits.{length-insert, get_or-insert_below}
use Rattle.std.proofs.lemmas.List.Elements.{Contains-append_left, Contains-append_right, Contains-append_cases}
use Rattle.ct_instance.proofs.Lists.{Contains-here, Contains-there, Contains-cons_cases}
use Rattle.ct_instance.proofs.Ordered.{InOrder, InOrder-append}
use Rattle.ct_best.proofs.Orders.{in_front, in_back, in_parts, front_order, back_order, across}

-- z is in the list, or the list has k items and all of them are before z
abbrev pub Reached : {X : Type 0} → (X → X → Type 0) → ℕ → List X → X → Type 0
Reached {X} R k xs z = Contains xs z ⊎ ((length xs ≡ k) × ((x : X) → Contains xs x → R x z))

module _ {X : Type 0} (R : X → X → Type 0) (chain : (x y z : X) → R x y → R y z → R x z) where
  -- what is reached by a list that is closed under steps: all that counts, by induction on a rank
  module _ (S : X → Type 0) (rank : X → ℕ) (k : ℕ) (xs : List X)
      (step : (z : X) → S z → Contains xs z ⊎ ((y : X) × S y × R y z × (rank y < rank z) × (Contains xs y → Reached R k xs z))) where
    reached_within : (n : ℕ) (z : X) → rank z < n → S z → Reached R k xs z
    reached_within zero z l s = absurd (omega arith)
    reached_within (suc n) z l s = ⊎_elim (λ c. inl c) (λ t. above t.0 t.2 t.4 (reached_within n t.0 (omega (arith, t.3)) t.1)) (step z s)
      where
        above : (y : X) → R y z → (Contains xs y → Reached R k xs z) → Reached R k xs y → Reached R k xs z
        above y r up (inl c) = up c
        above y r up (inr f) = inr (f.0, λ x c. chain x y z (f.1 x c) r)

    pub all_reached : (z : X) → S z → Reached R k xs z
    all_reached z s = reached_within (suc (rank z)) z (omega arith) s

  -- s is put in at its place, which is before the k-th, and the first k are kept
  module _ (k at : ℕ) (xs : List X) (s : X) (ordered : InOrder R xs) (most : length xs ≤ k) (low : at < k) (within : at ≤ length xs)
      (below : (x : X) → Contains (take at xs) x → R x s) (above : (x : X) → Contains (drop at xs) x → R s x) where
    abbrev whole : List X
    whole = insert xs at s

    abbrev pub put : List X
    put = take k whole

    whole_ordered : InOrder R whole
    whole_ordered =
        InOrder-append R (take at xs) (s ∷ drop at xs) (front_order R (take at xs) (drop at xs) parts) (above, back_order R (take at xs) (drop at xs) parts)
        (λ x y c d. ⊎_elim (λ e. subst (R x) e (below x c)) (λ e. chain x s y (below x c) (above y e)) (Contains-cons_cases s (drop at xs) y d))
      where
        parts : InOrder R (take at xs ++ drop at xs)
        parts = subst (InOrder R) (sym (take-append-drop at xs)) ordered

    cut : InOrder R (take k whole ++ drop k whole)
    cut = subst (InOrder R) (sym (take-append-drop k whole)) whole_ordered

    pub put_ordered : InOrder R put
    put_ordered = front_order R (take k whole) (drop k whole) cut

    pub put_members : (x : X) → Contains put x → Contains xs x ⊎ (s ≡ x)
    put_members x c =
        ⊎_elim (λ d. inl (in_front at xs x d)) (λ d. ⊎_elim (λ e. inr e) (λ e. inl (in_back at xs x e)) (Contains-cons_cases s (drop at xs) x d))
        (Contains-append_cases (take at xs) (s ∷ drop at xs) x (in_front k whole x c))

    pub put_most : length put ≤ k
    put_most = omega (arith, length-take k whole)

    pub put_longer : length xs ≤ length put
    put_longer = omega (arith, length-take k whole, length-insert xs at s within)

    pub put_stays : (t : ℕ) (d : X) → t < at → get_or put t d ≡ get_or xs t d
    put_stays t d l = get_or-take k whole t d (omega arith) ∙ get_or-insert_below xs at s d t l within

    in_whole : (x : X) → Contains xs x → Contains whole x
    in_whole x c =
        ⊎_elim (λ d. Contains-append_left (take at xs) (s ∷ drop at xs) x d)
        (λ d. Contains-append_right (take at xs) (s ∷ drop at xs) x (Contains-there s (drop at xs) x d)) (in_parts at xs x c)

    from_whole : (z : X) → Contains whole z → Reached R k put z
    from_whole z c =
        ⊎_elim (λ d. inl d)
        (λ d. inr (omega (arith, d.1, length-take k whole, length-drop k whole), λ x e. across R (take k whole) (drop k whole) cut x z e d)) (in_parts k whole z c)

    pub put_reached : Reached R k put s
    put_reached = from_whole s (Contains-append_right (take at xs) (s ∷ drop at xs) s (Contains-here s (drop at xs)))

    pub put_keeps : (z : X) → Reached R k xs z → Reached R k put z
    put_keeps z (inl c) = from_whole z (in_whole z c)
    put_keeps z (inr f) = inr (omega (arith, f.0, length-take k whole, length-insert xs at s within), before)
      where
        room : at < length xs
        room = omega (arith, f.0)

        next : X
        next = get_or xs at s

        behind : Contains (drop at xs) next
        behind = subst (λ (l : List X). Contains l next) (sym (drop_more xs at s room)) (Contains-here next (drop (at + 1) xs))

        before : (x : X) → Contains put x → R x z
        before x c =
            ⊎_elim (λ d. f.1 x d) (λ e. subst (λ (w : X). R w z) e (chain s next z (above next behind) (f.1 next (in_back at xs next behind)))) (put_members x c)

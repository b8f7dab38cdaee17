-- What a pass keeps first, by its place.
use Rattle.std.proofs.Common.{◌≡◌, ◌<◌, ℕ, ◌+◌, Bool, true, false, not, cond, List, [], ◌∷◌, length, map, get_or, Some, None, refl, ap, sym, subst, ◌∙◌, arith, suc, IfSome, ◌≤◌}
use Rattle.std.specs.Prelude.{nat_eq, position}
use Rattle.std.specs.List.{position_or_len, remove}
use Rattle.std.proofs.lemmas.Bool.{eqb-true, lt-ltb}
use Rattle.std.proofs.lemmas.List.Quantifiers.{position-Some}
use Rattle.std.proofs.lemmas.List.Sums.{position_or_len_is}
use Rattle.ct_workers.specs.declared.held.Held.{Held}
use Rattle.ct_workers.specs.Turns.{Pending, kept_by, first_of, without_first}

abbrev pub pending : Held → Pending
pending h = kept_by h.by h.remainder

abbrev is_by : ℕ → Held → Bool
is_by by h = nat_eq h.by by

-- what is so where the oldest of a pass stands at this place
abbrev IsAt : ℕ → List Held → Held → ℕ → Type 0
IsAt by hs d place =
    (first_of by (map pending hs) ≡ Some (kept_by by (get_or hs place d).remainder)) ×
    (without_first by (map pending hs) ≡ map pending (remove hs place))

at_head : (by : ℕ) (h : Held) (hs : List Held) (d : Held) → nat_eq h.by by ≡ true → IsAt by (h ∷ hs) d 0
at_head by h hs d same = (
  ap (λ b. cond b (Some (pending h)) (first_of by (map pending hs))) same ∙ ap (λ n. Some (kept_by n h.remainder)) (eqb-true h.by by same),
  ap (λ b. cond b (map pending hs) (pending h ∷ without_first by (map pending hs))) same,
)

after_head : (by : ℕ) (h : Held) (hs : List Held) (d : Held) (place : ℕ) → nat_eq h.by by ≡ false → IsAt by hs d place → IsAt by (h ∷ hs) d (suc place)
after_head by h hs d place other at = (
  ap (λ b. cond b (Some (pending h)) (first_of by (map pending hs))) other ∙ at.0,
  ap (λ b. cond b (map pending hs) (pending h ∷ without_first by (map pending hs))) other ∙ ap (λ ks. pending h ∷ ks) at.1,
)

at_next : (by : ℕ) (h : Held) (hs : List Held) (d : Held) (n : ℕ) → (n < length hs → IsAt by hs d n) →
    (b : Bool) → nat_eq h.by by ≡ b → cond (not b) (1 + n) 0 < length (h ∷ hs) → IsAt by (h ∷ hs) d (cond (not b) (1 + n) 0)
at_next by h hs d n rest true same within = at_head by h hs d same
at_next by h hs d n rest false other within =
    let next : 1 + n ≡ suc n = omega arith in
    let below : n < length hs = omega (arith, within) in
    subst (IsAt by (h ∷ hs) d) (sym next) (after_head by h hs d n other (rest below))

at_first : (by : ℕ) (hs : List Held) (d : Held) → position_or_len (is_by by) hs < length hs → IsAt by hs d (position_or_len (is_by by) hs)
at_first by [] d within = let none : ⊥ = omega (arith, within) in absurd none
at_first by (h ∷ hs) d within = at_next by h hs d (position_or_len (is_by by) hs) (at_first by hs d) (nat_eq h.by by) refl within

-- the pass keeps nothing
abbrev IsNowhere : ℕ → List Held → Type 0
IsNowhere by hs = (first_of by (map pending hs) ≡ None) × (without_first by (map pending hs) ≡ map pending hs)

nowhere_next : (by : ℕ) (h : Held) (hs : List Held) (n : ℕ) → ((n < length hs → ⊥) → IsNowhere by hs) →
    (b : Bool) → nat_eq h.by by ≡ b → (cond (not b) (1 + n) 0 < length (h ∷ hs) → ⊥) → IsNowhere by (h ∷ hs)
nowhere_next by h hs n rest true same out = let within : 0 < length (h ∷ hs) = omega arith in absurd (out within)
nowhere_next by h hs n rest false other out =
    let beyond = rest (λ l. let within : 1 + n < length (h ∷ hs) = omega (arith, l) in out within) in (
      ap (λ b. cond b (Some (pending h)) (first_of by (map pending hs))) other ∙ beyond.0,
      ap (λ b. cond b (map pending hs) (pending h ∷ without_first by (map pending hs))) other ∙ ap (λ ks. pending h ∷ ks) beyond.1,
    )

nowhere : (by : ℕ) (hs : List Held) → (position_or_len (is_by by) hs < length hs → ⊥) → IsNowhere by hs
nowhere by [] out = (refl, refl)
nowhere by (h ∷ hs) out = nowhere_next by h hs (position_or_len (is_by by) hs) (nowhere by hs) (nat_eq h.by by) refl out

-- ---- by the place that a search finds

pub oldest_at : (by : ℕ) (hs : List Held) (place : ℕ) (h : Held) → Some place ≡ position (is_by by) hs → h ≡ get_or hs place h →
    (first_of by (map pending hs) ≡ Some (kept_by by h.remainder)) × (without_first by (map pending hs) ≡ map pending (remove hs place))
oldest_at by hs place h found is =
    let there = position-Some (is_by by) hs place h (sym found) in
    let upto : place ≤ length hs = omega (arith, there.0) in
    let same : position_or_len (is_by by) hs ≡ place = position_or_len_is (is_by by) hs place h upto there.2 (λ l. there.1) in
    let at : IsAt by hs h place = subst (IsAt by hs h) same (at_first by hs h (subst (λ n. n < length hs) (sym same) there.0)) in
    (at.0 ∙ ap (λ x. Some (kept_by by x.remainder)) (sym is), at.1)

not_some : (n : ℕ) → Some n ≡ None → ⊥
not_some n e = absurd (subst (λ o. IfSome o (λ m. ⊥)) (sym e) tt)

pub oldest_none : (by : ℕ) (hs : List Held) → None ≡ position (is_by by) hs →
    (first_of by (map pending hs) ≡ None) × (map pending hs ≡ without_first by (map pending hs))
oldest_none by hs found =
    let out : position_or_len (is_by by) hs < length hs → ⊥ =
    λ l. not_some (position_or_len (is_by by) hs) (sym (ap (λ b. cond b (Some (position_or_len (is_by by) hs)) None) (lt-ltb (position_or_len (is_by by) hs) (length hs) l)) ∙ sym found) in
    let none = nowhere by hs out in
    (none.0, sym none.1)

-- Draws one after another.
use Rattle.std.proofs.Common.{◌≡◌, ℕ, suc, ◌+◌, ◌*◌, ◌/◌, ◌%◌, ◌^◌, List, [], ◌∷◌, ◌++◌, add-one, refl, sym, ap, ◌∙◌, arith}
use Rattle.std.proofs.lemmas.List.FromFn.{map-range_with_len_more}
use Rattle.ct_gen.specs.Draws.{next_state, state_after, draw_at, draws}

pub next_after : (number count : ℕ) → state_after number (count + 1) ≡ next_state (state_after number count)
unfolding state_after
next_after number count = ap (state_after number) (add-one count)

pub none_after : (number : ℕ) → state_after number 0 ≡ number
unfolding state_after
none_after number = refl

-- ---- a source before, after so many draws, and after one more

pub draws_more : (first now : ℕ × ℕ) (i : ℕ) (found : List ℕ) (d : ℕ) → now ≡ (first.0, first.1 + i) → found ≡ draws first.0 first.1 i → d ≡ draw_at now.0 now.1 → found ++ d ∷ [] ≡ draws first.0 first.1 (i + 1)
draws_more first now i found d is so_far drawn =
    let here : d ≡ draw_at first.0 (first.1 + i) = drawn ∙ ap (λ (s : ℕ × ℕ). draw_at s.0 s.1) is in
    rw (so_far, here) (sym (map-range_with_len_more (draw_at first.0) first.1 i (first.1 + i) refl))

pub source_more : (first now after : ℕ × ℕ) (i : ℕ) → now ≡ (first.0, first.1 + i) → after ≡ (now.0, now.1 + 1) → after ≡ (first.0, first.1 + (i + 1))
source_more first now after i is moved =
    let same : first.1 + i + 1 ≡ first.1 + (i + 1) = omega arith in
    moved ∙ ap (λ (s : ℕ × ℕ). (s.0, s.1 + 1)) is ∙ ap (λ (n : ℕ). (first.0, n)) same

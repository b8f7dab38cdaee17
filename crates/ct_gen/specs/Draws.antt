-- The numbers that are drawn from a number.
use Rattle.std.specs.Prelude.{ℕ, zero, suc, ◌+◌, ◌*◌, ◌/◌, ◌%◌, ◌^◌, List, map}
use Rattle.std.specs.List.{range_with_len}
use Rattle.ct_gen.specs.declared.draws.TheConstants.{MULTIPLIER, INCREMENT}

abbrev pub next_state : ℕ → ℕ
next_state s = (s * MULTIPLIER + INCREMENT) % 2 ^ 64

-- the state after so many draws, at first the number
unfoldable pub state_after : ℕ → ℕ → ℕ
state_after number zero = number
state_after number (suc count) = next_state (state_after number count)

-- the draw with this index, from 0: the upper bits of the state after it
abbrev pub draw_at : ℕ → ℕ → ℕ
draw_at number index = state_after number (index + 1) / 2 ^ 33

-- so many draws, the first with this index
abbrev pub draws : ℕ → ℕ → ℕ → List ℕ
draws number index count = map (draw_at number) (range_with_len index count)

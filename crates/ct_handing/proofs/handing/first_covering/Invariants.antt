use Rattle.std.proofs.Common.{ℕ, ◌-◌, ◌≤◌, ◌<◌, length}
use Rattle.ct_handing.specs.Handing.{CoversAt}
use Rattle.ct_handing.proofs.handing.first_covering.Given as goal

abbrev pub invariant-loop-low : goal.invariant-loop-low
invariant-loop-low l = record {
  order : l.low ≤ l.high;
  within : l.high < length l.levels;
  covers : CoversAt l.levels l.g l.high;
  first : (j : ℕ) → j < l.low → CoversAt l.levels l.g j → ⊥;
}

abbrev pub decreases-loop-low : goal.decreases-loop-low
decreases-loop-low l = l.high - l.low

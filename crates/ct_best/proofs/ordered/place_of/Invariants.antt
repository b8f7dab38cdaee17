use Rattle.std.proofs.Common.{ℕ, ◌-◌, ◌<◌, ◌≤◌, [], length, get_or}
use Rattle.ct_instance.specs.Fiber.{IsBelow}
use Rattle.ct_best.proofs.ordered.place_of.Given as goal

abbrev pub invariant-loop-low : goal.invariant-loop-low
invariant-loop-low l = record {
  ordered : l.low ≤ l.high;
  within : l.high ≤ length l.found;
  before : (t : ℕ) → t < l.low → IsBelow l.inst (get_or l.found t []) l.s;
  not_below : l.high < length l.found → IsBelow l.inst (get_or l.found l.high []) l.s → ⊥;
}

abbrev pub decreases-loop-low : goal.decreases-loop-low
decreases-loop-low l = l.high - l.low

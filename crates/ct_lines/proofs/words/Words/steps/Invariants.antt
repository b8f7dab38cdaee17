use Rattle.std.proofs.Common.{◌≡◌, length}
use Rattle.std.specs.Prelude.{All}
use Rattle.ct_lines.specs.Texts.{IsStep}
use Rattle.ct_lines.specs.Reading.{steps_left}
use Rattle.ct_lines.proofs.Loops.{behind}
use Rattle.ct_lines.proofs.words.Words.steps.Given as goal

-- What was found, and then what still stands there, are all steps.
abbrev pub invariant-loop-step : goal.invariant-loop-step
invariant-loop-step l = record { steps : behind l.steps.items (steps_left l.self) ≡ steps_left l.fn.self; within : All IsStep l.steps.items }

abbrev pub decreases-loop-step : goal.decreases-loop-step
decreases-loop-step l = length l.self

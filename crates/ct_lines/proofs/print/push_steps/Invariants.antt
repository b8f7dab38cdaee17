use Rattle.std.proofs.Common.{◌≡◌, ◌++◌, take, map}
use Rattle.ct_lines.specs.Texts.{spaced, step_word}
use Rattle.ct_lines.proofs.print.push_steps.Given as goal

abbrev pub invariant-loop-step : goal.invariant-loop-step
invariant-loop-step l = l.out.items ≡ l.initial.out.items ++ spaced (map step_word (take l.step-index l.steps))

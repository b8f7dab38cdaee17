use Rattle.std.proofs.Common.{map, take}
use Rattle.ct_lines.specs.Texts.{spaced, step_word}
use Rattle.ct_lines.proofs.Printed.{in_front}
use Rattle.ct_lines.proofs.print.push_steps.Goals as goal

pub returns-in_err-push_step-clause-err : goal.returns-in_err-push_step-clause-err
returns-in_err-push_step-clause-err c =
    in_front c.from_residual.result c.args.out.now.items (spaced (map step_word (take c.loop-step.step-index c.args.steps.now))) c.loop-step.out.items c.push_step.new.out.items c.loop-step.invariant c.in_err-push_step.ensures.err

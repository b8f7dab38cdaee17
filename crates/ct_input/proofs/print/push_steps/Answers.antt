use Rattle.std.proofs.Common.{take}
use Rattle.std.specs.List.{flat_map}
use Rattle.std.proofs.lemmas.Result.{err_from_is_err_and}
use Rattle.ct_input.specs.FaultText.{step_text}
use Rattle.ct_input.proofs.Printed.{kept_on}
use Rattle.ct_input.proofs.print.push_steps.Goals as goal

pub returns-in_err-push_step-clause-err : goal.returns-in_err-push_step-clause-err
returns-in_err-push_step-clause-err c =
    let p = err_from_is_err_and c.from_residual.result c.from_residual.ensures.1 in
    rw p.1 (kept_on c.args.out.now.items c.loop-step.out.items c.push_step.new.out.items (flat_map step_text (take c.loop-step.step-index c.args.path.now)) c.loop-step.invariant c.in_err-push_step.ensures.err)

use Rattle.ct_book.specs.declared.outcomes.Step.TheVariants.{Reduce, Published, Reached, Full}
use Rattle.ct_book.specs.Books.{IsStep}
use Rattle.ct_workers.proofs.Steps.{no_step, step_runs}
use Rattle.ct_workers.proofs.Kept.{kept_after}
use Rattle.ct_workers.proofs.driving.take.Goals as goal

pub returns-in-Err-clause-runs : goal.returns-in-Err-clause-runs
returns-in-Err-clause-runs c = no_step c.args.book.now c.step.new.self c.in-Err.ensures.refused

pub returns-in-Ok-Reached-clause-runs : goal.returns-in-Ok-Reached-clause-runs
returns-in-Ok-Reached-clause-runs c =
    let is : IsStep c.args.book.now c.args.by c.args.target c.step.new.self (Reached c.in-Ok-Reached.field-0-0) = rw c.in-Ok-Reached.field-0-is at c.in-Ok-Reached.ensures.answer in
    step_runs c.args.book.now c.args.by c.args.target c.step.new.self (Reached c.in-Ok-Reached.field-0-0) is

pub returns-in-Ok-Full-clause-runs : goal.returns-in-Ok-Full-clause-runs
returns-in-Ok-Full-clause-runs c =
    let is : IsStep c.args.book.now c.args.by c.args.target c.step.new.self (Full c.in-Ok-Full.mark) = rw c.in-Ok-Full.field-0-is at c.in-Ok-Full.ensures.answer in
    step_runs c.args.book.now c.args.by c.args.target c.step.new.self (Full c.in-Ok-Full.mark) is

pub returns-in-Ok-Published-clause-runs : goal.returns-in-Ok-Published-clause-runs
returns-in-Ok-Published-clause-runs c =
    let is : IsStep c.args.book.now c.args.by c.args.target c.step.new.self (Published c.in-Ok-Published.version) = rw c.in-Ok-Published.field-0-is at c.in-Ok-Published.ensures.answer in
    step_runs c.args.book.now c.args.by c.args.target c.step.new.self (Published c.in-Ok-Published.version) is

pub returns-clause-runs : goal.returns-clause-runs
returns-clause-runs c =
    let is : IsStep c.args.book.now c.args.by c.args.target c.step.new.self (Reduce c.in-Ok-Reduce.task) = rw c.in-Ok-Reduce.field-0-is at c.in-Ok-Reduce.ensures.answer in
    step_runs c.args.book.now c.args.by c.args.target c.step.new.self (Reduce c.in-Ok-Reduce.task) is

pub returns-clause-place : goal.returns-clause-place
returns-clause-place c =
    let is : IsStep c.args.book.now c.args.by c.args.target c.step.new.self (Reduce c.in-Ok-Reduce.task) = rw c.in-Ok-Reduce.field-0-is at c.in-Ok-Reduce.ensures.answer in
    kept_after c.args.book.now c.args.by c.args.target c.in-Ok-Reduce.task c.step.new.self c.args.kept.now c.keep_reduced.new.kept c.keep_reduced.result is c.requires.place
    c.keep_reduced.ensures.kept c.keep_reduced.ensures.refused

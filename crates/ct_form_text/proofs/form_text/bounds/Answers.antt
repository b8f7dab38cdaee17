use Rattle.std.proofs.Common.{◌≡◌, ◌-◌, ◌+◌, suc, sym, arith}
use Rattle.std.proofs.lemmas.Result.{err_from_is_err_and}
use Rattle.ct_input.specs.Grammar.{read}
use Rattle.ct_input.proofs.Loops.{each_err, each_more, each_end}
use Rattle.ct_form.specs.Made.{given_of}
use Rattle.ct_form_text.specs.FormText.{bound, bounds}
use Rattle.ct_form_text.proofs.form_text.bounds.Goals as goal

pub returns-in_err-next : goal.returns-in_err-next
returns-in_err-next c =
    let p = err_from_is_err_and c.from_residual.result c.from_residual.ensures.1 in
    let later = c.args.columns - (c.loop.counter + 1) in
    let some : c.args.columns - c.loop.counter ≡ suc later = omega arith in
    rw (p.1, p.2) (each_err bound given_of c.in_err-next.field-0.0 c.loop.found.items (c.args.columns - c.loop.counter) later c.loop.spare c.loop.reader (read (bounds c.args.columns c.args.spare) c.args.reader.now) some c.in_err-next.ensures c.loop.invariant)

pub loop-preserved : goal.loop-preserved
loop-preserved c =
    let later = c.args.columns - (c.loop.counter + 1) in
    let some : c.args.columns - c.loop.counter ≡ suc later = omega arith in
    let left : c.loop.spare - given_of c.in_ok-next.next ≡ c.saturating_sub-spare.result = rw (← c.given.ensures) (sym c.saturating_sub-spare.ensures) in
    rw c.in_ok-push.ensures.items (each_more bound given_of c.loop.found.items (c.args.columns - c.loop.counter) later c.loop.spare c.saturating_sub-spare.result c.in_ok-next.next c.loop.reader c.bound.new.reader (read (bounds c.args.columns c.args.spare) c.args.reader.now) some left c.in_ok-next.ensures c.loop.invariant)

pub returns : goal.returns
returns c =
    let none : c.args.columns - c.loop.counter ≡ 0 = omega arith in
    each_end bound given_of c.loop.found.items (c.args.columns - c.loop.counter) c.loop.spare c.loop.reader (read (bounds c.args.columns c.args.spare) c.args.reader.now) none c.loop.invariant

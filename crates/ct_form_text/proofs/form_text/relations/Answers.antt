use Rattle.std.proofs.Common.{◌≡◌, ◌-◌, ◌+◌, suc, sym, arith}
use Rattle.std.proofs.lemmas.Result.{err_from_is_err_and}
use Rattle.std.proofs.lemmas.List.Sums.{sum_by_push}
use Rattle.ct_input.specs.Grammar.{read}
use Rattle.ct_input.proofs.Loops.{each_err, each_more, each_end}
use Rattle.ct_form_text.specs.FormText.{slacks_of, relation, relations}
use Rattle.ct_form_text.proofs.form_text.relations.Goals as goal

pub returns-in_err-next-clause-gives : goal.returns-in_err-next-clause-gives
returns-in_err-next-clause-gives c =
    let p = err_from_is_err_and c.from_residual.result c.from_residual.ensures.1 in
    let later = c.args.rows - (c.loop.counter + 1) in
    let some : c.args.rows - c.loop.counter ≡ suc later = omega arith in
    rw (p.1, p.2) (each_err relation slacks_of c.in_err-next.field-0.0 c.loop.found.items (c.args.rows - c.loop.counter) later c.loop.spare c.loop.reader (read (relations c.args.rows c.args.spare.now) c.args.reader.now) some c.in_err-next.ensures c.loop.invariant.reads)

pub loop-preserved : goal.loop-preserved
loop-preserved c =
    let later = c.args.rows - (c.loop.counter + 1) in
    let some : c.args.rows - c.loop.counter ≡ suc later = omega arith in
    let left : c.loop.spare - slacks_of c.in_ok-next.next ≡ c.saturating_sub.result = rw (← c.slacks.ensures) (sym c.saturating_sub.ensures) in
    record {
      reads = rw c.in_ok-push.ensures.items (each_more relation slacks_of c.loop.found.items (c.args.rows - c.loop.counter) later c.loop.spare c.saturating_sub.result c.in_ok-next.next c.loop.reader c.relation.new.reader (read (relations c.args.rows c.args.spare.now) c.args.reader.now) some left c.in_ok-next.ensures c.loop.invariant.reads);
      spare = rw c.in_ok-push.ensures.items (let more = sum_by_push slacks_of c.loop.found.items c.in_ok-next.next in omega (arith, left, more, c.loop.invariant.spare));
    }

pub returns-clause-gives : goal.returns-clause-gives
returns-clause-gives c =
    let none : c.args.rows - c.loop.counter ≡ 0 = omega arith in
    each_end relation slacks_of c.loop.found.items (c.args.rows - c.loop.counter) c.loop.spare c.loop.reader (read (relations c.args.rows c.args.spare.now) c.args.reader.now) none c.loop.invariant.reads

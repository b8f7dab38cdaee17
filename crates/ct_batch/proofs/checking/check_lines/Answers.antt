use Rattle.std.proofs.Common.{sym}
use Rattle.std.specs.Arc.{arc_value}
use Rattle.ct_batch.proofs.InOrder.{reasons_decide}
use Rattle.ct_batch.proofs.checking.check_lines.Goals as goal

pub returns-clause-none : goal.returns-clause-none
returns-clause-none g c =
    let whole = reasons_decide (arc_value c.args.inst.now) c.args.ledger.now c.in_ok-docket.docket c.entries-entries.result.now c.in_ok-reasons.reasons.items
    c.entries-entries.ensures.entries c.in_ok-docket.ensures.docket c.in_ok-docket.ensures.none c.in_ok-reasons.ensures in
    rw (whole, sym c.as_slice.ensures.value, sym c.len.ensures, sym c.moves.ensures.moves) c.first_wrong.ensures.none

pub returns-clause-refused : goal.returns-clause-refused
returns-clause-refused g c =
    let whole = reasons_decide (arc_value c.args.inst.now) c.args.ledger.now c.in_ok-docket.docket c.entries-entries.result.now c.in_ok-reasons.reasons.items
    c.entries-entries.ensures.entries c.in_ok-docket.ensures.docket c.in_ok-docket.ensures.none c.in_ok-reasons.ensures in
    rw (whole, sym c.as_slice.ensures.value, sym c.len.ensures, sym c.moves.ensures.moves) c.first_wrong.ensures.refused

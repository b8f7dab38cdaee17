use Rattle.ct_ledger.proofs.Written.{ledger_written}
use Rattle.ct_ledger.proofs.ledgers.Ledger.print.Goals as goal

pub returns-clause-text : goal.returns-clause-text
returns-clause-text c =
    rw (c.in_ok-extend_from_slice.ensures.items, c.in_ok-push_entries.ensures, c.in_ok-push_moves.ensures, c.in_ok-push_head.ensures, c.new-out.ensures.items, c.entries.ensures.entries, c.moves.ensures.moves, c.size-rows.ensures.rows, c.size-rows.ensures.columns, c.grade.ensures.grade)
    (ledger_written c.args.self.now)

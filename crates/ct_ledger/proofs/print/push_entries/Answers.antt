use Rattle.std.proofs.Common.{◌<◌, length, arith}
use Rattle.ct_lines.proofs.Printed.{text_more}
use Rattle.ct_ledger.specs.LedgerText.{entry_words}
use Rattle.ct_ledger.proofs.print.push_entries.Goals as goal

pub loop-entry-preserved : goal.loop-entry-preserved
loop-entry-preserved c =
    let inside : c.loop-entry.entry-index < length c.args.entries.now = omega arith in
    rw (c.in_ok-push_entry.ensures, c.loop-entry.invariant) (text_more entry_words c.args.out.now.items c.args.entries.now c.loop-entry.entry-index c.entry-item.result inside c.entry-item.is)

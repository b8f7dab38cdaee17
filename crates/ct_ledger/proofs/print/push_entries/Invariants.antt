use Rattle.std.proofs.Common.{◌≡◌, ◌++◌, take, map}
use Rattle.ct_lines.specs.Texts.{text_of}
use Rattle.ct_ledger.specs.LedgerText.{entry_words}
use Rattle.ct_ledger.proofs.print.push_entries.Given as goal

abbrev pub invariant-loop-entry : goal.invariant-loop-entry
invariant-loop-entry l = l.out.items ≡ l.initial.out.items ++ text_of (map entry_words (take l.entry-index l.entries))

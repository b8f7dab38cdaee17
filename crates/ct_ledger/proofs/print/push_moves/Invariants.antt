use Rattle.std.proofs.Common.{◌≡◌, ◌++◌, take, map}
use Rattle.ct_lines.specs.Texts.{text_of}
use Rattle.ct_ledger.specs.LedgerText.{move_words}
use Rattle.ct_ledger.proofs.print.push_moves.Given as goal

abbrev pub invariant-loop-head : goal.invariant-loop-head
invariant-loop-head l = l.out.items ≡ l.initial.out.items ++ text_of (map move_words (take l.head-index l.moves))

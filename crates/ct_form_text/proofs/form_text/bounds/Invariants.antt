use Rattle.std.proofs.Common.{◌≡◌, ◌-◌}
use Rattle.ct_input.specs.Grammar.{read}
use Rattle.ct_input.proofs.Loops.{with_front}
use Rattle.ct_form_text.specs.FormText.{bounds}
use Rattle.ct_form_text.proofs.form_text.bounds.Given as goal

-- What was found, and then what is still read, is what the grammar gives.
abbrev pub invariant-loop : goal.invariant-loop
invariant-loop l = with_front l.found.items (read (bounds (l.fn.columns - l.counter) l.spare) l.reader) ≡ read (bounds l.fn.columns l.fn.spare) l.fn.reader

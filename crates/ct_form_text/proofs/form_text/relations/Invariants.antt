use Rattle.std.proofs.Common.{◌≡◌, ◌-◌}
use Rattle.std.specs.Prelude.{sum_by}
use Rattle.ct_input.specs.Grammar.{read}
use Rattle.ct_input.proofs.Loops.{with_front}
use Rattle.ct_form_text.specs.FormText.{slacks_of, relations}
use Rattle.ct_form_text.proofs.form_text.relations.Given as goal

-- What was found, and then what is still read, is what the grammar gives.
abbrev pub invariant-loop : goal.invariant-loop
invariant-loop l = record {
  reads : with_front l.found.items (read (relations (l.fn.rows - l.counter) l.spare) l.reader) ≡ read (relations l.fn.rows l.fn.spare) l.fn.reader;
  spare : l.spare ≡ l.fn.spare - sum_by slacks_of l.found.items;
}

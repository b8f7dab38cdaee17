use Rattle.std.proofs.Common.{◌≡◌, ◌-◌}
use Rattle.ct_input.specs.Grammar.{read}
use Rattle.ct_input.specs.SessionText.{requests}
use Rattle.ct_input.proofs.Loops.{with_front}
use Rattle.ct_input.proofs.sessions.requests_of.Given as goal

-- What was found, and then what is still read, is what the grammar gives.
abbrev pub invariant-loop : goal.invariant-loop
invariant-loop l = with_front l.found.items (read (requests l.fn.rows (l.spare - l.counter)) l.reader) ≡ read (requests l.fn.rows l.fn.spare) l.fn.reader

use Rattle.std.proofs.Common.{◌≡◌, ◌-◌}
use Rattle.ct_input.specs.declared.limits.TheConstants.{PHASE_LIMIT}
use Rattle.ct_input.specs.Grammar.{read}
use Rattle.ct_input.specs.SessionText.{phases, phases_up_to}
use Rattle.ct_input.proofs.Loops.{with_front}
use Rattle.ct_input.proofs.sessions.phases_of.Given as goal

-- What was found, and then what is still read, is what the grammar gives.
abbrev pub invariant-loop : goal.invariant-loop
invariant-loop l = with_front l.found.items (read (phases_up_to l.fn.rows (PHASE_LIMIT - l.counter) l.spare) l.reader) ≡ read (phases l.fn.rows l.fn.spare) l.fn.reader

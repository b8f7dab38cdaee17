use Rattle.std.proofs.Common.{◌≡◌, ◌-◌}
use Rattle.ct_vectors.specs.declared.limits.TheConstants.{SESSION_LIMIT}
use Rattle.ct_input.specs.Grammar.{read}
use Rattle.ct_input.specs.SessionText.{sessions, sessions_up_to, request_count}
use Rattle.ct_input.proofs.Loops.{with_front}
use Rattle.ct_input.proofs.sessions.sessions_of.Given as goal

-- What was found, and then what is still read, is what the grammar gives.
abbrev pub invariant-loop : goal.invariant-loop
invariant-loop l = record {
  reads : with_front l.found.items (read (sessions_up_to l.fn.rows (SESSION_LIMIT - l.counter) l.spare) l.reader) ≡ read (sessions l.fn.rows l.fn.spare) l.fn.reader;
  spare : l.spare ≡ l.fn.spare - request_count l.found.items;
}

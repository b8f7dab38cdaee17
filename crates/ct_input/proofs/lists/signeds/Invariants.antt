use Rattle.std.proofs.Common.{◌≡◌, ◌-◌, ◌≤◌, nat_abs, All, vec_len}
use Rattle.ct_input.specs.Grammar.{read, signeds}
use Rattle.ct_input.proofs.Loops.{with_front}
use Rattle.ct_input.proofs.lists.signeds.Given as goal

-- What was found, and then what is still read, is what the grammar gives.
abbrev pub invariant-loop : goal.invariant-loop
invariant-loop l = record { reads : with_front l.found.items (read (signeds (l.count - l.counter) l.size) l.reader) ≡ read (signeds l.fn.count l.fn.size) l.fn.reader; count : vec_len l.found ≡ l.counter; limit : All (λ n. nat_abs n ≤ l.size) l.found.items }

use Rattle.std.proofs.Common.{◌≡◌, ◌-◌, ◌≤◌, All, vec_len}
use Rattle.ct_input.specs.Grammar.{read, numbers}
use Rattle.ct_input.proofs.Loops.{with_front}
use Rattle.ct_input.proofs.lists.numbers.Given as goal

-- What was found, and then what is still read, is what the grammar gives.
abbrev pub invariant-loop : goal.invariant-loop
invariant-loop l = record { reads : with_front l.found.items (read (numbers (l.count - l.counter) l.high) l.reader) ≡ read (numbers l.fn.count l.fn.high) l.fn.reader; count : vec_len l.found ≡ l.counter; limit : All (λ n. n ≤ l.high) l.found.items }

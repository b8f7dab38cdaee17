use Rattle.std.proofs.Common.{◌≡◌, ◌-◌, vec_len, ◌≤◌}
use Rattle.std.specs.Prelude.{All}
use Rattle.ct_lines.specs.Reading.{numbers_left}
use Rattle.ct_lines.proofs.Loops.{with_front}
use Rattle.ct_lines.proofs.words.Words.numbers.Given as goal

-- What was found, and then what is still read, is what stands there.
abbrev pub invariant-loop : goal.invariant-loop
invariant-loop l = record { reads : with_front l.found.items (numbers_left (l.count - l.counter) l.high l.self) ≡ numbers_left l.fn.count l.fn.high l.fn.self; count : vec_len l.found ≡ l.counter; within : All (λ n. n ≤ l.high) l.found.items }

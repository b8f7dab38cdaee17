use Rattle.std.proofs.Common.{◌≡◌, ◌≤◌, ◌-◌, vec_len}
use Rattle.std.specs.Prelude.{All}
use Rattle.ct_lines.specs.Reading.{number_left, is_last, until_left}
use Rattle.ct_lines.proofs.Loops.{with_front}
use Rattle.ct_lines.proofs.words.Words.rest.Given as goal

-- What was found, and then what is still read, is what stands there.
abbrev pub invariant-loop : goal.invariant-loop
invariant-loop l = record { reads : with_front l.found.items (until_left (number_left 0 l.high) is_last (l.most - l.counter) l.self) ≡ until_left (number_left 0 l.fn.high) is_last l.fn.most l.fn.self; count : vec_len l.found ≡ l.counter; within : All (λ n. n ≤ l.high) l.found.items }

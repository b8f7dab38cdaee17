use Rattle.std.proofs.Common.{◌≡◌, ◌≤◌, ◌-◌, vec_len}
use Rattle.std.specs.Prelude.{All, unsigned_abs}
use Rattle.ct_lines.specs.Reading.{signed_left, is_next, until_left}
use Rattle.ct_lines.proofs.Loops.{with_front}
use Rattle.ct_lines.proofs.words.Words.signeds.Given as goal

-- What was found, and then what is still read, is what stands there.
abbrev pub invariant-loop : goal.invariant-loop
invariant-loop l = record { reads : with_front l.found.items (until_left (signed_left l.size) (is_next l.word) (l.most - l.counter) l.self) ≡ until_left (signed_left l.fn.size) (is_next l.fn.word) l.fn.most l.fn.self; count : vec_len l.found ≡ l.counter; within : All (λ n. unsigned_abs n ≤ l.size) l.found.items }

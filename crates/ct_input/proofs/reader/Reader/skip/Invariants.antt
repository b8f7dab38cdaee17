use Rattle.std.proofs.Common.{◌≡◌, drop}
use Rattle.ct_input.proofs.reader.Reader.skip.Given as goal

abbrev pub invariant-loop : goal.invariant-loop
invariant-loop l = l.self ≡ record { tokens = drop l.counter l.fn.self.tokens; end = l.fn.self.end }

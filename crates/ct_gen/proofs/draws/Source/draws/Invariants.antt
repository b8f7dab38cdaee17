use Rattle.std.proofs.Common.{◌≡◌, ◌+◌}
use Rattle.ct_gen.specs.Draws.{draws}
use Rattle.ct_gen.proofs.draws.Source.draws.Given as goal

abbrev pub invariant-loop : goal.invariant-loop
invariant-loop l = record {
  drawn : l.drawn.items ≡ draws l.initial.self.0 l.initial.self.1 l.counter;
  source : l.self ≡ (l.initial.self.0, l.initial.self.1 + l.counter);
}

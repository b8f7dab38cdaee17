use Rattle.std.proofs.Common.{◌≡◌, take}
use Rattle.std.specs.List.{flat_map}
use Rattle.ct_gen.specs.Tallies.{plus, tally_of, IsTally}
use Rattle.ct_gen.proofs.tally.Tally.add_sessions.Given as goal

abbrev pub invariant-loop-lines : goal.invariant-loop-lines
invariant-loop-lines l = record {
  sum : l.self ≡ plus l.initial.self (tally_of (flat_map (λ lines. lines) (take l.lines-index l.sessions)));
  tally : IsTally l.self;
}

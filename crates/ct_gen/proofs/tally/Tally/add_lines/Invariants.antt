use Rattle.std.proofs.Common.{◌≡◌, take}
use Rattle.ct_gen.specs.Tallies.{plus, tally_of, IsTally}
use Rattle.ct_gen.proofs.tally.Tally.add_lines.Given as goal

abbrev pub invariant-loop-line : goal.invariant-loop-line
invariant-loop-line l = record {
  sum : l.self ≡ plus l.initial.self (tally_of (take l.line-index l.lines));
  tally : IsTally l.self;
}

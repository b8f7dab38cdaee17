use Rattle.std.proofs.Common.{◌≡◌, [], take}
use Rattle.std.specs.List.{flat_map}
use Rattle.ct_gen.specs.Tallies.{plus, tally_of, IsTally, phase_lines}
use Rattle.ct_gen.proofs.tally.Tally.of.Given as goal

abbrev pub invariant-loop-phase : goal.invariant-loop-phase
invariant-loop-phase l = record {
  sum : l.tally ≡ plus (tally_of []) (tally_of (flat_map phase_lines (take l.phase-index l.report.phases)));
  tally : IsTally l.tally;
}

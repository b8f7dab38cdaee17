use Rattle.std.proofs.Common.{[], arith}
use Rattle.ct_input.specs.declared.limits.TheConstants.{REQUEST_LIMIT}
use Rattle.ct_gen.specs.Tallies.{HasCost, tally_of, phase_lines}
use Rattle.ct_gen.proofs.Together.{piece_more, piece_few, piece_all}
use Rattle.ct_gen.proofs.tally.Tally.of.Goals as goal

pub add_sessions-requires-clause-few : goal.add_sessions-requires-clause-few
add_sessions-requires-clause-few c =
    rw c.as_slice.ensures (piece_few phase_lines (tally_of []) c.loop-phase.tally c.args.report.now.phases c.loop-phase.phase-index REQUEST_LIMIT c.phase-item.result (rw c.as_slice-phase-items.ensures at c.loop-phase-test.true) (rw c.as_slice-phase-items.ensures at c.phase-item.is) c.loop-phase.invariant.sum (omega (arith, c.requires.few)))

pub add_sessions-requires-clause-costs : goal.add_sessions-requires-clause-costs
add_sessions-requires-clause-costs c =
    rw c.as_slice.ensures (piece_all HasCost phase_lines c.args.report.now.phases c.loop-phase.phase-index c.phase-item.result (rw c.as_slice-phase-items.ensures at c.loop-phase-test.true) (rw c.as_slice-phase-items.ensures at c.phase-item.is) c.requires.costs)

pub loop-phase-preserved : goal.loop-phase-preserved
loop-phase-preserved c = record {
  sum = piece_more phase_lines (tally_of []) c.loop-phase.tally c.add_sessions.new.self c.args.report.now.phases c.loop-phase.phase-index c.phase-item.result (rw c.as_slice-phase-items.ensures at c.loop-phase-test.true) (rw c.as_slice-phase-items.ensures at c.phase-item.is) c.loop-phase.invariant.sum (rw (← c.as_slice.ensures) c.add_sessions.ensures.sum);
  tally = c.add_sessions.ensures.tally;
}

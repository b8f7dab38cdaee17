use Rattle.std.proofs.Common.{List}
use Rattle.ct_input.specs.declared.limits.TheConstants.{REQUEST_LIMIT}
use Rattle.ct_session.specs.declared.lines.Line.{Line}
use Rattle.ct_gen.specs.Tallies.{HasCost}
use Rattle.ct_gen.proofs.Together.{piece_more, piece_few, piece_all}
use Rattle.ct_gen.proofs.tally.Tally.add_sessions.Goals as goal

pub add_lines-requires-clause-few : goal.add_lines-requires-clause-few
add_lines-requires-clause-few c =
    rw c.as_slice.ensures (piece_few (λ (lines : List Line). lines) c.args.self.now c.loop-lines.self c.args.sessions.now c.loop-lines.lines-index REQUEST_LIMIT c.lines-item.result c.loop-lines-test.true c.lines-item.is c.loop-lines.invariant.sum c.requires.few)

pub add_lines-requires-clause-costs : goal.add_lines-requires-clause-costs
add_lines-requires-clause-costs c =
    rw c.as_slice.ensures (piece_all HasCost (λ (lines : List Line). lines) c.args.sessions.now c.loop-lines.lines-index c.lines-item.result c.loop-lines-test.true c.lines-item.is c.requires.costs)

pub loop-lines-preserved : goal.loop-lines-preserved
loop-lines-preserved c = record {
  sum = piece_more (λ (lines : List Line). lines) c.args.self.now c.loop-lines.self c.add_lines.new.self c.args.sessions.now c.loop-lines.lines-index c.lines-item.result c.loop-lines-test.true c.lines-item.is c.loop-lines.invariant.sum (rw (← c.as_slice.ensures) c.add_lines.ensures.sum);
  tally = c.add_lines.ensures.tally;
}

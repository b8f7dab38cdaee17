use Rattle.ct_gen.proofs.Together.{line_more}
use Rattle.ct_gen.proofs.tally.Tally.add_lines.Goals as goal

pub loop-line-preserved : goal.loop-line-preserved
loop-line-preserved c = record {
  sum = line_more c.args.self.now c.loop-line.self c.add.new.self c.args.lines.now c.loop-line.line-index c.line-item.result c.loop-line-test.true c.line-item.is c.loop-line.invariant.sum c.add.ensures.sum;
  tally = c.add.ensures.tally;
}

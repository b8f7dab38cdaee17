use Rattle.ct_gen.proofs.Drawn.{draws_more, source_more}
use Rattle.ct_gen.proofs.draws.Source.draws.Goals as goal

pub loop-preserved : goal.loop-preserved
loop-preserved c = record {
  drawn = rw c.in_ok-push.ensures.items (draws_more c.args.self.now c.loop.self c.loop.counter c.loop.drawn.items c.draw.result c.loop.invariant.source c.loop.invariant.drawn c.draw.ensures.draw);
  source = source_more c.args.self.now c.loop.self c.draw.new.self c.loop.counter c.loop.invariant.source c.draw.ensures.source;
}

use Rattle.std.proofs.Common.{◌∙◌}
use Rattle.ct_box.proofs.BroughtMoves.{grown_jobs}
use Rattle.ct_box.proofs.filling.grown.Goals as goal

pub returns-clause-jobs : goal.returns-clause-jobs
returns-clause-jobs c =
    grown_jobs c.args.moves.now c.in_ok-longer.longer c.args.new.items c.in_ok-longer.ensures c.args.buckets.now.jobs c.reserve.new.self.jobs c.absorb.new.self.jobs c.in_ok-pairs.pairs
    c.deref.result.now c.len.result c.requires.jobs c.reserve.ensures.jobs (c.deref.ensures ∙ c.instance.ensures.instance) c.len.ensures.count c.in_ok-pairs.ensures c.absorb.ensures

use Rattle.ct_book.proofs.WholeLists.{all_taken_in}
use Rattle.ct_book.proofs.bringing.buckets_of.Goals as goal

pub returns : goal.returns
returns c =
    all_taken_in c.args.inst.now c.args.moves.now.moves c.in_ok-buckets.buckets.jobs c.in_ok-pairs.pairs c.reserve.new.self.jobs c.absorb.new.self.jobs c.reserve-2.new.self.jobs
    c.in_ok-buckets.ensures c.in_ok-pairs.ensures c.reserve.ensures.jobs c.absorb.ensures c.reserve-2.ensures.jobs

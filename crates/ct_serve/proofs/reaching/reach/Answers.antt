use Rattle.std.proofs.Common.{rules}
use Rattle.ct_book.specs.Benches.{desk_place}
use Rattle.ct_serve.proofs.ReachedGrades.{held_helped, held_marked}
use Rattle.ct_serve.proofs.reaching.reach.Goals as goal

pub returns-in-Ok-clause-held : goal.returns-in-Ok-clause-held
returns-in-Ok-clause-held g c = held_helped (desk_place c.args.shared.now.host.now.place) c.args.grade c.in-Ok.helped c.in-Ok.ensures.ok

pub returns-in-Err-Full-clause-held : goal.returns-in-Err-Full-clause-held
returns-in-Err-Full-clause-held g c =
    held_marked (desk_place c.args.shared.now.host.now.place) c.args.grade c.in-Err-Full.mark c.below.result (search rules) c.below.ensures

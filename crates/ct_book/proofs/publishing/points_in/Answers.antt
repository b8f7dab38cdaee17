use Rattle.ct_groups.specs.Groups.{points_seen}
use Rattle.ct_book.proofs.NextVersions.{points_more}
use Rattle.ct_book.proofs.publishing.points_in.Goals as goal

pub loop-slot-preserved : goal.loop-slot-preserved
loop-slot-preserved c =
    points_more c.args.slots.now c.loop-slot.slot-index c.slot-item.result (points_seen c.loop-slot.points.items) (points_seen c.push_points.new.points.items)
    c.loop-slot-test.true c.slot-item.is c.loop-slot.invariant c.in_ok-push_points.ensures

use Rattle.std.proofs.Common.{rules}
use Rattle.count_lock.proofs.Steps.{joins_passes}
use Rattle.count_lock.proofs.table.LockTable.join.Goals as goal

pub join_seat-requires : goal.join_seat-requires
join_seat-requires g c = (search rules, search rules, search rules, search rules, joins_passes _ _ g.V.Counted.shows _ _ _ _ _ _ (search rules) (search rules) (search rules) (search rules))

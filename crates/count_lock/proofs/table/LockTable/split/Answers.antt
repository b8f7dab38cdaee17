use Rattle.std.proofs.Common.{rules}
use Rattle.count_lock.proofs.Steps.{splits_pass}
use Rattle.count_lock.proofs.table.LockTable.split.Goals as goal

pub split_seat-requires : goal.split_seat-requires
split_seat-requires g c = (search rules, search rules, splits_pass _ _ g.V.Counted.shows _ _ _ _ (search rules) (search rules))

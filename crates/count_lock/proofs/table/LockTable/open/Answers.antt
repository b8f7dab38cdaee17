use Rattle.std.proofs.Common.{rules}
use Rattle.count_lock.proofs.Steps.{opens}
use Rattle.count_lock.proofs.table.LockTable.open.Goals as goal

pub new-requires : goal.new-requires
new-requires g c = opens _ _ g.V.Counted.shows _ _ _ (search rules) (search rules) (search rules)

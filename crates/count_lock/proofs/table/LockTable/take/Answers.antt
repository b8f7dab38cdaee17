use Rattle.std.proofs.Common.{rules}
use Rattle.count_lock.proofs.Steps.{takes_lock}
use Rattle.count_lock.proofs.table.LockTable.take.Goals as goal

pub fetch_or-requires : goal.fetch_or-requires
fetch_or-requires g c = (search rules, search rules, takes_lock _ _ g.V.Counted.shows _ _ _ _ _ (search rules) (search rules))

use Rattle.ct_promise.proofs.Beside.{checked_decides}
use Rattle.ct_promise.proofs.laws.checked_ledgers_decide.Goals as goal

pub returns : goal.returns
returns c = checked_decides

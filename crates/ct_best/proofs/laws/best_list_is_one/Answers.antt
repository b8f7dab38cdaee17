use Rattle.ct_best.proofs.Lists.{best_list_exists, best_list_is_one}
use Rattle.ct_best.proofs.laws.best_list_is_one.Goals as goal

pub returns : goal.returns
returns c = record { some = best_list_exists; only = best_list_is_one }

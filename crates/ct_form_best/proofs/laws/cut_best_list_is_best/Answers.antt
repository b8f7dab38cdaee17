use Rattle.ct_form_best.proofs.Best.{cut_is_best, shown_is_best}
use Rattle.ct_form_best.proofs.laws.cut_best_list_is_best.Goals as goal

pub returns-clause-cut : goal.returns-clause-cut
returns-clause-cut c = cut_is_best

pub returns-clause-shown : goal.returns-clause-shown
returns-clause-shown c = shown_is_best

use Rattle.ct_best_report.proofs.Shown.{all_shown}
use Rattle.ct_best_report.proofs.laws.all_columns_are_shown.Goals as goal

pub returns : goal.returns
returns c = all_shown

use Rattle.ct_run.proofs.FullGrades.{full_exact}
use Rattle.ct_run.proofs.laws.full_is_exact.Goals as goal

pub returns : goal.returns
returns c = full_exact

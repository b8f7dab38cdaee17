use Rattle.ct_form_text.proofs.Cut.{form_cut, form_ends}
use Rattle.ct_form_text.proofs.laws.cut_form_has_fault.Goals as goal

pub returns-clause-cut : goal.returns-clause-cut
returns-clause-cut c = form_cut

pub returns-clause-last : goal.returns-clause-last
returns-clause-last c = form_ends

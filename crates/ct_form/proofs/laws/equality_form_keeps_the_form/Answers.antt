use Rattle.ct_form.proofs.Kept.{form_is_in_equal}
use Rattle.ct_form.proofs.ZeroColumns.{zero_column_is_free}
use Rattle.ct_form.proofs.laws.equality_form_keeps_the_form.Goals as goal

pub returns-clause-form : goal.returns-clause-form
returns-clause-form c = form_is_in_equal

pub returns-clause-zero_column : goal.returns-clause-zero_column
returns-clause-zero_column c = zero_column_is_free

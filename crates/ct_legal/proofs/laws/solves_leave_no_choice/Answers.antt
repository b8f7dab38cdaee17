use Rattle.std.proofs.Common.{sym, subst, ap}
use Rattle.ct_report.specs.ReportText.{report_text}
use Rattle.ct_legal.specs.Legal.{IsLegalServed}
use Rattle.ct_legal.proofs.OneReport.{one_report}
use Rattle.ct_legal.proofs.laws.solves_leave_no_choice.Goals as goal

pub returns-clause-one : goal.returns-clause-one
returns-clause-one c = one_report

pub returns-clause-without_asks : goal.returns-clause-without_asks
returns-clause-without_asks c = λ case script none r q x y.
    one_report case script r q (subst (λ s. IsLegalServed case s r) (sym none) x) (subst (λ s. IsLegalServed case s q) (sym none) y)

pub returns-clause-same : goal.returns-clause-same
returns-clause-same c = λ case script none r q x y. ap report_text (one_report case script r q (subst (λ s. IsLegalServed case s r) (sym none) x) y)

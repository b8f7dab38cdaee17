use Rattle.std.proofs.Common.{sym, subst, ap, ◌∙◌}
use Rattle.ct_report.specs.ReportText.{report_text}
use Rattle.ct_legal.specs.Legal.{IsLegalServed}
use Rattle.ct_legal.proofs.OneReport.{one_report}
use Rattle.ct_form_report.specs.Laws.{opened_case}
use Rattle.ct_serve.proofs.OpenedCases.{answered_from}
use Rattle.ct_run.proofs.laws.serving_solves_is_answering.Goals as goal

pub returns-clause-answered : goal.returns-clause-answered
returns-clause-answered c = λ case opened script none text other x y.
    let legal = answered_from (opened_case case opened) case.opened script x.0 (subst (λ s. IsLegalServed (opened_case case opened) s x.0) (sym none) x.1.0) in
    x.1.1 ∙ ap report_text (one_report case script x.0 y.0 legal y.1.0) ∙ sym y.1.1

pub returns-clause-served : goal.returns-clause-served
returns-clause-served c = λ case opened others script none text other x y.
    let legal = answered_from (opened_case case opened) case.opened script x.0 (subst (λ s. IsLegalServed (opened_case case opened) s x.0) (sym none) x.1.0) in
    let besides = answered_from (opened_case case others) case.opened script y.0 (subst (λ s. IsLegalServed (opened_case case others) s y.0) (sym none) y.1.0) in
    x.1.1 ∙ ap report_text (one_report case script x.0 y.0 legal besides) ∙ sym y.1.1

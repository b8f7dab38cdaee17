use Rattle.std.proofs.Common.{◌≡◌, length, sym, ap, ◌∙◌, rules}
use Rattle.std.proofs.lemmas.List.{nil_from_length}
use Rattle.ct_form_report.specs.FormCases.{script_with}
use Rattle.ct_form_report.proofs.Widened.{script_alone}
use Rattle.ct_form_report.proofs.widening.widen.Goals as goal

pub returns-then-is_empty : goal.returns-then-is_empty
returns-then-is_empty c =
    let none : length c.args.given.now ≡ 0 = search rules in
    sym (ap (λ us. script_with us c.args.script) (nil_from_length c.args.given.now none) ∙ script_alone c.args.script)

-- Each line of a legal report of a form is true of its request.
use Rattle.std.proofs.Common.{ℕ, ◌+◌, ◌≡◌, Bool, List, length, sym, ap, ◌∙◌, length-append}
use Rattle.ct_instance.specs.Instance.{IsRight}
use Rattle.ct_instance.specs.Answer.{Outcome, optimum, infeasible, answer_of}
use Rattle.ct_instance.proofs.Answer.{answer_is_short}
use Rattle.ct_version.specs.declared.answers.Answer.{Answer}
use Rattle.ct_version.specs.declared.answers.Answer.TheVariants.{Optimum, Infeasible}
use Rattle.ct_version.specs.Answers.{outcome_seen}
use Rattle.ct_legal.specs.Scripts.{with_solves}
use Rattle.ct_legal.proofs.Scripts.{solves_are_script}
use Rattle.ct_legal.proofs.Headline.{SaysAsShown, phases_true}
use Rattle.ct_form.specs.Forms.{Form, given_in}
use Rattle.ct_form.specs.EqualityForms.{bound_count, equal_of, right_for, cut_to, form_answer_of, IsForm}
use Rattle.ct_form.proofs.FormAnswer.{answer_is_form_optimum, none_is_infeasible}
use Rattle.ct_form_report.specs.FormCases.{form_case}
use Rattle.ct_form_report.specs.FormHeadline.{FormSaysRight}
use Rattle.ct_form_report.specs.Laws.{ServedOfFormIsTrue, AnsweredOfFormIsTrue}

short_uncut : (n : ℕ) (outcome : Outcome) (short : ℕ) → cut_to n outcome ≡ infeasible short → outcome ≡ infeasible short
short_uncut n (optimum x costs) short same = absurd cc
short_uncut n (infeasible s) short same = same

module _ (f : Form) (h : IsForm f) where
  right_is_right : (b : List ℕ) → length b ≡ f.rows → IsRight (equal_of f) (right_for f b)
  right_is_right b wide = length-append b (given_in f.bounds) ∙ ap (λ m. m + bound_count f) wide

  says_right : (b : List ℕ) → length b ≡ f.rows → (answer : Answer) → outcome_seen answer ≡ form_answer_of f b → FormSaysRight f b answer
  says_right b wide (Optimum x costs) same = (answer_is_form_optimum f h b wide x costs).0 (sym same)
  says_right b wide (Infeasible short) same = (
    (answer_is_short (equal_of f) h.equal (right_for f b) (right_is_right b wide) short).0 (short_uncut (length f.columns) (answer_of (equal_of f) (right_for f b)) short (sym same)),
    (none_is_infeasible f h b wide).0 (short, sym same),
  )

  form_says : (limit : ℕ) (walks levels : Bool) (opened : ℕ) → SaysAsShown f.rows (form_case f limit walks levels opened) (FormSaysRight f)
  form_says limit walks levels opened = record { instance = h.equal; right = right_is_right; says = says_right }

pub served_of_form_is_true : ServedOfFormIsTrue
served_of_form_is_true f h limit walks levels opened script is report legal =
    phases_true f.rows (form_case f limit walks levels opened) (FormSaysRight f) (form_says f h limit walks levels opened) script.phases report.phases 0 is legal

pub answered_of_form_is_true : AnsweredOfFormIsTrue
answered_of_form_is_true f h limit walks levels opened script is report legal =
    served_of_form_is_true f h limit walks levels opened (with_solves script) (solves_are_script f.rows script is) report legal

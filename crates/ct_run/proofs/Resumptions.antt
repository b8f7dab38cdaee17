-- What is resumed from a ledger, or isn't, as an ending of a case.
use Rattle.std.proofs.Common.{◌≡◌, ℕ, ◌-◌, ◌≤◌, List, Option, Some, None, refl, ap, subst, ◌∙◌, arith}
use Rattle.ct_vectors.specs.declared.limits.TheConstants.{GRADE_LIMIT}
use Rattle.ct_instance.specs.Instance.{Problem}
use Rattle.ct_instance.specs.Reach.{full_grade_up_to}
use Rattle.ct_input.specs.declared.script.Script.{Script}
use Rattle.ct_levels.proofs.Full.{full_some}
use Rattle.ct_ledger.specs.Parts.{LedgerParts, IsLedger}
use Rattle.ct_checker.specs.declared.verdicts.Reason.{Reason}
use Rattle.ct_checker.specs.Accepted.{moves_of, IsAccepted}
use Rattle.ct_checker.specs.Refusals.{first_refusal_of}
use Rattle.ct_resume.specs.declared.resumed.Resumed.{Resumed}
use Rattle.ct_resume.specs.declared.resumed.ResumeStop.{ResumeStop}
use Rattle.ct_resume.specs.declared.resumed.ResumeStop.TheVariants as stops
use Rattle.ct_resume.specs.Reduced.{IsReduced, IsFirstUnreduced}
use Rattle.ct_resume.specs.Resuming.{grade_before, IsResumed, IsResumeStop}
use Rattle.ct_legal.specs.Cases.{Case}
use Rattle.ct_form_report.specs.Laws.{opened_case}
use Rattle.ct_run.specs.declared.status.Status.{Status}
use Rattle.ct_run.specs.declared.status.Status.TheVariants.{Done, LedgerRefused, NotReduced}
use Rattle.ct_run.specs.Checked.{refused_text}
use Rattle.ct_run.specs.Resumption.{not_reduced_text, grade_opened, IsResumption, refused, unreduced, opens}
use Rattle.ct_run.specs.Outcome.{IsServedReportOf}

before_within : (i : Problem) (limit g : ℕ) (found : Option ℕ) → full_grade_up_to i limit g ≡ found → grade_before g found ≤ g
before_within i limit g None is = omega arith
before_within i limit g (Some f) is =
    let low : f ≤ g = ((full_some i limit g f).0 is).1 in
    let t : f - 1 ≤ g = omega (arith, low) in t

pub resumed_within : (i : Problem) (l : LedgerParts) (limit : ℕ) (r : Resumed) → IsLedger l → IsResumed i l limit r → r.grade ≤ GRADE_LIMIT
resumed_within i l limit r ledger is =
    let most : l.grade ≤ GRADE_LIMIT = ledger.grade_limit in
    let low : grade_before l.grade (full_grade_up_to i limit l.grade) ≤ l.grade = before_within i limit l.grade (full_grade_up_to i limit l.grade) refl in
    let same : r.grade ≡ grade_before l.grade (full_grade_up_to i limit l.grade) = is.grade in
    omega (arith, most, low, same)

module _ (c : Case) (script : Script) (i : Problem) (same : i ≡ c.instance) (l : LedgerParts) (status : Status) (text : List ℕ) where
  pub resumption_opens : (r : Resumed) → IsResumed i l c.limit r → status ≡ Done → IsServedReportOf (opened_case c r.grade) script text → IsResumption c script l status text
  resumption_opens r is own told =
      let grade : r.grade ≡ grade_opened c l = is.grade ∙ ap (λ p. grade_before l.grade (full_grade_up_to p c.limit l.grade)) same in
      let of_case : IsServedReportOf (opened_case c (grade_opened c l)) script text = subst (λ n. IsServedReportOf (opened_case c n) script text) grade told in
      opens (subst (λ p. IsAccepted p l) same is.accepted) (subst (λ p. IsReduced p (moves_of l)) same is.reduced) own of_case.0 of_case.1.0 of_case.1.1

  module _ (stop : ResumeStop) (stopped : IsResumeStop i l stop) where
    pub resumption_refused : (line : ℕ) (reason : Reason) → stop ≡ stops.Refused line reason → status ≡ LedgerRefused → text ≡ refused_text line reason → IsResumption c script l status text
    resumption_refused line reason is own written =
        let first : first_refusal_of i l ≡ Some (line, reason) = subst (IsResumeStop i l) is stopped in
        refused line reason (subst (λ p. first_refusal_of p l ≡ Some (line, reason)) same first) own written

    pub resumption_unreduced : (number : ℕ) → stop ≡ stops.NotReduced number → status ≡ NotReduced → text ≡ not_reduced_text number → IsResumption c script l status text
    resumption_unreduced number is own written =
        let first : IsAccepted i l × IsFirstUnreduced i (moves_of l) number = subst (IsResumeStop i l) is stopped in
        unreduced number (subst (λ p. IsAccepted p l) same first.0) (subst (λ p. IsFirstUnreduced p (moves_of l) number) same first.1) own written

-- What is served phase by phase is a legal report.
use Rattle.std.proofs.Common.{ℕ, ◌+◌, ◌<◌, ◌≤◌, ◌≡◌, max, false, List, [], ◌∷◌, ◌++◌, length, get_or, take, All, sym, ap, subst, ◌∙◌, refl, arith}
use Rattle.std.proofs.lemmas.List.Elements.{All-push, All-weaker}
use Rattle.ct_instance.specs.Instance.{IsInstance}
use Rattle.ct_instance.specs.Versions.{Level, upto, everything, Covers, level_of}
use Rattle.ct_instance.specs.Reach.{reach_of}
use Rattle.ct_input.specs.declared.script.Request.{Request}
use Rattle.ct_input.specs.declared.script.Phase.{Phase}
use Rattle.ct_version.specs.Desks.{Place}
use Rattle.ct_session.specs.declared.lines.Line.{Line}
use Rattle.ct_session.specs.Shown.{HasReached}
use Rattle.ct_report.specs.declared.reports.PhaseReport.{PhaseReport}
use Rattle.ct_legal.specs.Cases.{Case, case_reach}
use Rattle.ct_legal.specs.Scripts.{greatest, grade_after}
use Rattle.ct_legal.specs.Legal.{AreLegalSessions, IsLevelShown, AreLegalPhases}
use Rattle.ct_legal.proofs.Sessions.{shown_is_legal}
use Rattle.ct_answer.specs.declared.options.Options.{Options}
use Rattle.ct_answer.specs.Told.{case_at, all_worked_for, AreEach}
use Rattle.ct_answer.proofs.Pairing.{one_more}
use Rattle.ct_answer.specs.Extents.{grade_upto}
use Rattle.ct_answer.proofs.ToldReports.{grade_pushed, phases_pushed}
use Rattle.ct_serve.specs.Served.{case_from, IsTold}
use Rattle.ct_serve.proofs.OpenedCases.{lines_from}
use Rattle.ct_serve.proofs.WorkedFor.{grade_worked}

covers_zero : (l : Level) → Covers l 0
covers_zero (upto l) = let t : 0 ≤ l = omega arith in t
covers_zero everything = tt

legal_sessions : (p : Place) → IsInstance p.instance → (o : Options) (opened floor from : ℕ) (sessions : List (List Request)) (told : List (List Line)) → HasReached p floor from →
    AreEach (IsTold p o.walks from) sessions told → AreLegalSessions (case_from p o opened) floor sessions told
legal_sessions p s o opened floor from [] [] reached each = tt
legal_sessions p s o opened floor from [] (lines ∷ told) reached each = absurd each
legal_sessions p s o opened floor from (requests ∷ sessions) [] reached each = absurd each
legal_sessions p s o opened floor from (requests ∷ sessions) (lines ∷ told) reached each =
    let here = each.0 in (
      lines_from (case_at p o) opened floor 0 requests lines
          (shown_is_legal p s o.walks o.levels here.before here.after from here.to requests lines here.words here.shown floor 0 reached (covers_zero (level_of p.instance from))),
      legal_sessions p s o opened floor from sessions told reached each.1,
    )

-- the phases up to the k-th of a run that began at a grade, with the grade that was worked for
pub record AreServedUpto (p : Place) (o : Options) (opened : ℕ) (phases : List Phase) (k grade : ℕ) (reports : List PhaseReport) : Type 0 where
  pub legal : AreLegalPhases (case_from p o opened) 0 (take k phases) reports
  pub grade_is : grade ≡ grade_upto (case_from p o opened) 0 (take k phases)

pub served_more : (p : Place) → IsInstance p.instance → (o : Options) (opened : ℕ) (phases : List Phase) (k grade next from : ℕ) (reports more : List PhaseReport) (phase : Phase) (report : PhaseReport) →
    k < length phases → phase ≡ get_or phases k phase → AreServedUpto p o opened phases k grade reports →
    next ≡ max grade (max phase.target (greatest (all_worked_for false phase.sessions))) →
    HasReached p (max opened grade) from → AreEach (IsTold p o.walks from) phase.sessions report.sessions →
    IsLevelShown o.levels (reach_of p.instance p.limit next) report.level → more ≡ reports ++ report ∷ [] →
    AreServedUpto p o opened phases (k + 1) next more
served_more p s o opened phases k grade next from reports more phase report inside is so_far next_is reached told level pushed =
    let c : Case = case_from p o opened in
    let front : List Phase = take k phases in
    let longer : front ++ phase ∷ [] ≡ take (k + 1) phases = one_more phases k phase inside is in
    let grows : next ≡ grade_after c (grade_upto c 0 front) phase =
    next_is ∙ sym (grade_worked p o opened grade phase) ∙ ap (λ g. grade_after c g phase) so_far.grade_is in
    subst (AreServedUpto p o opened phases (k + 1) next) (sym pushed)
    (record {
      legal = subst (λ ps. AreLegalPhases c 0 ps (reports ++ report ∷ [])) longer
          (phases_pushed c 0 front reports phase report so_far.legal
          (subst (λ g. AreLegalSessions c (max opened g) phase.sessions report.sessions) so_far.grade_is
          (legal_sessions p s o opened (max opened grade) from phase.sessions report.sessions reached told))
          (subst (λ g. IsLevelShown o.levels (case_reach c g) report.level) grows level));
      grade_is = grows ∙ sym (grade_pushed c 0 front phase) ∙ ap (grade_upto c 0) longer;
    })

pub none_served : (p : Place) (o : Options) (opened : ℕ) (phases : List Phase) → AreServedUpto p o opened phases 0 0 []
none_served p o opened phases = record { legal = tt; grade_is = refl }

-- ---- the most sessions

pub most_more : (phases : List Phase) (k most : ℕ) (phase : Phase) → k < length phases → phase ≡ get_or phases k phase →
    All (λ (p : Phase). length p.sessions ≤ most) (take k phases) → (next : ℕ) → next ≡ max most (length phase.sessions) →
    All (λ (p : Phase). length p.sessions ≤ next) (take (k + 1) phases)
most_more phases k most phase inside is all next is_next =
    subst (All (λ (p : Phase). length p.sessions ≤ next)) (one_more phases k phase inside is)
    (All-push (λ (p : Phase). length p.sessions ≤ next) (take k phases) phase
    (All-weaker (λ (p : Phase). length p.sessions ≤ most) (λ (p : Phase). length p.sessions ≤ next) (λ p few. let low : length p.sessions ≤ most = few in let t : length p.sessions ≤ next = omega (arith, low, is_next) in t) (take k phases) all)
    (let t : length phase.sessions ≤ next = omega (arith, is_next) in t))

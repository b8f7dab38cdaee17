-- A report text is read line by line: what it owes for the laws of texts.
use Rattle.std.proofs.Common.{◌≡◌, ℕ, ◌+◌, true, List, [], ◌∷◌, ◌++◌, codes, None, Ok, Err, refl, sym, ap, subst}
use Rattle.std.specs.Prelude.{Result, IfOk}
use Rattle.std.proofs.lemmas.List.{append-nil}
use Rattle.ct_lines.specs.Texts.{text_of, end_words}
use Rattle.ct_lines.specs.Wording.{Spells, Runs, read_from}
use Rattle.ct_lines.specs.FaultLine.{IsFaultLine}
use Rattle.ct_text.specs.Pieces.{split}
use Rattle.ct_lines.specs.declared.stop.TextStop.{TextStop}
use Rattle.ct_lines.specs.Stops.{AtFault, Found}
use Rattle.ct_lines.proofs.TextLines.{AreSpelled}
use Rattle.ct_lines.proofs.LineWords.{spelled_line, spelled_append}
use Rattle.ct_lines.proofs.Machines.{Machine, Runs-append, one_value, ok_from_found, fault_from_found}
use Rattle.ct_session.specs.declared.lines.Line.TheVariants.{Answered}
use Rattle.ct_report.specs.declared.reports.PhaseReport.{PhaseReport}
use Rattle.ct_report.specs.declared.reports.Report.{Report}
use Rattle.ct_report.specs.ReportText.{title_words, answer_words, report_text}
use Rattle.ct_report.specs.Limits.{IsReport, IsReportText}
use Rattle.ct_report.specs.Grammar.{Stage, title, between, in_phase, in_session, in_answer, closed, one_more, phase_of, next_line, is_closed, closed_of}
use Rattle.ct_report.proofs.SaidLines.{Lines, said_phases, said_session, said}
use Rattle.ct_report.proofs.LineMore.{InLimits, adds, in_limits}
use Rattle.ct_report.proofs.SpelledLines.{spelled_answer, spelled_above, spelled_in_phase, spelled_in_session}
use Rattle.ct_report.proofs.ReadLines.{spells_title, ends_between, ends_phase, ends_session, ends_answer, reads_report}

-- ---- what was read is within the limits, and its lines lead to it

abbrev pub Good : Stage → Type 0
Good s = InLimits s × Runs next_line title (said s) s

says : (s t : Stage) (words : List (List ℕ)) → Good s → Spells (next_line s) words t → Good t × (said t ≡ said s ++ words ∷ [])
says s t words good spells =
    let a = adds s t words good.0 spells in
    ((a.0, subst (λ (lines : Lines). Runs next_line title lines t) (sym a.1) (Runs-append next_line title s t (said s) (words ∷ []) good.1 (t, spells, refl))), a.1)

are_spelled : (s : Stage) → Good s → AreSpelled (said s)
are_spelled title good = tt
are_spelled (between phases) good = spelled_above phases good.0
are_spelled (in_phase phases sessions) good = spelled_in_phase phases sessions good.0
are_spelled (in_session phases sessions lines) good = spelled_in_session phases sessions lines good.0
are_spelled (in_answer phases sessions lines answer) good = spelled_append (said_session phases sessions lines) (answer_words answer ∷ []) (spelled_in_session phases sessions lines good.0.0) (spelled_answer answer good.0.1, tt)
are_spelled (closed phases) good = spelled_append (said_phases phases) (end_words ∷ []) (spelled_above phases good.0) (spelled_line (codes "end") [] ((refl, refl), tt), tt)

-- ---- the end

End : Stage → Type 0
End s = (t : Stage) × (more : Lines) × Good t × (is_closed t ≡ true) × (said t ≡ said s ++ more)

end_from : (s : Stage) (phases : List PhaseReport) → Good s → Spells (next_line s) end_words (closed phases) → End s
unfolding End
end_from s phases good spells = let a = says s (closed phases) end_words good spells in (closed phases, end_words ∷ [], a.0, refl, a.1)

goes_on : (s : Stage) → Good s → (t : Stage) × (more : Lines) × Good t × (is_closed t ≡ true) × (said t ≡ said s ++ more)
unfolding End
goes_on title good =
    let a = says title (between []) title_words good spells_title in
    let b = says (between []) (closed []) end_words a.0 (ends_between []) in
    (closed [], title_words ∷ end_words ∷ [], b.0, refl, refl)
goes_on (between phases) good = end_from (between phases) phases good (ends_between phases)
goes_on (in_phase phases sessions) good = end_from (in_phase phases sessions) (one_more phases (phase_of sessions None)) good (ends_phase phases sessions)
goes_on (in_session phases sessions lines) good = end_from (in_session phases sessions lines) (one_more phases (phase_of (one_more sessions lines) None)) good (ends_session phases sessions lines)
goes_on (in_answer phases sessions lines answer) good = end_from (in_answer phases sessions lines answer) (one_more phases (phase_of (one_more sessions (one_more lines (Answered answer None))) None)) good (ends_answer phases sessions lines answer)
goes_on (closed phases) good = (closed phases, [], good, refl, sym (append-nil (said (closed phases))))

ends : (s t : Stage) (words : List (List ℕ)) → is_closed s ≡ true → Spells (next_line s) words t → ⊥
ends title t words closed_too h = cc
ends (between phases) t words closed_too h = cc
ends (in_phase phases sessions) t words closed_too h = cc
ends (in_session phases sessions lines) t words closed_too h = cc
ends (in_answer phases sessions lines answer) t words closed_too h = cc
ends (closed phases) t words closed_too h = h

fits : (s : Stage) → Good s → is_closed s ≡ true → IsReportText (text_of (said s))
unfolding report_text
fits title good closed_too = absurd cc
fits (between phases) good closed_too = absurd cc
fits (in_phase phases sessions) good closed_too = absurd cc
fits (in_session phases sessions lines) good closed_too = absurd cc
fits (in_answer phases sessions lines answer) good closed_too = absurd cc
fits (closed phases) good closed_too = (record { phases = phases }, record { count = good.0.count; phases = good.0.all }, refl)

some : (text : List ℕ) → IsReportText text → (s : Stage) × Good s × (is_closed s ≡ true) × (text ≡ text_of (said s))
unfolding report_text
some text (report, good, is) = (closed report.phases, (record { count = good.count; all = good.phases }, reads_report report good), refl, is)

pub report_machine : Machine Stage Good IsReportText
report_machine = record {
  start = title;
  next = next_line;
  is_closed = is_closed;
  said = said;
  begins = (tt, refl);
  none_said = refl;
  in_limits = in_limits;
  says = says;
  are_spelled = are_spelled;
  reached = λ s good. good.1;
  ends = ends;
  goes_on = goes_on;
  fits = fits;
  some = some;
}

-- ---- the laws for reports

report_of : List PhaseReport → Report
report_of ps = record { phases = ps }

pub one_report : (k l : Report) → IsReport k → IsReport l → report_text k ≡ report_text l → k ≡ l
unfolding report_text report_machine report_of
one_report k l good there is =
    let a : Good (closed k.phases) = (record { count = good.count; all = good.phases }, reads_report k good) in
    let b : Good (closed l.phases) = (record { count = there.count; all = there.phases }, reads_report l there) in
    same (one_value report_machine (closed k.phases) (closed l.phases) a b refl is)
  where
    inner : {ps qs : List PhaseReport} → closed ps ≡ closed qs → ps ≡ qs
    inner e = cc

    same : {ps qs : List PhaseReport} → closed ps ≡ closed qs → report_of ps ≡ report_of qs
    same e = ap report_of (inner e)

pub report_from_found : (bytes : List ℕ) (answer : Result Report TextStop) → Found closed_of answer (read_from next_line is_closed 1 title (split 10 bytes)) → IfOk answer (λ r. IsReport r × (bytes ≡ report_text r))
unfolding report_machine report_text
report_from_found bytes (Ok r) found =
    let p = ok_from_found report_machine closed_of bytes (Ok r) found in (record { count = p.0.0.count; phases = p.0.0.all }, p.1)
report_from_found bytes (Err stop) found = tt

pub report_fault : (bytes : List ℕ) (answer : Result Report TextStop) → Found closed_of answer (read_from next_line is_closed 1 title (split 10 bytes)) → AtFault (IsFaultLine IsReportText bytes) answer
unfolding report_machine
report_fault bytes answer found = fault_from_found report_machine closed_of bytes answer found

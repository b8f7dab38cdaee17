-- No space and no LF stands in a word of a report's lines.
use Rattle.std.proofs.Common.{ℕ, ◌+◌, ◌*◌, ◌<◌, ◌≤◌, ◌^◌, List, [], ◌∷◌, ◌++◌, length, map, decimal, codes, Option, Some, None, refl, arith, lit<}
use Rattle.std.specs.Prelude.{unsigned_abs}
use Rattle.std.specs.Prelude.{All as Each}
use Rattle.std.specs.List.{flat_map}
use Rattle.std.specs.Fmt.{signed_decimal}
use Rattle.std.proofs.lemmas.List.Elements.{All-head, All-tail, recursion_from_All}
use Rattle.ct_vectors.specs.declared.limits.TheConstants.{COST_LIMIT, GRADE_LIMIT, JOB_GRADE_LIMIT}
use Rattle.ct_lines.specs.Texts.{IsStep, walk_words}
use Rattle.ct_lines.proofs.TextLines.{IsSpelled, AreSpelled}
use Rattle.ct_lines.proofs.LineWords.{AreWords, words_append, word_decimal, words_numbers, words_signed, words_walk, spelled_line, spelled_append}
use Rattle.ct_version.specs.declared.answers.Answer.{Answer}
use Rattle.ct_version.specs.declared.answers.Answer.TheVariants.{Optimum, Infeasible}
use Rattle.ct_version.specs.declared.finished.Finished.{Finished}
use Rattle.ct_version.specs.declared.finished.Finished.TheVariants.{Upto, All}
use Rattle.ct_session.specs.declared.lines.Line.{Line}
use Rattle.ct_session.specs.declared.lines.Line.TheVariants.{Answered, NotYet, Full}
use Rattle.ct_report.specs.declared.reports.PhaseReport.{PhaseReport}
use Rattle.ct_report.specs.ReportText.{phase_words, session_words, answer_words, walk_line_words, line_lines, sessions_lines, level_lines, phase_lines, phases_lines}
use Rattle.ct_report.specs.Limits.{IsAnswer, IsLine, IsLevel, IsPhase}
use Rattle.ct_report.proofs.SaidLines.{said_phases, said_phase, said_session}
use Rattle.ct_report.proofs.LineMore.{ArePhases, AreSessions, AreAnswers}

spelled_number : (w : List ℕ) (n : ℕ) → AreWords (w ∷ []) → n < 2 ^ 64 → IsSpelled (w ∷ decimal n ∷ [])
spelled_number w n h fits = spelled_line w (decimal n ∷ []) (h.0, (word_decimal n (omega arith), tt))

pub spelled_answer : (answer : Answer) → IsAnswer answer → IsSpelled (answer_words answer)
spelled_answer (Optimum point costs) h =
    let money = words_signed (COST_LIMIT * JOB_GRADE_LIMIT) costs (lit< tt) (recursion_from_All (λ n. unsigned_abs n ≤ COST_LIMIT * JOB_GRADE_LIMIT) costs h.2) in
    let numbers = words_numbers GRADE_LIMIT point (lit< tt) (recursion_from_All (λ n. n ≤ GRADE_LIMIT) point h.5) in
    spelled_line (codes "optimum") (map signed_decimal costs ++ (codes "at" ∷ map decimal point)) ((refl, refl), words_append (map signed_decimal costs) (codes "at" ∷ map decimal point) money ((refl, refl), numbers))
spelled_answer (Infeasible short) h = spelled_line (codes "infeasible") (codes "short" ∷ decimal short ∷ []) ((refl, refl), ((refl, refl), (word_decimal short (omega (arith, h.1)), tt)))

spelled_walk : (steps : List (ℕ × ℕ)) → Each IsStep steps → IsSpelled (walk_line_words steps)
spelled_walk steps h = spelled_line (codes "walk") (walk_words steps) ((refl, refl), words_walk steps (recursion_from_All IsStep steps h))

spelled_line_lines : (line : Line) → IsLine line → AreSpelled (line_lines line)
spelled_line_lines (Answered answer None) h = (spelled_answer answer h.0, tt)
spelled_line_lines (Answered answer (Some steps)) h = (spelled_answer answer h.0, (spelled_walk steps h.1, tt))
spelled_line_lines (NotYet finished) h = (spelled_number (codes "notyet") finished ((refl, refl), tt) (omega arith), tt)
spelled_line_lines (Full grade) h = (spelled_number (codes "full") grade ((refl, refl), tt) (omega (arith, h.1)), tt)

spelled_lines : (lines : List Line) → Each IsLine lines → AreSpelled (flat_map line_lines lines)
spelled_lines [] h = tt
spelled_lines (line ∷ lines) h = spelled_append (line_lines line) (flat_map line_lines lines) (spelled_line_lines line (All-head IsLine line lines h)) (spelled_lines lines (All-tail IsLine line lines h))

spelled_sessions : (n : ℕ) (sessions : List (List Line)) → n + length sessions < 2 ^ 64 → Each (Each IsLine) sessions → AreSpelled (sessions_lines n sessions)
spelled_sessions n [] small h = tt
spelled_sessions n (lines ∷ sessions) small h = (
  spelled_number (codes "session") n ((refl, refl), tt) (omega arith),
  spelled_append (flat_map line_lines lines) (sessions_lines (n + 1) sessions) (spelled_lines lines (All-head (Each IsLine) lines sessions h)) (spelled_sessions (n + 1) sessions (omega arith) (All-tail (Each IsLine) lines sessions h)),
)

spelled_level : (level : Option Finished) → IsLevel level → AreSpelled (level_lines level)
spelled_level None h = tt
spelled_level (Some All) h = (spelled_line (codes "level") (codes "all" ∷ []) ((refl, refl), ((refl, refl), tt)), tt)
spelled_level (Some (Upto level)) h = (spelled_number (codes "level") level ((refl, refl), tt) (omega arith), tt)

spelled_phases : (n : ℕ) (phases : List PhaseReport) → n + length phases < 2 ^ 64 → Each IsPhase phases → AreSpelled (phases_lines n phases)
spelled_phases n [] small h = tt
spelled_phases n (phase ∷ phases) small h =
    let p = All-head IsPhase phase phases h in
    spelled_append (phase_lines n phase) (phases_lines (n + 1) phases)
    (spelled_number (codes "phase") n ((refl, refl), tt) (omega arith), spelled_append (sessions_lines 1 phase.sessions) (level_lines phase.level) (spelled_sessions 1 phase.sessions (omega (arith, p.count)) p.sessions) (spelled_level phase.level p.level))
    (spelled_phases (n + 1) phases (omega arith) (All-tail IsPhase phase phases h))

pub spelled_above : (phases : List PhaseReport) → ArePhases phases → AreSpelled (said_phases phases)
spelled_above phases h = (spelled_line (codes "report") (codes "1" ∷ []) ((refl, refl), ((refl, refl), tt)), spelled_phases 1 phases (omega (arith, h.count)) h.all)

pub spelled_in_phase : (phases : List PhaseReport) (sessions : List (List Line)) → AreSessions phases sessions → AreSpelled (said_phase phases sessions)
spelled_in_phase phases sessions h =
    spelled_append (said_phases phases) (phase_words (length phases + 1) ∷ sessions_lines 1 sessions) (spelled_above phases h.above)
    (spelled_number (codes "phase") (length phases + 1) ((refl, refl), tt) (omega (arith, h.room)), spelled_sessions 1 sessions (omega (arith, h.count)) h.all)

pub spelled_in_session : (phases : List PhaseReport) (sessions : List (List Line)) (lines : List Line) → AreAnswers phases sessions lines → AreSpelled (said_session phases sessions lines)
spelled_in_session phases sessions lines h =
    spelled_append (said_phase phases sessions) (session_words (length sessions + 1) ∷ flat_map line_lines lines) (spelled_in_phase phases sessions h.above)
    (spelled_number (codes "session") (length sessions + 1) ((refl, refl), tt) (omega (arith, h.room)), spelled_lines lines h.all)

-- The lines that were read of a report so far, and what is added at their end.
use Rattle.std.proofs.Common.{◌≡◌, ℕ, suc, ◌+◌, List, [], ◌∷◌, ◌++◌, length, Option, None, sym, ap, ◌∙◌, arith, append_assoc}
use Rattle.std.specs.List.{flat_map}
use Rattle.std.proofs.lemmas.List.{append-nil}
use Rattle.ct_lines.specs.Texts.{end_words}
use Rattle.ct_version.specs.declared.finished.Finished.{Finished}
use Rattle.ct_session.specs.declared.lines.Line.{Line}
use Rattle.ct_report.specs.declared.reports.PhaseReport.{PhaseReport}
use Rattle.ct_report.specs.ReportText.{title_words, phase_words, session_words, answer_words, line_lines, sessions_lines, level_lines, phase_lines, phases_lines}
use Rattle.ct_report.specs.Grammar.{Stage, title, between, in_phase, in_session, in_answer, closed, one_more, phase_of}

abbrev pub Lines : Type 0
Lines = List (List (List ℕ))

-- ---- the lines that were read so far

abbrev pub said_phases : List PhaseReport → Lines
said_phases phases = title_words ∷ phases_lines 1 phases

abbrev pub said_phase : List PhaseReport → List (List Line) → Lines
said_phase phases sessions = said_phases phases ++ (phase_words (length phases + 1) ∷ sessions_lines 1 sessions)

abbrev pub said_session : List PhaseReport → List (List Line) → List Line → Lines
said_session phases sessions lines = said_phase phases sessions ++ (session_words (length sessions + 1) ∷ flat_map line_lines lines)

abbrev pub said : Stage → Lines
said title = []
said (between phases) = said_phases phases
said (in_phase phases sessions) = said_phase phases sessions
said (in_session phases sessions lines) = said_session phases sessions lines
said (in_answer phases sessions lines answer) = said_session phases sessions lines ++ answer_words answer ∷ []
said (closed phases) = said_phases phases ++ end_words ∷ []

-- ---- what is added at the end

pub flat_map_push : (lines : List Line) (line : Line) → flat_map line_lines (lines ++ line ∷ []) ≡ flat_map line_lines lines ++ line_lines line
flat_map_push [] line = append-nil (line_lines line)
flat_map_push (x ∷ lines) line = ap (λ (rest : Lines). line_lines x ++ rest) (flat_map_push lines line) ∙ sym (append_assoc (line_lines x) (flat_map line_lines lines) (line_lines line))

pub sessions_push : (n : ℕ) (sessions : List (List Line)) (lines : List Line) → sessions_lines n (sessions ++ lines ∷ []) ≡ sessions_lines n sessions ++ (session_words (length sessions + n) ∷ flat_map line_lines lines)
sessions_push n [] lines =
    let same : 0 + n ≡ n = omega arith in
    rw same (ap (λ (rest : Lines). session_words n ∷ rest) (append-nil (flat_map line_lines lines)))
sessions_push n (x ∷ sessions) lines =
    let next : suc (length sessions) + n ≡ length sessions + (n + 1) = omega arith in
    rw next (ap (λ (rest : Lines). session_words n ∷ (flat_map line_lines x ++ rest)) (sessions_push (n + 1) sessions lines)
    ∙ ap (λ (rest : Lines). session_words n ∷ rest) (sym (append_assoc (flat_map line_lines x) (sessions_lines (n + 1) sessions) (session_words (length sessions + (n + 1)) ∷ flat_map line_lines lines))))

pub phases_push : (n : ℕ) (phases : List PhaseReport) (phase : PhaseReport) → phases_lines n (phases ++ phase ∷ []) ≡ phases_lines n phases ++ phase_lines (length phases + n) phase
phases_push n [] phase =
    let same : 0 + n ≡ n = omega arith in
    rw same (append-nil (phase_lines n phase))
phases_push n (x ∷ phases) phase =
    let next : suc (length phases) + n ≡ length phases + (n + 1) = omega arith in
    rw next (ap (λ (rest : Lines). phase_lines n x ++ rest) (phases_push (n + 1) phases phase)
    ∙ sym (append_assoc (phase_lines n x) (phases_lines (n + 1) phases) (phase_lines (length phases + (n + 1)) phase)))

-- a phase that is over
pub said_level : (phases : List PhaseReport) (sessions : List (List Line)) (level : Option Finished) → said_phases (one_more phases (phase_of sessions level)) ≡ said_phase phases sessions ++ level_lines level
said_level phases sessions level =
    ap (λ (rest : Lines). title_words ∷ rest) (phases_push 1 phases (phase_of sessions level))
    ∙ sym (append_assoc (said_phases phases) (phase_words (length phases + 1) ∷ sessions_lines 1 sessions) (level_lines level))

pub said_no_level : (phases : List PhaseReport) (sessions : List (List Line)) → said_phases (one_more phases (phase_of sessions None)) ≡ said_phase phases sessions
said_no_level phases sessions = said_level phases sessions None ∙ append-nil (said_phase phases sessions)

-- a session that is over
pub said_over : (phases : List PhaseReport) (sessions : List (List Line)) (lines : List Line) → said_phase phases (one_more sessions lines) ≡ said_session phases sessions lines
said_over phases sessions lines =
    ap (λ (rest : Lines). said_phases phases ++ (phase_words (length phases + 1) ∷ rest)) (sessions_push 1 sessions lines)
    ∙ sym (append_assoc (said_phases phases) (phase_words (length phases + 1) ∷ sessions_lines 1 sessions) (session_words (length sessions + 1) ∷ flat_map line_lines lines))

pub said_line : (phases : List PhaseReport) (sessions : List (List Line)) (lines : List Line) (line : Line) → said_session phases sessions (one_more lines line) ≡ said_session phases sessions lines ++ line_lines line
said_line phases sessions lines line =
    ap (λ (rest : Lines). said_phase phases sessions ++ (session_words (length sessions + 1) ∷ rest)) (flat_map_push lines line)
    ∙ sym (append_assoc (said_phase phases sessions) (session_words (length sessions + 1) ∷ flat_map line_lines lines) (line_lines line))

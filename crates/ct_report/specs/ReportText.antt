-- The text of a report.
use Rattle.std.specs.Prelude.{ℕ, ◌+◌, List, [], ◌∷◌, ◌++◌, map, decimal, codes, Option, Some, None}
use Rattle.std.specs.List.{flat_map}
use Rattle.std.specs.Fmt.{signed_decimal}
use Rattle.ct_lines.specs.Texts.{text_of, walk_words, end_words}
use Rattle.ct_version.specs.declared.answers.Answer.{Answer}
use Rattle.ct_version.specs.declared.answers.Answer.TheVariants.{Optimum, Infeasible}
use Rattle.ct_version.specs.declared.finished.Finished.{Finished}
use Rattle.ct_version.specs.declared.finished.Finished.TheVariants.{Upto, All}
use Rattle.ct_session.specs.declared.lines.Line.{Line}
use Rattle.ct_session.specs.declared.lines.Line.TheVariants.{Answered, NotYet, Full}
use Rattle.ct_report.specs.declared.reports.PhaseReport.{PhaseReport}
use Rattle.ct_report.specs.declared.reports.Report.{Report}

-- ---- the words of each line

abbrev pub title_words : List (List ℕ)
title_words = codes "report" ∷ codes "1" ∷ []

abbrev pub phase_words : ℕ → List (List ℕ)
phase_words number = codes "phase" ∷ decimal number ∷ []

abbrev pub session_words : ℕ → List (List ℕ)
session_words number = codes "session" ∷ decimal number ∷ []

abbrev pub answer_words : Answer → List (List ℕ)
answer_words (Optimum point costs) = codes "optimum" ∷ (map signed_decimal costs ++ (codes "at" ∷ map decimal point))
answer_words (Infeasible short) = codes "infeasible" ∷ codes "short" ∷ decimal short ∷ []

abbrev pub walk_line_words : List (ℕ × ℕ) → List (List ℕ)
walk_line_words steps = codes "walk" ∷ walk_words steps

abbrev pub level_words : Finished → List (List ℕ)
level_words (Upto level) = codes "level" ∷ decimal level ∷ []
level_words All = codes "level" ∷ codes "all" ∷ []

-- ---- the lines

-- a walk stands below the answer that it found
abbrev pub answer_lines : Answer → Option (List (ℕ × ℕ)) → List (List (List ℕ))
answer_lines answer None = answer_words answer ∷ []
answer_lines answer (Some steps) = answer_words answer ∷ walk_line_words steps ∷ []

abbrev pub line_lines : Line → List (List (List ℕ))
line_lines (Answered answer walk) = answer_lines answer walk
line_lines (NotYet finished) = (codes "notyet" ∷ decimal finished ∷ []) ∷ []
line_lines (Full grade) = (codes "full" ∷ decimal grade ∷ []) ∷ []

-- sessions, numbered from here on
abbrev pub sessions_lines : ℕ → List (List Line) → List (List (List ℕ))
sessions_lines number [] = []
sessions_lines number (lines ∷ sessions) = session_words number ∷ (flat_map line_lines lines ++ sessions_lines (number + 1) sessions)

abbrev pub level_lines : Option Finished → List (List (List ℕ))
level_lines None = []
level_lines (Some level) = level_words level ∷ []

abbrev pub phase_lines : ℕ → PhaseReport → List (List (List ℕ))
phase_lines number phase = phase_words number ∷ (sessions_lines 1 phase.sessions ++ level_lines phase.level)

-- phases, numbered from here on
abbrev pub phases_lines : ℕ → List PhaseReport → List (List (List ℕ))
phases_lines number [] = []
phases_lines number (phase ∷ phases) = phase_lines number phase ++ phases_lines (number + 1) phases

abbrev pub report_lines : Report → List (List (List ℕ))
report_lines report = title_words ∷ (phases_lines 1 report.phases ++ end_words ∷ [])

unfoldable pub report_text : Report → List ℕ
report_text report = text_of (report_lines report)

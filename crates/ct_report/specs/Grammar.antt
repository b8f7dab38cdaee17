-- Which line may stand next in a report text.
use Rattle.std.specs.Prelude.{ℕ, ◌+◌, ◌*◌, ◌^◌, nat_lt, Bool, true, false, if◌then◌else◌, List, [], ◌∷◌, ◌++◌, length, codes, decimal, Option, Some, None}
use Rattle.ct_vectors.specs.declared.limits.TheConstants.{COLUMN_LIMIT, COST_ROW_LIMIT, COST_LIMIT, GRADE_LIMIT, JOB_GRADE_LIMIT}
use Rattle.ct_lines.specs.Wording.{Wording, done, barred, word, number, rest, signeds, walk, fork, ◌then◌}
use Rattle.ct_version.specs.declared.answers.Answer.{Answer}
use Rattle.ct_version.specs.declared.answers.Answer.TheVariants.{Optimum, Infeasible}
use Rattle.ct_version.specs.declared.finished.Finished.{Finished}
use Rattle.ct_version.specs.declared.finished.Finished.TheVariants.{Upto, All}
use Rattle.ct_session.specs.declared.lines.Line.{Line}
use Rattle.ct_session.specs.declared.lines.Line.TheVariants.{Answered, NotYet, Full}
use Rattle.ct_report.specs.declared.reports.PhaseReport.{PhaseReport}
use Rattle.ct_report.specs.declared.reports.Report.{Report}
use Rattle.ct_report.specs.declared.stage.Stage.{Stage as Reading}
use Rattle.ct_report.specs.declared.stage.Stage.TheVariants as reading

-- what was read, as lists: whole phases, the whole sessions of the phase that is read, the whole lines of its session, and
-- an answer that a walk may follow
pub data Stage : Type 0 where
  title : Stage
  between : List PhaseReport → Stage
  in_phase : List PhaseReport → List (List Line) → Stage
  in_session : List PhaseReport → List (List Line) → List Line → Stage
  in_answer : List PhaseReport → List (List Line) → List Line → Answer → Stage
  closed : List PhaseReport → Stage

abbrev pub seen : Reading → Stage
seen reading.Title = title
seen (reading.Between phases) = between phases.items
seen (reading.InPhase phases sessions) = in_phase phases.items sessions.items
seen (reading.InSession phases sessions lines) = in_session phases.items sessions.items lines.items
seen (reading.InAnswer phases sessions lines answer) = in_answer phases.items sessions.items lines.items answer
seen (reading.Closed phases) = closed phases.items

abbrev pub one_more : {X : Type 0} → List X → X → List X
one_more xs x = xs ++ x ∷ []

abbrev pub phase_of : List (List Line) → Option Finished → PhaseReport
phase_of sessions level = record { sessions = sessions; level = level }

-- the number of the next of these, from 1
abbrev pub next_number : {X : Type 0} → List X → List ℕ
next_number xs = decimal (length xs + 1)

-- another one may follow
abbrev pub if_room : {X A : Type 0} → List X → Wording A → Wording A
if_room xs next = if nat_lt (length xs + 1) (2 ^ 62) then next else barred

-- between phases: another phase, or the end
unfoldable pub between_line : List PhaseReport → Wording Stage
between_line phases =
    fork (codes "phase") (if_room phases (word (next_number phases) then done (in_phase phases []))) then
    word (codes "end") then done (closed phases)

-- in a phase: another session, or its level, or what may stand after it
unfoldable pub phase_line : List PhaseReport → List (List Line) → Wording Stage
phase_line phases sessions =
    fork (codes "session") (if_room sessions (word (next_number sessions) then done (in_session phases sessions []))) then
    fork (codes "level") (fork (codes "all") (done (between (one_more phases (phase_of sessions (Some All))))) then
    number 0 JOB_GRADE_LIMIT then λ level. done (between (one_more phases (phase_of sessions (Some (Upto level)))))) then
    between_line (one_more phases (phase_of sessions None))

-- after `optimum`
unfoldable pub optimum_line : List PhaseReport → List (List Line) → List Line → Wording Stage
optimum_line phases sessions lines =
    signeds COST_ROW_LIMIT (COST_LIMIT * JOB_GRADE_LIMIT) (codes "at") then λ costs.
    rest COLUMN_LIMIT GRADE_LIMIT then λ point. done (in_answer phases sessions lines (Optimum point costs))

-- in a session: another line, or what may stand after it
unfoldable pub session_line : List PhaseReport → List (List Line) → List Line → Wording Stage
session_line phases sessions lines =
    fork (codes "optimum") (optimum_line phases sessions lines) then
    fork (codes "infeasible") (word (codes "short") then number 1 GRADE_LIMIT then λ short. done (in_answer phases sessions lines (Infeasible short))) then
    fork (codes "notyet") (number 0 JOB_GRADE_LIMIT then λ finished. done (in_session phases sessions (one_more lines (NotYet finished)))) then
    fork (codes "full") (number 1 GRADE_LIMIT then λ grade. done (in_session phases sessions (one_more lines (Full grade)))) then
    phase_line phases (one_more sessions lines)

-- after an answer: its walk, or what may stand after it
unfoldable pub answer_line : List PhaseReport → List (List Line) → List Line → Answer → Wording Stage
answer_line phases sessions lines answer =
    fork (codes "walk") (walk then λ steps. done (in_session phases sessions (one_more lines (Answered answer (Some steps))))) then
    session_line phases sessions (one_more lines (Answered answer None))

abbrev pub next_line : Stage → Wording Stage
next_line title = word (codes "report") then word (codes "1") then done (between [])
next_line (between phases) = between_line phases
next_line (in_phase phases sessions) = phase_line phases sessions
next_line (in_session phases sessions lines) = session_line phases sessions lines
next_line (in_answer phases sessions lines answer) = answer_line phases sessions lines answer
next_line (closed phases) = barred

abbrev pub is_closed : Stage → Bool
is_closed (closed phases) = true
is_closed _ = false

-- what was read of the text of a report, once it is closed
abbrev pub closed_of : Report → Stage
closed_of r = closed r.phases

-- What a run of a form is of, and what goes between it and a run of its equality form.
use Rattle.std.specs.Prelude.{ℕ, Bool, List, ◌++◌, map, take}
use Rattle.ct_version.specs.declared.answers.Answer.{Answer}
use Rattle.ct_version.specs.declared.answers.Answer.TheVariants.{Optimum, Infeasible}
use Rattle.ct_session.specs.declared.lines.Line.{Line}
use Rattle.ct_session.specs.declared.lines.Line.TheVariants.{Answered, NotYet, Full}
use Rattle.ct_input.specs.declared.script.Request.{Request}
use Rattle.ct_input.specs.declared.script.Request.TheVariants.{Ask, Solve}
use Rattle.ct_input.specs.declared.script.Phase.{Phase}
use Rattle.ct_input.specs.declared.script.Script.{Script}
use Rattle.ct_report.specs.declared.reports.PhaseReport.{PhaseReport}
use Rattle.ct_report.specs.declared.reports.Report.{Report}
use Rattle.ct_legal.specs.Cases.{Case}
use Rattle.ct_form.specs.Forms.{Form, given_in}
use Rattle.ct_form.specs.EqualityForms.{equal_of, right_for, form_answer_of}

-- a run of a form: it works on the equality form, whose right-hand side for b has the bounds behind, and shows the form's answer
abbrev pub form_case : Form → ℕ → Bool → Bool → ℕ → Case
form_case f limit walks levels opened =
    record { instance = equal_of f; right = right_for f; shown = form_answer_of f; limit = limit; walks = walks; levels = levels; opened = opened }

-- ---- scripts

-- with the bounds behind the numbers of each request
abbrev pub request_with : List ℕ → Request → Request
request_with given (Ask b) = Ask (b ++ given)
request_with given (Solve b) = Solve (b ++ given)

abbrev pub phase_with : List ℕ → Phase → Phase
phase_with given phase = record { target = phase.target; sessions = map (map (request_with given)) phase.sessions }

abbrev pub script_with : List ℕ → Script → Script
script_with given script = record { phases = map (phase_with given) script.phases }

-- the script of the equality form for a script of the form
abbrev pub widened : Form → Script → Script
widened f script = script_with (given_in f.bounds) script

-- ---- reports

-- with the first n numbers of each point alone
abbrev pub trimmed_answer : ℕ → Answer → Answer
trimmed_answer n (Optimum point costs) = Optimum (take n point) costs
trimmed_answer n (Infeasible short) = Infeasible short

abbrev pub trimmed_line : ℕ → Line → Line
trimmed_line n (Answered answer walk) = Answered (trimmed_answer n answer) walk
trimmed_line n (NotYet finished) = NotYet finished
trimmed_line n (Full grade) = Full grade

abbrev pub trimmed_phase : ℕ → PhaseReport → PhaseReport
trimmed_phase n told = record { sessions = map (map (trimmed_line n)) told.sessions; level = told.level }

abbrev pub trimmed : ℕ → Report → Report
trimmed n report = record { phases = map (trimmed_phase n) report.phases }

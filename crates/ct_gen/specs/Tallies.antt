-- What the lines of a report add up to.
use Rattle.std.specs.Prelude.{ℕ, ℤ, pos, ◌+ℤ◌, ◌+◌, ◌*◌, ◌≤◌, nat_abs, Bool, true, false, List, [], ◌∷◌, length, count_by}
use Rattle.std.specs.List.{flat_map}
use Rattle.ct_vectors.specs.declared.limits.TheConstants.{COLUMN_LIMIT, COST_LIMIT, JOB_GRADE_LIMIT}
use Rattle.ct_version.specs.declared.answers.Answer.TheVariants.{Optimum, Infeasible}
use Rattle.ct_version.specs.declared.finished.Finished.{Finished}
use Rattle.ct_session.specs.declared.lines.Line.{Line}
use Rattle.ct_session.specs.declared.lines.Line.TheVariants.{Answered, NotYet, Full}
use Rattle.ct_report.specs.declared.reports.PhaseReport.{PhaseReport}
use Rattle.ct_report.specs.declared.reports.Report.{Report}
use Rattle.ct_gen.specs.declared.tally.Tally.{Tally}
use Rattle.ct_gen.specs.declared.summary.Summary.{Summary}

-- the lines of all sessions of a phase, in order
abbrev pub phase_lines : PhaseReport → List Line
phase_lines phase = flat_map (λ lines. lines) phase.sessions

-- all lines of a report in order
abbrev pub lines_of : Report → List Line
lines_of report = flat_map phase_lines report.phases

abbrev pub is_optimum : Line → Bool
is_optimum (Answered (Optimum point costs) walk) = true
is_optimum line = false

abbrev pub is_infeasible : Line → Bool
is_infeasible (Answered (Infeasible short) walk) = true
is_infeasible line = false

abbrev pub is_full : Line → Bool
is_full (Full grade) = true
is_full line = false

abbrev pub first_of : List ℤ → ℤ
first_of [] = pos 0
first_of (cost ∷ costs) = cost

-- the first cost of an optimum
abbrev pub cost_of : Line → ℤ
cost_of (Answered (Optimum point costs) walk) = first_of costs
cost_of line = pos 0

abbrev pub cost_sum : List Line → ℤ
cost_sum [] = pos 0
cost_sum (line ∷ lines) = cost_of line +ℤ cost_sum lines

abbrev pub tally_of : List Line → Tally
tally_of lines = record {
  requests = length lines;
  optimum = count_by is_optimum lines;
  infeasible = count_by is_infeasible lines;
  full = count_by is_full lines;
  cost = cost_sum lines;
}

abbrev pub summary_of : ℕ → Tally → ℕ → Finished → Summary
summary_of number tally moves level = record {
  number = number;
  requests = tally.requests;
  optimum = tally.optimum;
  infeasible = tally.infeasible;
  full = tally.full;
  cost = tally.cost;
  moves = moves;
  level = level;
}

-- no more than a point can cost whose coordinates are within the limit of what may come up
abbrev pub HasCost : Line → Type 0
HasCost line = nat_abs (cost_of line) ≤ COLUMN_LIMIT * (COST_LIMIT * JOB_GRADE_LIMIT)

-- two tallies together
abbrev pub plus : Tally → Tally → Tally
plus a b = record {
  requests = a.requests + b.requests;
  optimum = a.optimum + b.optimum;
  infeasible = a.infeasible + b.infeasible;
  full = a.full + b.full;
  cost = a.cost +ℤ b.cost;
}

-- no count is above that of the requests, and each request adds one cost at most
pub record IsTally (t : Tally) : Type 0 where
  pub optimum : t.optimum ≤ t.requests
  pub infeasible : t.infeasible ≤ t.requests
  pub full : t.full ≤ t.requests
  pub cost : nat_abs t.cost ≤ t.requests * (COLUMN_LIMIT * (COST_LIMIT * JOB_GRADE_LIMIT))

-- What a check says of a ledger, and what it says on the way.
use Rattle.std.specs.Prelude.{ℕ, ◌≡◌, ◌≤◌, Option, Some, None, List, length}
use Rattle.ct_instance.specs.Instance.{Problem}
use Rattle.ct_instance.specs.TestSet.{Binomial}
use Rattle.ct_vectors.specs.declared.limits.TheConstants.{GRADE_LIMIT}
use Rattle.ct_instance.specs.declared.jobs.Job.{Job}
use Rattle.ct_instance.specs.Jobs.{IsJob, job_grade_of}
use Rattle.ct_ledger.specs.Parts.{LedgerParts}
use Rattle.ct_walk.specs.declared.faults.MoveFault.{MoveFault}
use Rattle.ct_walk.specs.declared.faults.MoveFault.TheVariants as fault
use Rattle.ct_checker.specs.declared.verdicts.Reason.{Reason}
use Rattle.ct_checker.specs.declared.verdicts.Reason.TheVariants.{Grade, Degree, Order}
use Rattle.ct_checker.specs.declared.verdicts.Verdict.{Verdict}
use Rattle.ct_checker.specs.declared.verdicts.Verdict.TheVariants.{Accepted, Refused}
use Rattle.ct_checker.specs.declared.stops.CheckStop.{CheckStop}
use Rattle.ct_checker.specs.declared.stops.CheckStop.TheVariants as stop
use Rattle.ct_checker.specs.Refusals.{first_refusal_of}

-- accepted with grade and number of moves, or the first refused line
abbrev pub verdict_of : Problem → LedgerParts → Verdict
verdict_of i l = verdict (first_refusal_of i l)
  where
    verdict : Option (ℕ × Reason) → Verdict
    verdict None = Accepted l.grade (length l.moves)
    verdict (Some r) = Refused r.0 r.1

abbrev pub IsAcceptance : Verdict → Type 0
IsAcceptance (Accepted grade moves) = Unit {0}
IsAcceptance (Refused line reason) = ⊥

abbrev pub as_move : List ℕ × List ℕ → Binomial
as_move m = record { head = m.0; tail = m.1 }

-- a check that ends with a refused line ends with this one
abbrev pub IsRefusedBy : Option (ℕ × Reason) → CheckStop → Type 0
IsRefusedBy first (stop.Refused line reason) = first ≡ Some (line, reason)
IsRefusedBy first stop.Memory = Unit {0}

-- why a move with this fault is refused
abbrev pub reason_for : MoveFault → Reason
reason_for fault.Grade = Grade
reason_for fault.Degree = Degree
reason_for fault.Order = Order

-- a job whose ends may be walked from
pub record IsJobWithin (i : Problem) (ms : List Binomial) (j : Job) : Type 0 where
  pub job : IsJob i ms j
  pub grade : job_grade_of i ms j ≤ GRADE_LIMIT

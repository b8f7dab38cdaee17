-- What is resumed from a ledger, and why nothing is.
use Rattle.std.specs.Prelude.{ℕ, ◌-◌, ◌≤◌, ◌≡◌, Bool, nat_lt, Option, Some, None, List, length}
use Rattle.ct_instance.specs.Instance.{Problem, grade_of}
use Rattle.ct_instance.specs.TestSet.{Binomial, test_list}
use Rattle.ct_instance.specs.Reach.{full_grade_up_to}
use Rattle.ct_ledger.specs.Parts.{LedgerParts}
use Rattle.ct_checker.specs.declared.stops.CheckStop.{CheckStop}
use Rattle.ct_checker.specs.declared.stops.CheckStop.TheVariants as check
use Rattle.ct_checker.specs.Accepted.{moves_of, IsAccepted}
use Rattle.ct_checker.specs.Refusals.{first_refusal_of}
use Rattle.ct_resume.specs.declared.resumed.Resumed.{Resumed}
use Rattle.ct_resume.specs.declared.resumed.ResumeStop.{ResumeStop}
use Rattle.ct_resume.specs.declared.resumed.ResumeStop.TheVariants.{Refused, NotReduced, Memory}
use Rattle.ct_resume.specs.Reduced.{IsReduced, IsFirstUnreduced}

-- the grade before the full grade where there is one, and else g
abbrev pub grade_before : ℕ → Option ℕ → ℕ
grade_before g None = g
grade_before g (Some f) = f - 1

-- the head has a smaller grade than f
abbrev pub is_under : Problem → ℕ → Binomial → Bool
is_under i f m = nat_lt (grade_of i.columns m.head) f

-- the ledger is accepted and reduced; the grade is its own, or the one before the full grade; the moves are the test list
-- of that grade
pub record IsResumed (i : Problem) (l : LedgerParts) (limit : ℕ) (r : Resumed) : Type 0 where
  pub accepted : IsAccepted i l
  pub reduced : IsReduced i (moves_of l)
  pub grade : r.grade ≡ grade_before l.grade (full_grade_up_to i limit l.grade)
  pub instance : r.moves.instance ≡ i
  pub list : r.moves.moves ≡ test_list i r.grade
  pub most : length r.moves.moves ≤ limit

-- a refused ledger has this first refused line, and an accepted one isn't reduced first at this number
abbrev pub IsResumeStop : Problem → LedgerParts → ResumeStop → Type 0
IsResumeStop i l (Refused line reason) = first_refusal_of i l ≡ Some (line, reason)
IsResumeStop i l (NotReduced number) = IsAccepted i l × IsFirstUnreduced i (moves_of l) number
IsResumeStop i l Memory = Unit {0}

-- what a check that stopped stops
abbrev pub stop_after : CheckStop → ResumeStop
stop_after (check.Refused line reason) = Refused line reason
stop_after check.Memory = Memory

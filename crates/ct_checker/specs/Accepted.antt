-- When a ledger is accepted.
use Rattle.std.specs.Prelude.{ℕ, ◌≤◌, ◌≡◌, List, map, All}
use Rattle.ct_instance.specs.declared.jobs.Job.{Job}
use Rattle.ct_instance.specs.Instance.{Problem, column_count, degree_of, grade_of}
use Rattle.ct_instance.specs.Fiber.{IsBelow}
use Rattle.ct_instance.specs.TestSet.{Binomial}
use Rattle.ct_instance.specs.Jobs.{first_end_of, second_end_of, IsCoprime, jobs_up_to}
use Rattle.ct_walk.specs.Moves.{Follows}
use Rattle.ct_ledger.specs.declared.entries.LedgerEntry.{LedgerEntry}
use Rattle.ct_ledger.specs.declared.entries.LedgerEntry.TheVariants as entry
use Rattle.ct_ledger.specs.Parts.{LedgerParts}

-- the moves as moves
abbrev pub moves_of : LedgerParts → List Binomial
moves_of l = map (λ m. record { head = m.0; tail = m.1 }) l.moves

abbrev pub job_of : LedgerEntry → Job
job_of (entry.Coprime j) = j
job_of (entry.Walks j first second) = j

-- a move of a ledger of grade g
pub record IsLedgerMove (i : Problem) (g : ℕ) (m : Binomial) : Type 0 where
  pub grade : grade_of i.columns m.head ≤ g
  pub degree : degree_of i.columns m.tail ≡ degree_of i.columns m.head
  pub below : IsBelow i m.tail m.head

-- the steps lead both ends of the job to one point
pub record AreWalks (i : Problem) (ms : List Binomial) (j : Job) (first second : List (ℕ × ℕ)) : Type 0 where
  pub point : List ℕ
  pub first_steps : Follows ms (first_end_of i ms j) first point
  pub second_steps : Follows ms (second_end_of i ms j) second point

-- what an entry says is so
abbrev pub IsEntryRight : Problem → List Binomial → LedgerEntry → Type 0
IsEntryRight i ms (entry.Coprime j) = IsCoprime ms j
IsEntryRight i ms (entry.Walks j first second) = (IsCoprime ms j → ⊥) × AreWalks i ms j first second

-- the size is the instance's, the moves are moves of at most the grade, the entries are all their jobs of at most the
-- grade, in order and each once, and each says what is so
pub record IsAccepted (i : Problem) (l : LedgerParts) : Type 0 where
  pub rows : l.rows ≡ i.rows
  pub columns : l.columns ≡ column_count i
  pub moves : All (IsLedgerMove i l.grade) (moves_of l)
  pub jobs : map job_of l.entries ≡ jobs_up_to i (moves_of l) l.grade
  pub right : All (IsEntryRight i (moves_of l)) l.entries

-- What is made of a test list: of each job that it is coprime, or the walks of both its ends.
use Rattle.std.specs.Prelude.{ℕ, ◌≡◌, List, map, All}
use Rattle.ct_instance.specs.Instance.{Problem, column_count}
use Rattle.ct_instance.specs.TestSet.{Binomial}
use Rattle.ct_instance.specs.Walk.{IsWalk}
use Rattle.ct_instance.specs.Jobs.{first_end_of, second_end_of, IsCoprime, jobs_up_to}
use Rattle.ct_ledger.specs.declared.entries.LedgerEntry.{LedgerEntry}
use Rattle.ct_ledger.specs.declared.entries.LedgerEntry.TheVariants as entry
use Rattle.ct_ledger.specs.Parts.{LedgerParts}
use Rattle.ct_checker.specs.Accepted.{moves_of, job_of}

-- the head and the tail of a move
abbrev pub pair_of : Binomial → List ℕ × List ℕ
pair_of m = (m.head, m.tail)

-- the steps are the walk of p by the list
abbrev pub IsWalkOf : List Binomial → List ℕ → List (ℕ × ℕ) → Type 0
IsWalkOf ms p steps = (end : List ℕ) × IsWalk ms p steps end

abbrev pub IsCertifiedEntry : Problem → List Binomial → LedgerEntry → Type 0
IsCertifiedEntry i ms (entry.Coprime j) = IsCoprime ms j
IsCertifiedEntry i ms (entry.Walks j first second) = (IsCoprime ms j → ⊥) × IsWalkOf ms (first_end_of i ms j) first × IsWalkOf ms (second_end_of i ms j) second

-- the ledger of these moves up to the grade g
pub record IsCertified (i : Problem) (ms : List Binomial) (g : ℕ) (l : LedgerParts) : Type 0 where
  pub rows : l.rows ≡ i.rows
  pub columns : l.columns ≡ column_count i
  pub grade : l.grade ≡ g
  pub moves : moves_of l ≡ ms
  pub jobs : map job_of l.entries ≡ jobs_up_to i ms g
  pub entries : All (IsCertifiedEntry i ms) l.entries

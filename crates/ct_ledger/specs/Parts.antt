-- What a ledger is seen as, and the limits of its parts.
use Rattle.std.specs.Prelude.{ℕ, ◌+◌, ◌≤◌, ◌≡◌, List, length, All}
use Rattle.ct_vectors.specs.declared.limits.TheConstants.{ROW_LIMIT, COLUMN_LIMIT, GRADE_LIMIT, MOVE_LIMIT}
use Rattle.ct_instance.specs.declared.jobs.Job.{Job}
use Rattle.ct_instance.specs.declared.jobs.Job.TheVariants.{Generator, Pair}
use Rattle.ct_ledger.specs.declared.entries.LedgerEntry.{LedgerEntry}
use Rattle.ct_ledger.specs.declared.entries.LedgerEntry.TheVariants.{Coprime, Walks}

-- the size of an instance, a grade, moves as head and tail, and entries on their jobs
pub record LedgerParts : Type 0 where
  pub rows : ℕ
  pub columns : ℕ
  pub grade : ℕ
  pub moves : List (List ℕ × List ℕ)
  pub entries : List LedgerEntry

-- as many numbers as the size says, within the limit
pub record IsLedgerPoint (columns rows : ℕ) (p : List ℕ) : Type 0 where
  pub numbers : length p ≡ columns + rows
  pub limit : All (λ x. x ≤ GRADE_LIMIT) p

pub record IsLedgerPair (columns rows : ℕ) (m : List ℕ × List ℕ) : Type 0 where
  pub head : IsLedgerPoint columns rows m.0
  pub tail : IsLedgerPoint columns rows m.1

-- a number of a column or of a move
abbrev pub IsNumber : ℕ → Type 0
IsNumber k = (1 ≤ k) × (k ≤ MOVE_LIMIT)

-- a number of a move, and a count
abbrev pub AreSteps : List (ℕ × ℕ) → Type 0
AreSteps steps = All (λ s. IsNumber s.0 × ((1 ≤ s.1) × (s.1 ≤ GRADE_LIMIT))) steps

abbrev pub HasNumbers : Job → Type 0
HasNumbers (Generator j) = IsNumber j
HasNumbers (Pair a b) = IsNumber a × IsNumber b

abbrev pub IsPair : Job → Type 0
IsPair (Generator j) = ⊥
IsPair (Pair a b) = Unit {0}

-- only a pair is said to be coprime
abbrev pub IsEntry : LedgerEntry → Type 0
IsEntry (Coprime j) = IsPair j × HasNumbers j
IsEntry (Walks j first second) = HasNumbers j × AreSteps first × AreSteps second

pub record IsLedger (l : LedgerParts) : Type 0 where
  pub some_row : 1 ≤ l.rows
  pub row_limit : l.rows ≤ ROW_LIMIT
  pub some_column : 1 ≤ l.columns
  pub column_limit : l.columns ≤ COLUMN_LIMIT
  pub grade_limit : l.grade ≤ GRADE_LIMIT
  pub most : length l.moves ≤ MOVE_LIMIT
  pub moves : All (IsLedgerPair l.columns l.rows) l.moves
  pub entries : All IsEntry l.entries

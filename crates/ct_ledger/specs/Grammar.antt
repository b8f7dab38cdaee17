-- Which line may stand next in a ledger text.
use Rattle.std.specs.Prelude.{ℕ, ◌≤◌, ◌+◌, ◌==◌, ◌&&◌, nat_lt, Bool, true, false, if◌then◌else◌, List, [], ◌∷◌, ◌++◌, length, codes}
use Rattle.ct_vectors.specs.declared.limits.TheConstants.{ROW_LIMIT, COLUMN_LIMIT, GRADE_LIMIT, MOVE_LIMIT}
use Rattle.ct_instance.specs.declared.jobs.Job.{Job}
use Rattle.ct_instance.specs.declared.jobs.Job.TheVariants.{Generator, Pair}
use Rattle.ct_lines.specs.Wording.{Wording, done, barred, word, number, numbers, walk, fork, ◌then◌}
use Rattle.ct_ledger.specs.declared.entries.LedgerEntry.{LedgerEntry}
use Rattle.ct_ledger.specs.declared.entries.LedgerEntry.TheVariants.{Coprime, Walks}
use Rattle.ct_ledger.specs.declared.stage.Stage.{Stage}
use Rattle.ct_ledger.specs.declared.stage.Stage.TheVariants.{Title, Size, Grade, Body, Closed}
use Rattle.ct_ledger.specs.Parts.{LedgerParts}

abbrev pub with_move : LedgerParts → List ℕ → List ℕ → LedgerParts
with_move l head tail = record l { moves = l.moves ++ (head, tail) ∷ [] }

abbrev pub with_entry : LedgerParts → LedgerEntry → LedgerParts
with_entry l entry = record l { entries = l.entries ++ entry ∷ [] }

-- moves stand above all entries, and are limited in number
abbrev pub may_move : LedgerParts → Bool
may_move l = (length l.entries == 0) && nat_lt (length l.moves) MOVE_LIMIT

-- after `move`
unfoldable pub move_line : LedgerParts → Wording Stage
move_line l =
    numbers (l.columns + l.rows) GRADE_LIMIT then λ head. word (codes "to") then
    numbers (l.columns + l.rows) GRADE_LIMIT then λ tail. done (Body (with_move l head tail))

-- two walks of a job
unfoldable pub walks_line : LedgerParts → Job → Wording Stage
walks_line l job =
    walk then λ first. word (codes "|") then walk then λ second. done (Body (with_entry l (Walks job first second)))

-- after `pair`
unfoldable pub pair_line : LedgerParts → Wording Stage
pair_line l =
    number 1 MOVE_LIMIT then λ a. number 1 MOVE_LIMIT then λ b.
    fork (codes "coprime") (done (Body (with_entry l (Coprime (Pair a b))))) (walks_line l (Pair a b))

unfoldable pub body_line : LedgerParts → Wording Stage
body_line l =
    fork (codes "move") (if may_move l then move_line l else barred) then
    fork (codes "generator") (number 1 MOVE_LIMIT then λ j. walks_line l (Generator j)) then
    fork (codes "pair") (pair_line l) then
    word (codes "end") then done (Closed l)

abbrev pub next_line : Stage → Wording Stage
next_line Title = word (codes "ledger") then word (codes "1") then done Size
next_line Size = word (codes "size") then number 1 ROW_LIMIT then λ rows. number 1 COLUMN_LIMIT then λ columns. done (Grade rows columns)
next_line (Grade rows columns) =
    word (codes "grade") then number 0 GRADE_LIMIT then λ grade.
    done (Body (record { rows = rows; columns = columns; grade = grade; moves = []; entries = [] }))
next_line (Body l) = body_line l
next_line (Closed l) = barred

abbrev pub is_closed : Stage → Bool
is_closed (Closed l) = true
is_closed _ = false

-- a size that was read is within the limits
abbrev pub HasSize : Stage → Type 0
HasSize (Grade rows columns) = (1 ≤ rows) × (rows ≤ ROW_LIMIT) × (1 ≤ columns) × (columns ≤ COLUMN_LIMIT)
HasSize _ = Unit {0}

-- The instance text.
use Rattle.std.specs.Prelude.{ℕ, zero, suc, ℤ, ◌*◌, ◌-◌, List, [], ◌++◌, codes}
use Rattle.ct_vectors.specs.declared.limits.TheConstants.{ROW_LIMIT, COLUMN_LIMIT, COST_ROW_LIMIT, ENTRY_LIMIT, COST_LIMIT}
use Rattle.ct_input.specs.declared.draft.Draft.{Draft}
use Rattle.ct_input.specs.Grammar.{Grammar, done, nothing, word, number, fork, barred, ◌then◌, part, numbers, signeds}

-- so many rows of n costs at most, one after another; then the word may not stand there any more
unfoldable pub more_rows : ℕ → ℕ → Grammar (List ℤ)
more_rows zero n = barred (codes "cost") then done []
more_rows (suc count) n =
    fork (codes "cost") (part (signeds n COST_LIMIT) then λ row. part (more_rows count n) then λ rows. done (row ++ rows)) then
    done []

-- one to eight rows of n costs
unfoldable pub cost_rows : ℕ → Grammar (List ℤ)
cost_rows n =
    word (codes "cost") then part (signeds n COST_LIMIT) then λ row.
    part (more_rows (COST_ROW_LIMIT - 1) n) then λ rows. done (row ++ rows)

unfoldable pub instance_text : Grammar Draft
instance_text =
    word (codes "instance") then word (codes "1") then
    word (codes "rows") then number 1 ROW_LIMIT then λ m.
    word (codes "columns") then number 1 COLUMN_LIMIT then λ n.
    word (codes "matrix") then part (numbers (m * n) ENTRY_LIMIT) then λ entries.
    part (cost_rows n) then λ costs.
    word (codes "end") then nothing then done (record { rows = m; columns = n; entries = entries; costs = costs })

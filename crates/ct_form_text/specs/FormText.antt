-- The form text: one grammar for both of its forms, of which the first is the instance text.
use Rattle.std.specs.Prelude.{ℕ, zero, suc, ◌-◌, ◌*◌, min, Bool, true, false, List, Option, Some, None, sum_by, codes}
use Rattle.ct_vectors.specs.declared.limits.TheConstants.{ROW_LIMIT, COLUMN_LIMIT, ENTRY_LIMIT, RIGHT_LIMIT}
use Rattle.ct_input.specs.Grammar.{Grammar, done, nothing, word, number, fork, barred, only, ◌then◌, part, numbers, exactly}
use Rattle.ct_input.specs.InstanceText.{cost_rows}
use Rattle.ct_form.specs.declared.relation.Relation.{Relation}
use Rattle.ct_form.specs.declared.relation.Relation.TheVariants.{Eq, Le}
use Rattle.ct_form.specs.declared.relation.Limits.{Limits}
use Rattle.ct_form.specs.Made.{given_of, plain_limits}
use Rattle.ct_form_text.specs.declared.draft.FormDraft.{FormDraft}

-- how many slack columns a row has in the equality form
abbrev pub slacks_of : Relation → ℕ
slacks_of Eq = 0
slacks_of Le = 1

-- a relation where no column is spare
abbrev pub full_relation : Grammar Relation
full_relation = barred (codes "le") then word (codes "eq") then done Eq

abbrev pub free_relation : Grammar Relation
free_relation = fork (codes "le") (done Le) then word (codes "eq") then done Eq

abbrev pub relation : ℕ → Grammar Relation
relation zero = full_relation
relation (suc spare) = free_relation

-- a bound where no row or no column is spare
abbrev pub full_bound : Grammar (Option ℕ)
full_bound = only (codes "-") then done None

abbrev pub free_bound : Grammar (Option ℕ)
free_bound = fork (codes "-") (done None) then number 0 RIGHT_LIMIT then λ u. done (Some u)

abbrev pub bound : ℕ → Grammar (Option ℕ)
bound zero = full_bound
bound (suc spare) = free_bound

-- whether the text is of form 2
unfoldable pub form_number : Grammar Bool
form_number = fork (codes "1") (done false) then word (codes "2") then done true

abbrev pub relations : ℕ → ℕ → Grammar (List Relation)
relations m spare = exactly relation slacks_of m spare

abbrev pub bounds : ℕ → ℕ → Grammar (List (Option ℕ))
bounds n spare = exactly bound given_of n spare

-- The columns that are spare are those of the limit without the n and a slack for each row `le`; the rows those without the m.
unfoldable pub given_limits : ℕ → ℕ → Grammar Limits
given_limits m n =
    word (codes "relations") then part (relations m (COLUMN_LIMIT - n)) then λ rs.
    word (codes "bounds") then part (bounds n (min (ROW_LIMIT - m) (COLUMN_LIMIT - n - sum_by slacks_of rs))) then λ us.
    done (record { relations = rs; bounds = us })

abbrev pub limits : Bool → ℕ → ℕ → Grammar Limits
limits false m n = done (plain_limits m n)
limits true m n = given_limits m n

unfoldable pub form_text : Grammar FormDraft
form_text =
    word (codes "instance") then part form_number then λ limited.
    word (codes "rows") then number 1 ROW_LIMIT then λ m.
    word (codes "columns") then number 1 COLUMN_LIMIT then λ n.
    word (codes "matrix") then part (numbers (m * n) ENTRY_LIMIT) then λ entries.
    part (limits limited m n) then λ held.
    part (cost_rows n) then λ costs.
    word (codes "end") then nothing then done (record { rows = m; columns = n; entries = entries; limits = held; costs = costs })

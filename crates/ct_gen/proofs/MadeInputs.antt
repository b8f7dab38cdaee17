-- What is made of a number is an instance and a script for it.
use Rattle.std.proofs.Common.{ℕ, ℤ, pos, ◌+◌, ◌%◌, ◌≤◌, nat_abs, List, map, All, refl, arith}
use Rattle.std.proofs.lemmas.List.Elements.{All-map, All-from_recursion}
use Rattle.ct_vectors.specs.Vectors.{total}
use Rattle.ct_vectors.specs.declared.limits.TheConstants.{ENTRY_LIMIT, COST_LIMIT}
use Rattle.ct_instance.specs.Made.{indices, column_of, columns_of}
use Rattle.ct_input.specs.declared.draft.Draft.{Draft}
use Rattle.ct_input.specs.Files.{HasCounts}
use Rattle.ct_input.proofs.Accepted.{counts_are_instance}
use Rattle.ct_gen.specs.declared.making.TheConstants.{MADE_COLUMNS}
use Rattle.ct_gen.specs.Draws.{draws}
use Rattle.ct_gen.specs.Made.{made_entries, made_costs, made_script}
use Rattle.ct_gen.specs.Laws.{MadeIsInstance, MadeIsScript}
use Rattle.ct_gen.proofs.Inputs.{all_made, right_is}

abbrev numbers_of : ℕ → Draft
numbers_of number = record { rows = 1; columns = MADE_COLUMNS; entries = made_entries number; costs = made_costs number }

have_counts : (number : ℕ) → HasCounts (numbers_of number)
have_counts number = record {
  some_row = omega arith;
  few_rows = omega arith;
  some_column = omega arith;
  few_columns = omega arith;
  entries = refl;
  entry_limit = all_made (λ a. a ≤ ENTRY_LIMIT) (λ d. 10 + d % 50) (λ d. omega arith) (draws number 0 MADE_COLUMNS);
  whole_rows = refl;
  some_cost_row = omega arith;
  few_cost_rows = omega arith;
  cost_limit = all_made (λ c. nat_abs c ≤ COST_LIMIT) (λ d. pos (1 + d % 100)) (λ d. omega arith) (draws number MADE_COLUMNS MADE_COLUMNS);
}

-- each column has one entry, of at least 10
have_sums : (number : ℕ) → All (λ sum. 1 ≤ sum) (map total (columns_of 1 MADE_COLUMNS (made_entries number)))
have_sums number =
    All-map (λ sum. 1 ≤ sum) total (columns_of 1 MADE_COLUMNS (made_entries number))
    (All-map (λ column. 1 ≤ total column) (λ j. column_of 1 MADE_COLUMNS j (made_entries number)) (indices MADE_COLUMNS)
    (All-from_recursion (λ j. 1 ≤ total (column_of 1 MADE_COLUMNS j (made_entries number))) (indices MADE_COLUMNS)
    (omega arith, (omega arith, (omega arith, (omega arith, (omega arith, (omega arith, tt))))))))

pub made_is_instance : MadeIsInstance
made_is_instance number = counts_are_instance (numbers_of number) (have_counts number) (have_sums number)

pub made_is_script : MadeIsScript
made_is_script number = (right_is number (made_script number) refl, omega arith)

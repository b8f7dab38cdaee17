use Rattle.std.proofs.Common.{◌≡◌, ◌-◌, ◌*◌, ◌++◌, drop}
use Rattle.ct_form.specs.Made.{padded_costs}
use Rattle.ct_form.proofs.making.costs_with_slacks.Given as goal

-- what was made, and what is still to make
abbrev pub invariant-loop-row : goal.invariant-loop-row
invariant-loop-row l = l.made.items ++ padded_costs (l.rows - l.row) l.columns l.slacks (drop (l.row * l.columns) l.costs) ≡ padded_costs l.rows l.columns l.slacks l.costs

use Rattle.std.proofs.Common.{◌≡◌, ◌-◌, ◌*◌, ◌≤◌, nat_abs, All, vec_len}
use Rattle.ct_vectors.specs.declared.limits.TheConstants.{COST_ROW_LIMIT, COST_LIMIT}
use Rattle.ct_input.specs.Grammar.{read}
use Rattle.ct_input.specs.InstanceText.{more_rows}
use Rattle.ct_input.proofs.Loops.{with_front}
use Rattle.ct_input.proofs.instance_text.later_costs.Given as goal

-- What was found, and then what is still read, is what the grammar gives.
abbrev pub invariant-loop : goal.invariant-loop
invariant-loop l = record {
  reads : with_front l.costs.items (read (more_rows (COST_ROW_LIMIT - 1 - l.counter) l.columns) l.reader) ≡ read (more_rows (COST_ROW_LIMIT - 1) l.fn.columns) l.fn.reader;
  count : vec_len l.costs ≡ l.counter * l.columns;
  limit : All (λ c. nat_abs c ≤ COST_LIMIT) l.costs.items;
}

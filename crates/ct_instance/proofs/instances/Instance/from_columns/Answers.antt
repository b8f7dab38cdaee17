use Rattle.std.proofs.Common.{◌≡◌, ◌*◌, ◌≤◌, List, ℕ, All, map, length, sym, ap, subst}
use Rattle.ct_vectors.specs.Vectors.{total}
use Rattle.ct_vectors.specs.declared.limits.TheConstants.{ROW_LIMIT, ENTRY_LIMIT}
use Rattle.ct_instance.proofs.Entries.{columns-total, are_columns}
use Rattle.ct_instance.proofs.instances.Instance.from_columns.Goals as goal

pub positive_sums-requires-clause-limit : goal.positive_sums-requires-clause-limit
positive_sums-requires-clause-limit c =
    subst (λ (cs : List (List ℕ)). All (λ k. total k ≤ ROW_LIMIT * ENTRY_LIMIT) cs) (sym c.deref.ensures.value)
    (columns-total c.args.rows c.args.columns.items c.requires.row_limit c.requires.entries)

pub with_matrix-requires-clause-are_columns : goal.with_matrix-requires-clause-are_columns
with_matrix-requires-clause-are_columns c =
    are_columns c.args.rows c.args.columns.items c.requires.entries
    (subst (λ (cs : List (List ℕ)). All (λ k. 1 ≤ k) (map total cs)) c.deref.ensures.value c.in_ok-sums.ensures.positive)

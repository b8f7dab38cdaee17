use Rattle.std.proofs.Common.{◌≡◌, ◌*◌, ◌≤◌, All, map, length, arith, sym, ap, ◌∙◌, subst}
use Rattle.ct_vectors.specs.Vectors.{total}
use Rattle.ct_vectors.specs.declared.limits.TheConstants.{ROW_LIMIT, ENTRY_LIMIT}
use Rattle.ct_instance.specs.Instance.{IsColumn}
use Rattle.ct_instance.specs.Made.{columns_of}
use Rattle.ct_instance.proofs.Entries.{columns-limit, columns-total, length-columns_of, are_columns}
use Rattle.ct_instance.proofs.making.matrix_from.Goals as goal

pub positive_sums-requires : goal.positive_sums-requires
positive_sums-requires c =
    let columns : c.deref.result.now ≡ columns_of c.args.rows c.args.columns c.args.entries.now = c.deref.ensures.value ∙ c.in_ok-points.ensures in
    record {
      count = omega (arith, ap length columns, length-columns_of c.args.rows c.args.columns c.args.entries.now, c.requires.few);
      limit = subst (λ l. All (λ k. total k ≤ ROW_LIMIT * ENTRY_LIMIT) l) (sym columns)
          (columns-total c.args.rows (columns_of c.args.rows c.args.columns c.args.entries.now) c.requires.most
          (columns-limit ENTRY_LIMIT c.args.rows c.args.columns c.args.entries.now c.requires.entry_limit));
    }

pub returns-clause-count : goal.returns-clause-count
returns-clause-count c = ap length c.in_ok-points.ensures ∙ length-columns_of c.args.rows c.args.columns c.args.entries.now

pub returns-clause-are_columns : goal.returns-clause-are_columns
returns-clause-are_columns c =
    let points : c.in_ok-points.points.items ≡ columns_of c.args.rows c.args.columns c.args.entries.now = c.in_ok-points.ensures in
    let columns : c.deref.result.now ≡ columns_of c.args.rows c.args.columns c.args.entries.now = c.deref.ensures.value ∙ points in
    subst (λ l. All (IsColumn c.args.rows) l) (sym points)
    (are_columns c.args.rows (columns_of c.args.rows c.args.columns c.args.entries.now)
    (columns-limit ENTRY_LIMIT c.args.rows c.args.columns c.args.entries.now c.requires.entry_limit)
    (subst (λ l. All (λ k. 1 ≤ k) l) (ap (map total) columns) c.in_ok-sums.ensures.positive))

use Rattle.std.proofs.Common.{◌≡◌, ◌%◌, length, sym, ◌∙◌, subst}
use Rattle.ct_instance.proofs.Entries.{problem_same}
use Rattle.ct_instance.proofs.instances.Instance.with_counts.Goals as goal

pub with_matrix-requires-clause-whole_rows : goal.with_matrix-requires-clause-whole_rows
with_matrix-requires-clause-whole_rows c = subst (λ n. length c.args.cost.now % n ≡ 0) (sym c.in_ok-points.ensures.count) c.requires.whole_rows

pub returns-clause-ok : goal.returns-clause-ok
returns-clause-ok c =
    c.in_ok-made.ensures ∙ problem_same c.args.rows c.args.columns c.args.entries.now c.args.cost.now c.in_ok-points.points.items c.in_ok-points.ensures.columns c.in_ok-points.ensures.count

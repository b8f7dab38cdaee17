use Rattle.std.proofs.Common.{◌++◌, map, ap, ◌∙◌}
use Rattle.ct_vectors.specs.Vectors.{zeros}
use Rattle.ct_instance.specs.Made.{columns_of}
use Rattle.ct_form.specs.EqualityForms.{over, row_slacks, bound_parts}
use Rattle.ct_form.proofs.EqualMade.{columns_are}
use Rattle.ct_form.proofs.making.equal_columns.Goals as goal

pub returns : goal.returns
returns c =
    columns_are c.args.rows c.args.columns c.args.entries.now c.args.limits.now c.args.bound_count c.in_ok-made.made.items c.push_row_slacks.new.made.items c.push_bound_slacks.new.made.items c.requires.bounds
    (c.in_ok-made.ensures ∙ ap (λ us. over (columns_of c.args.rows c.args.columns c.args.entries.now) (bound_parts us)) c.as_slice.ensures)
    (c.in_ok-push_row_slacks.ensures ∙ ap (λ rs. c.in_ok-made.made.items ++ map (λ x. x ++ zeros c.args.bound_count) (row_slacks rs)) c.as_slice-2.ensures)
    c.in_ok-push_bound_slacks.ensures

use Rattle.std.proofs.Common.{◌≡◌, length, arith, ap, ◌∙◌}
use Rattle.ct_vectors.proofs.Sums.{length-unit}
use Rattle.ct_form.proofs.making.push_row_slack.Goals as goal

pub joined-requires-clause-limit : goal.joined-requires-clause-limit
joined-requires-clause-limit c =
    let a : length c.deref.result.now ≡ c.args.rows = ap length (c.deref.ensures.value ∙ c.in_ok-above-in-Le.ensures) ∙ length-unit c.args.rows c.args.i in
    omega (arith, c.requires.limit)

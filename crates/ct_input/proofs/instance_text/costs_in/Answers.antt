use Rattle.std.proofs.Common.{◌≡◌, ◌+◌, ◌%◌, ap, ◌∙◌, vec_len, rules}
use Rattle.std.proofs.Math.Nat.{add-mod_left}
use Rattle.ct_input.proofs.instance_text.costs_in.Goals as goal

pub returns-clause-whole_rows : goal.returns-clause-whole_rows
returns-clause-whole_rows c =
    let long : vec_len c.extend_from_slice.new.self ≡ c.args.columns + vec_len c.in_ok-later.later = search rules in
    ap (λ n. n % c.args.columns) long ∙ add-mod_left c.args.columns (vec_len c.in_ok-later.later) ∙ c.in_ok-later.ensures.whole_rows

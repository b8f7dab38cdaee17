use Rattle.std.proofs.Common.{◌≡◌, set, ap, ◌∙◌, rules}
use Rattle.ct_vectors.specs.Vectors.{zeros}
use Rattle.ct_form.proofs.Made.{unit_set}
use Rattle.ct_form.proofs.making.unit_of.Goals as goal

pub returns : goal.returns
returns c =
    let none : c.in_ok-numbers.numbers.items ≡ zeros c.args.len = search rules in
    ap (λ ns. set ns c.args.place 1) none ∙ unit_set c.args.len c.args.place c.requires

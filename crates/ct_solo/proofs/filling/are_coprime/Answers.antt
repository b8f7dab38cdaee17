use Rattle.std.proofs.Common.{◌≡◌, ◌+◌, ℕ, ap₂, sym, ◌∙◌, eqb-true, eq-eqb}
use Rattle.ct_solo.specs.HeadGrades.{head_grade_of}
use Rattle.ct_solo.proofs.CoprimeHeads.{coprime_pair}
use Rattle.ct_solo.proofs.filling.are_coprime.Goals as goal

pub returns : goal.returns
returns c =
    let l = c.args.moves.now in
    let i : ℕ = c.args.i in
    let k : ℕ = c.args.k in
    let same = coprime_pair l c.instance-instance.ensures.checked i (k + 1) c.requires.job in
    let sum : c.args.own + c.args.later ≡ head_grade_of l.instance l.moves i + head_grade_of l.instance l.moves (k + 1) = ap₂ ◌+◌ c.requires.own c.requires.later in (
      λ t. same.0 (sym c.requires.grade ∙ eqb-true c.args.grade (c.args.own + c.args.later) t ∙ sum),
      λ d. eq-eqb c.args.grade (c.args.own + c.args.later) (c.requires.grade ∙ same.1 d ∙ sym sum),
    )

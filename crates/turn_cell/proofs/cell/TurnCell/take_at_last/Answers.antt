use Rattle.std.proofs.Common.{◌*◌, ap, sym, ◌∙◌}
use Rattle.ct_vectors.specs.Words.{latest}
use Rattle.ct_vectors.proofs.Words.{latest_snoc, extends_snoc}
use Rattle.turn_cell.proofs.cell.TurnCell.take_at_last.Goals as goal

pub returns-in-Ok-clause-tries : goal.returns-in-Ok-clause-tries
returns-in-Ok-clause-tries g c = let found = ap (λ p. p.words) c.in-Ok.ensures.turn in let value = ap (λ v. 2 * g.V.Numbered.number_of v) c.held.view_is in
    (extends_snoc _ _ _ _ c.loop.invariant.words found, ap latest found ∙ (latest_snoc c.loop.pass.words _ ∙ sym value))

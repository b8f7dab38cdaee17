use Rattle.std.proofs.Common.{◌≤◌, All, sym, subst, ap}
use Rattle.ct_vectors.specs.declared.limits.TheConstants.{GRADE_LIMIT}
use Rattle.ct_vectors.specs.Vectors.{total}
use Rattle.ct_groups.proofs.Known.{point_width, walk_coordinates}
use Rattle.ct_groups.proofs.pairs.move_of.Goals as goal

pub from_slice-requires-clause-some : goal.from_slice-requires-clause-some
from_slice-requires-clause-some c = (point_width c.args.inst.now c.rows-rows.ensures.instance c.args.pair.now.head.now c.requires.move.head).0

pub from_slice-requires-clause-limit : goal.from_slice-requires-clause-limit
from_slice-requires-clause-limit c = (point_width c.args.inst.now c.rows-rows.ensures.instance c.args.pair.now.head.now c.requires.move.head).1

pub new-requires-clause-head_limit : goal.new-requires-clause-head_limit
new-requires-clause-head_limit c =
    subst (All (λ x. x ≤ GRADE_LIMIT)) (sym c.in_ok-head.ensures) (walk_coordinates c.args.inst.now c.rows-rows.ensures.instance c.args.pair.now.head.now c.requires.grade)

pub new-requires-clause-tail_limit : goal.new-requires-clause-tail_limit
new-requires-clause-tail_limit c =
    subst (All (λ x. x ≤ GRADE_LIMIT)) (sym c.in_ok-tail.ensures)
    (walk_coordinates c.args.inst.now c.rows-rows.ensures.instance c.args.pair.now.tail.now (subst (λ g. g ≤ GRADE_LIMIT) (sym (ap total c.requires.move.degree)) c.requires.grade))

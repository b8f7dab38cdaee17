use Rattle.std.proofs.Common.{◌≡◌, ◌*◌, ◌≤◌, length, ap, ◌∙◌, arith}
use Rattle.ct_vectors.specs.Vectors.{total}
use Rattle.ct_vectors.specs.declared.limits.TheConstants.{ROW_LIMIT, RIGHT_LIMIT}
use Rattle.ct_instance.specs.Fiber.{least_of, is_lower}
use Rattle.std.specs.List.{best_of}
use Rattle.ct_instance.specs.Fiber.{fiber_of}
use Rattle.ct_vectors.proofs.Sums.{total-limit}
use Rattle.ct_slow.proofs.Fibers.{whole_fiber}
use Rattle.ct_slow.proofs.listing.least_by_listing.Goals as goal

pub descend-requires-clause-rest_limit : goal.descend-requires-clause-rest_limit
descend-requires-clause-rest_limit c =
    let sum : total c.in_ok-rest.rest ≡ total c.args.b.now = ap total c.in_ok-rest.ensures in
    let limit : total c.args.b.now ≤ length c.args.b.now * RIGHT_LIMIT = total-limit RIGHT_LIMIT c.args.b.now c.requires.limit in
    let rows : length c.args.b.now ≤ ROW_LIMIT = omega (arith, c.requires.right, c.rows-rows.ensures.instance.row_limit) in
    let most : length c.args.b.now * RIGHT_LIMIT ≤ ROW_LIMIT * RIGHT_LIMIT = omega arith in
    omega arith

pub returns : goal.returns
unfolding least_of
returns c =
    c.in_ok-descend.ensures.lowest ∙ whole_fiber c.args.inst.now c.in_ok-rest.rest c.in_ok-point.point c.in_ok-best.best ∙
    ap (λ b. best_of (is_lower c.args.inst.now) c.in_ok-best.best (fiber_of c.args.inst.now.columns b)) c.in_ok-rest.ensures ∙
    ap (λ a. best_of (is_lower c.args.inst.now) a (fiber_of c.args.inst.now.columns c.args.b.now)) c.in_ok-best.ensures

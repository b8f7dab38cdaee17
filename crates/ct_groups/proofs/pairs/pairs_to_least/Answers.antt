use Rattle.std.proofs.Common.{◌≡◌, ◌<◌, ◌∙◌, length, get_or, [], subst, ap, arith}
use Rattle.ct_groups.specs.Groups.{points_seen, key_of, IsLeastOf}
use Rattle.ct_groups.proofs.Known.{indexed}
use Rattle.ct_groups.proofs.pairs.pairs_to_least.Goals as goal

pub push_pair-requires-clause-least : goal.push_pair-requires-clause-least
push_pair-requires-clause-least c =
    let groups = c.args.groups.now in
    let has = c.requires.groups in
    let group : get_or groups.of_point.items c.loop-k.k 0 ≡ c.index.result.now = indexed groups.of_point.items c.loop-k.k c.index.result.now (omega (arith, has.counted, c.loop-k-test.true)) c.index.ensures in
    let within : c.index.result.now < length groups.least.items = subst (λ x. x < length groups.least.items) group (has.within c.loop-k.k c.loop-k-test.true) in
    let place : get_or groups.least.items (get_or groups.of_point.items c.loop-k.k 0) 0 ≡ c.index-place.result.now =
    ap (λ x. get_or groups.least.items x 0) group ∙ indexed groups.least.items c.index.result.now c.index-place.result.now within c.index-place.ensures in
    subst (IsLeastOf c.args.inst.now (points_seen c.args.points.now) (length c.args.points.now) (key_of c.args.inst.now (get_or (points_seen c.args.points.now) c.loop-k.k []))) place
    (has.least c.loop-k.k c.loop-k-test.true)

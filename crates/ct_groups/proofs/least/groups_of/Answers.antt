use Rattle.std.proofs.Common.{length, arith, subst, ◌≡◌}
use Rattle.std.specs.Ordering.{nat_cmp}
use Rattle.std.specs.Cmp.Lexicographic.{slice_cmp}
use Rattle.std.specs.BTreeMap.{get}
use Rattle.ct_groups.specs.Groups.{points_seen, KnowsGroups}
use Rattle.ct_groups.proofs.Known.{groups_known}
use Rattle.ct_groups.proofs.least.groups_of.Goals as goal

pub returns : goal.returns
returns c =
    let all : c.loop-k.k ≡ length c.args.points.now = omega arith in
    let look = get (slice_cmp nat_cmp) c.loop-k.numbers in
    groups_known c.args.inst.now (points_seen c.args.points.now) (length c.args.points.now) look c.loop-k.groups
    (subst (λ n. KnowsGroups c.args.inst.now (points_seen c.args.points.now) n look c.loop-k.groups) all c.loop-k.invariant)

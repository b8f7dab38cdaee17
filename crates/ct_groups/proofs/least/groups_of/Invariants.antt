use Rattle.std.specs.Ordering.{nat_cmp}
use Rattle.std.specs.Cmp.Lexicographic.{slice_cmp}
use Rattle.std.specs.BTreeMap.{get}
use Rattle.ct_groups.specs.Groups.{points_seen, KnowsGroups}
use Rattle.ct_groups.proofs.least.groups_of.Given as goal

abbrev pub invariant-loop-k : goal.invariant-loop-k
invariant-loop-k l = KnowsGroups l.inst (points_seen l.points) l.k (get (slice_cmp nat_cmp) l.numbers) l.groups

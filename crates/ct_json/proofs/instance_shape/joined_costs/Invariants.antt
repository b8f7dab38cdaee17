use Rattle.std.proofs.Common.{◌≡◌, take}
use Rattle.ct_json.specs.InstanceShape.{joined}
use Rattle.ct_json.proofs.instance_shape.joined_costs.Given as goal

abbrev pub invariant-loop-row : goal.invariant-loop-row
invariant-loop-row l = l.all.items ≡ joined (take l.row-index l.rows)

use Rattle.std.proofs.Common.{◌≡◌, ◌+◌, ◌-◌, ◌≤◌, map, drop, sum_by}
use Rattle.serde_json.specs.View.{view}
use Rattle.ct_json.specs.Shapes.{each}
use Rattle.ct_json.proofs.Turns.{with_front}
use Rattle.ct_json.proofs.shape.each.Given as goal

-- What was found, and then what is still read, is what the shape gives.
abbrev pub invariant-loop-i : goal.invariant-loop-i
invariant-loop-i g l = record {
  reads : with_front l.found.items (each (g.S.Shaped.shape l.shape) l.here (l.index + l.i) l.spare (map view (drop l.i l.values))) ≡ each (g.S.Shaped.shape l.shape) l.here l.index l.initial.spare (map view l.values);
  spare : l.spare ≡ l.initial.spare - sum_by (g.S.Shaped.shape l.shape).uses l.found.items;
}

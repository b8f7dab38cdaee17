use Rattle.std.proofs.Common.{◌≡◌, map, take}
use Rattle.ct_instance.specs.Answer.{costs_of}
use Rattle.ct_best_report.proofs.costs.with_costs.Given as goal

abbrev pub invariant-loop-i : goal.invariant-loop-i
invariant-loop-i l = record {
  shown : map (λ s. s.point) l.solutions.items ≡ map (take l.columns) (take l.i l.list);
  paid : map (λ s. s.costs) l.solutions.items ≡ map (costs_of l.inst) (take l.i l.list);
}

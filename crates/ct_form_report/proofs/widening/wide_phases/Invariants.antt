use Rattle.std.proofs.Common.{◌≡◌, ◌++◌, map}
use Rattle.std.specs.Vec.Iter.{into_iter_items}
use Rattle.ct_form_report.specs.FormCases.{phase_with}
use Rattle.ct_form_report.proofs.widening.wide_phases.Given as goal

-- what was made, and what is still to come
abbrev pub invariant-loop-phase : goal.invariant-loop-phase
invariant-loop-phase l = record {
  made : l.made.items ≡ map (phase_with l.fn.given) l.yielded;
  rest : l.fn.phases ≡ l.yielded ++ into_iter_items l.phase-iterator;
}

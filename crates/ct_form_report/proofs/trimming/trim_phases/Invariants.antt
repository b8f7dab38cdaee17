use Rattle.std.proofs.Common.{◌≡◌, ◌++◌, map}
use Rattle.std.specs.Vec.Iter.{into_iter_items}
use Rattle.ct_form_report.specs.FormCases.{trimmed_phase}
use Rattle.ct_form_report.proofs.trimming.trim_phases.Given as goal

-- what was made, and what is still to come
abbrev pub invariant-loop-told : goal.invariant-loop-told
invariant-loop-told l = record {
  made : l.made.items ≡ map (trimmed_phase l.fn.columns) l.yielded;
  rest : l.fn.phases ≡ l.yielded ++ into_iter_items l.told-iterator;
}

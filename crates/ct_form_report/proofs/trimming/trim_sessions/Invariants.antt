use Rattle.std.proofs.Common.{◌≡◌, ◌++◌, map}
use Rattle.std.specs.Vec.Iter.{into_iter_items}
use Rattle.ct_form_report.specs.FormCases.{trimmed_line}
use Rattle.ct_form_report.proofs.trimming.trim_sessions.Given as goal

-- what was made, and what is still to come
abbrev pub invariant-loop-lines : goal.invariant-loop-lines
invariant-loop-lines l = record {
  made : l.made.items ≡ map (map (trimmed_line l.fn.columns)) l.yielded;
  rest : l.fn.sessions ≡ l.yielded ++ into_iter_items l.lines-iterator;
}

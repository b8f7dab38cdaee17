use Rattle.std.proofs.Common.{◌≡◌, ◌++◌, map}
use Rattle.std.specs.Vec.Iter.{into_iter_items}
use Rattle.ct_form_report.specs.FormCases.{trimmed_line}
use Rattle.ct_form_report.proofs.trimming.trim_lines.Given as goal

-- what was made, and what is still to come
abbrev pub invariant-loop-line : goal.invariant-loop-line
invariant-loop-line l = record {
  made : l.made.items ≡ map (trimmed_line l.fn.columns) l.yielded;
  rest : l.fn.lines ≡ l.yielded ++ into_iter_items l.line-iterator;
}

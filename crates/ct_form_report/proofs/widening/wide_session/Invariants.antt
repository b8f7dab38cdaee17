use Rattle.std.proofs.Common.{◌≡◌, ◌++◌, map}
use Rattle.std.specs.Vec.Iter.{into_iter_items}
use Rattle.ct_form_report.specs.FormCases.{request_with}
use Rattle.ct_form_report.proofs.widening.wide_session.Given as goal

-- what was made, and what is still to come
abbrev pub invariant-loop-request : goal.invariant-loop-request
invariant-loop-request l = record {
  made : l.made.items ≡ map (request_with l.fn.given) l.yielded;
  rest : l.fn.requests ≡ l.yielded ++ into_iter_items l.request-iterator;
}

use Rattle.std.proofs.Common.{◌<◌, ◌≤◌, ◌≡◌, max, length, ◌∙◌, arith}
use Rattle.ct_vectors.specs.declared.limits.TheConstants.{GRADE_LIMIT}
use Rattle.ct_input.specs.Script.{IsRequest}
use Rattle.ct_answer.proofs.Pairing.{at_item, greatest_more}
use Rattle.ct_answer.specs.Told.{worked_for}
use Rattle.ct_answer.proofs.grades.raised_by.Goals as goal

pub worked_by-requires-clause-request : goal.worked_by-requires-clause-request
worked_by-requires-clause-request c =
    let inside : c.loop-request.request-index < length c.args.requests.now = omega arith in
    at_item (IsRequest c.args.rows) c.args.requests.now c.loop-request.request-index c.request-item.result inside c.request-item.is c.requires.requests

pub loop-request-preserved : goal.loop-request-preserved
loop-request-preserved c =
    let inside : c.loop-request.request-index < length c.args.requests.now = omega arith in
    let raised : c.max-top.result ≡ max c.loop-request.top (worked_for c.args.asks c.request-item.result) = omega (arith, c.max-top.ensures, c.worked_by.ensures.grade) in
    record {
      top = raised ∙ greatest_more (worked_for c.args.asks) c.args.requests.now c.loop-request.request-index c.loop-request.top c.args.grade c.request-item.result inside c.request-item.is c.loop-request.invariant.top;
      limit = let low : c.loop-request.top ≤ GRADE_LIMIT = c.loop-request.invariant.limit in omega (arith, c.max-top.ensures, c.worked_by.ensures.limit, low);
    }

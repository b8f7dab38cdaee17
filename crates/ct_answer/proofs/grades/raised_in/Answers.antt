use Rattle.std.proofs.Common.{◌<◌, ◌≡◌, max, length, map, ap, ◌∙◌, arith}
use Rattle.ct_legal.specs.Scripts.{greatest}
use Rattle.ct_answer.proofs.Pairing.{greatest_flat_more}
use Rattle.ct_answer.specs.Told.{worked_for}
use Rattle.ct_answer.proofs.grades.raised_in.Goals as goal

pub loop-requests-preserved : goal.loop-requests-preserved
loop-requests-preserved c =
    let inside : c.loop-requests.requests-index < length c.args.sessions.now = omega arith in
    let raised : c.raised_by-top.result ≡ max c.loop-requests.top (greatest (map (worked_for c.args.asks) c.requests-item.result)) =
    c.raised_by-top.ensures.greatest ∙ ap (λ rs. max c.loop-requests.top (greatest (map (worked_for c.args.asks) rs))) c.as_slice.ensures in
    record {
      top = raised ∙ greatest_flat_more (map (worked_for c.args.asks)) c.args.sessions.now c.loop-requests.requests-index c.loop-requests.top c.args.grade c.requests-item.result inside c.requests-item.is c.loop-requests.invariant.top;
      limit = c.raised_by-top.ensures.limit;
    }

use Rattle.std.proofs.Common.{◌≡◌, ◌++◌, ◌∷◌, [], map, length, ap, ◌∙◌, arith}
use Rattle.ct_jobs.specs.Supports.{support, in_span}
use Rattle.ct_jobs.proofs.GradesBySupport.{spans_push}
use Rattle.ct_jobs.proofs.supports.Supports.push.Goals as goal

pub returns : goal.returns
returns c =
    let more = support c.args.sums.now c.args.head.now in
    let ts = c.self.inside.parts.items in
    let all = c.push_support.new.parts.items in
    let first : c.len-start.result ≡ length ts = omega arith in
    let last : c.len-end.result ≡ length all = omega arith in
    ap (map (in_span all)) c.in_ok-push.ensures.items ∙
    spans_push ts more all c.self.inside.spans.items (record { start = c.len-start.result; end = c.len-end.result }) c.self.invariant c.in_ok-push_support.ensures.more first last ∙
    ap (λ l. l ++ more ∷ []) c.self.view_is

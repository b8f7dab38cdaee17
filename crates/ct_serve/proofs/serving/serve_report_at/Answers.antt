use Rattle.std.proofs.Common.{◌+◌, ◌≤◌, ◌≡◌, All, length, vec_len, subst, arith}
use Rattle.std.specs.Arc.{arc_value}
use Rattle.ct_instance.specs.Reach.{first_version_from}
use Rattle.ct_input.specs.declared.script.Phase.{Phase}
use Rattle.ct_completion.specs.OnePass.{journal_to}
use Rattle.ct_serve.proofs.Opening.{opened_are}
use Rattle.ct_serve.proofs.serving.serve_report_at.Goals as goal

pub served-requires-clause-own : goal.served-requires-clause-own
served-requires-clause-own g c κs within =
    let i = arc_value c.in_ok-inst_of_host.inst_of_host in let k = first_version_from i c.args.resumed.grade in
    (opened_are c.in_ok-host.host k (journal_to i k) c.passes_for-count.result c.in_ok-host.passes.items c.in_ok-host.ensures.passes).0

pub served-requires-clause-some : goal.served-requires-clause-some
served-requires-clause-some g c κs within =
    let i = arc_value c.in_ok-inst_of_host.inst_of_host in let k = first_version_from i c.args.resumed.grade in
    let count = (opened_are c.in_ok-host.host k (journal_to i k) c.passes_for-count.result c.in_ok-host.passes.items c.in_ok-host.ensures.passes).1 in
    omega (arith, count, c.in_ok-host.passes.ok.0, c.passes_for-count.ensures.some)

pub served-requires-clause-enough : goal.served-requires-clause-enough
served-requires-clause-enough g c κs within =
    let i = arc_value c.in_ok-inst_of_host.inst_of_host in let k = first_version_from i c.args.resumed.grade in
    let count = (opened_are c.in_ok-host.host k (journal_to i k) c.passes_for-count.result c.in_ok-host.passes.items c.in_ok-host.ensures.passes).1 in
    let same : c.passes_for-count.result ≡ vec_len c.in_ok-host.passes = omega (arith, count, c.in_ok-host.passes.ok.0) in
    subst (λ n. All (λ (p : Phase). 1 + c.args.workers + length p.sessions ≤ n) c.as_slice-phases.result.now) same c.passes_for-count.ensures.enough

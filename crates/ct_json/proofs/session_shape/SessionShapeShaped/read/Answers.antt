use Rattle.std.proofs.Common.{◌≡◌, ◌+◌, ◌-◌, min, length, sum_by, sym, arith}
use Rattle.std.proofs.lemmas.Result.{err_from_is_err_and}
use Rattle.serde_json.specs.View.{view}
use Rattle.ct_json.proofs.Scripts.{session_reads, session_fails, ones}
use Rattle.ct_json.proofs.session_shape.SessionShapeShaped.read.Goals as goal

pub returns-in_err-found-clause-gives : goal.returns-in_err-found-clause-gives
returns-in_err-found-clause-gives c =
    let p = err_from_is_err_and c.from_residual-in_err-found.result c.from_residual-in_err-found.ensures.1 in
    let few : c.at_most-read.result ≡ min (length c.in_ok-values.values.now) (c.args.spare.now + 1) = c.at_most-read.ensures in
    rw (p.1, p.2) (session_fails c.args.self.now.rows c.args.here.now c.in_err-found.field-0.0 c.args.spare.now c.at_most-read.result (view c.args.value.now) c.in_ok-values.values.now c.in_ok-values.ensures few c.in_err-found.ensures.gives)

pub returns-clause-gives : goal.returns-clause-gives
returns-clause-gives c =
    let few : c.at_most-read.result ≡ min (length c.in_ok-values.values.now) (c.args.spare.now + 1) = c.at_most-read.ensures in
    rw c.from_vec.ensures (session_reads c.args.self.now.rows c.args.here.now c.args.spare.now c.at_most-read.result (view c.args.value.now) c.in_ok-values.values.now c.in_ok-found.found.items c.in_ok-values.ensures few c.in_ok-found.ensures.gives)

pub returns-clause-spare : goal.returns-clause-spare
returns-clause-spare c =
    let same = ones c.in_ok-found.found.items in
    rw c.from_vec.ensures (omega (arith, same, c.in_ok-found.ensures.spare))

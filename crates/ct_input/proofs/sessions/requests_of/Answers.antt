use Rattle.std.proofs.Common.{◌≡◌, ◌-◌, ◌+◌, suc, arith}
use Rattle.std.proofs.lemmas.Result.{err_from_is_err_and}
use Rattle.ct_input.specs.Grammar.{read}
use Rattle.ct_input.specs.SessionText.{request, no_request, requests}
use Rattle.ct_input.proofs.Loops.{loop_err, loop_end, loop_more, over_err, over_end}
use Rattle.ct_input.proofs.sessions.requests_of.Goals as goal

pub returns-in_err-next : goal.returns-in_err-next
returns-in_err-next c =
    let p = err_from_is_err_and c.from_residual.result c.from_residual.ensures.1 in
    let later = c.args.spare - (c.loop.counter + 1) in
    let some : c.args.spare - c.loop.counter ≡ suc later = omega arith in
    rw (p.1, p.2) (loop_err (λ _. request c.args.rows) (λ _. 1) no_request c.in_err-next.field-0.0 c.loop.found.items (c.args.spare - c.loop.counter) later (c.args.spare - c.loop.counter) c.loop.reader (read (requests c.args.rows c.args.spare) c.args.reader.now) some c.in_err-next.ensures c.loop.invariant)

pub returns-in-None : goal.returns-in-None
returns-in-None c =
    let later = c.args.spare - (c.loop.counter + 1) in
    let some : c.args.spare - c.loop.counter ≡ suc later = omega arith in
    loop_end (λ _. request c.args.rows) (λ _. 1) no_request c.loop.found.items (c.args.spare - c.loop.counter) later (c.args.spare - c.loop.counter) c.loop.reader c.request_of.new.reader (read (requests c.args.rows c.args.spare) c.args.reader.now) some (rw (← c.in-None.is) c.in_ok-next.ensures) c.loop.invariant

pub loop-preserved : goal.loop-preserved
loop-preserved c =
    let later = c.args.spare - (c.loop.counter + 1) in
    let some : c.args.spare - c.loop.counter ≡ suc later = omega arith in
    let left : c.args.spare - c.loop.counter - 1 ≡ later = omega arith in
    rw c.in_ok-push-in-Some.ensures.items (loop_more (λ _. request c.args.rows) (λ _. 1) no_request c.loop.found.items (c.args.spare - c.loop.counter) later (c.args.spare - c.loop.counter) later c.in-Some.request c.loop.reader c.request_of.new.reader (read (requests c.args.rows c.args.spare) c.args.reader.now) some left (rw (← c.in-Some.is) c.in_ok-next.ensures) c.loop.invariant)

pub returns-in_err-no_more_requests : goal.returns-in_err-no_more_requests
returns-in_err-no_more_requests c =
    let p = err_from_is_err_and c.from_residual-in_err-no_more_requests.result c.from_residual-in_err-no_more_requests.ensures.1 in
    let none : c.args.spare - c.loop.counter ≡ 0 = omega arith in
    rw (p.1, p.2) (over_err (λ _. request c.args.rows) (λ _. 1) no_request c.in_err-no_more_requests.field-0.0 c.loop.found.items (c.args.spare - c.loop.counter) (c.args.spare - c.loop.counter) c.loop.reader (read (requests c.args.rows c.args.spare) c.args.reader.now) none c.in_err-no_more_requests.ensures c.loop.invariant)

pub returns : goal.returns
returns c =
    let none : c.args.spare - c.loop.counter ≡ 0 = omega arith in
    over_end (λ _. request c.args.rows) (λ _. 1) no_request c.loop.found.items (c.args.spare - c.loop.counter) (c.args.spare - c.loop.counter) c.loop.reader (read (requests c.args.rows c.args.spare) c.args.reader.now) none c.in_ok-no_more_requests.ensures c.loop.invariant

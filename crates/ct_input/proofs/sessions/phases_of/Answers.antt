use Rattle.std.proofs.Common.{◌≡◌, ◌-◌, ◌+◌, suc, Ok, sym, refl, arith, [], codes}
use Rattle.std.proofs.lemmas.Result.{err_from_is_err_and}
use Rattle.ct_input.specs.declared.limits.TheConstants.{PHASE_LIMIT}
use Rattle.ct_input.specs.Grammar.{read, barred_at}
use Rattle.ct_input.specs.SessionText.{phase, no_phase, phases, request_count}
use Rattle.ct_input.proofs.Loops.{loop_err, loop_end, loop_more, over_err, over_end, Fails_bind}
use Rattle.ct_input.proofs.sessions.phases_of.Goals as goal

pub returns-in_err-next : goal.returns-in_err-next
returns-in_err-next c =
    let p = err_from_is_err_and c.from_residual.result c.from_residual.ensures.1 in
    let later = PHASE_LIMIT - (c.loop.counter + 1) in
    let some : PHASE_LIMIT - c.loop.counter ≡ suc later = omega arith in
    rw (p.1, p.2) (loop_err (phase c.args.rows) (λ p. request_count p.sessions) no_phase c.in_err-next.field-0.0 c.loop.found.items (PHASE_LIMIT - c.loop.counter) later c.loop.spare c.loop.reader (read (phases c.args.rows c.args.spare) c.args.reader.now) some c.in_err-next.ensures.gives c.loop.invariant)

pub returns-in-None : goal.returns-in-None
returns-in-None c =
    let later = PHASE_LIMIT - (c.loop.counter + 1) in
    let some : PHASE_LIMIT - c.loop.counter ≡ suc later = omega arith in
    loop_end (phase c.args.rows) (λ p. request_count p.sessions) no_phase c.loop.found.items (PHASE_LIMIT - c.loop.counter) later c.loop.spare c.loop.reader c.phase_of.new.reader (read (phases c.args.rows c.args.spare) c.args.reader.now) some (rw (← c.in-None.is) c.in_ok-next.ensures.gives) c.loop.invariant

pub loop-preserved : goal.loop-preserved
loop-preserved c =
    let later = PHASE_LIMIT - (c.loop.counter + 1) in
    let some : PHASE_LIMIT - c.loop.counter ≡ suc later = omega arith in
    let left : c.loop.spare - request_count c.in-Some.phase.sessions ≡ c.phase_of.new.spare = sym (rw c.in-Some.is at c.in_ok-next.ensures.spare) in
    rw c.in_ok-push-in-Some.ensures.items (loop_more (phase c.args.rows) (λ p. request_count p.sessions) no_phase c.loop.found.items (PHASE_LIMIT - c.loop.counter) later c.loop.spare c.phase_of.new.spare c.in-Some.phase c.loop.reader c.phase_of.new.reader (read (phases c.args.rows c.args.spare) c.args.reader.now) some left (rw (← c.in-Some.is) c.in_ok-next.ensures.gives) c.loop.invariant)

pub returns-in_err-barred : goal.returns-in_err-barred
returns-in_err-barred c =
    let p = err_from_is_err_and c.from_residual-in_err-barred.result c.from_residual-in_err-barred.ensures.1 in
    let none : PHASE_LIMIT - c.loop.counter ≡ 0 = omega arith in
    rw (p.1, p.2) (over_err (phase c.args.rows) (λ p. request_count p.sessions) no_phase c.in_err-barred.field-0.0 c.loop.found.items (PHASE_LIMIT - c.loop.counter) c.loop.spare c.loop.reader (read (phases c.args.rows c.args.spare) c.args.reader.now) none (Fails_bind c.in_err-barred.field-0.0 (barred_at (codes "phase") c.loop.reader) (λ _. Ok ([], c.loop.reader)) c.in_err-barred.ensures) c.loop.invariant)

pub returns : goal.returns
returns c =
    let none : PHASE_LIMIT - c.loop.counter ≡ 0 = omega arith in
    over_end (phase c.args.rows) (λ p. request_count p.sessions) no_phase c.loop.found.items (PHASE_LIMIT - c.loop.counter) c.loop.spare c.loop.reader (read (phases c.args.rows c.args.spare) c.args.reader.now) none (rw c.in_ok-barred.ensures refl) c.loop.invariant

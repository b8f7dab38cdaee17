use Rattle.std.proofs.Common.{◌≡◌, ◌-◌, ◌+◌, suc, length, Ok, sym, refl, arith, [], codes}
use Rattle.std.proofs.lemmas.Result.{err_from_is_err_and}
use Rattle.std.proofs.lemmas.List.Sums.{sum_by_push}
use Rattle.ct_vectors.specs.declared.limits.TheConstants.{SESSION_LIMIT}
use Rattle.ct_input.specs.Grammar.{read, barred_at}
use Rattle.ct_input.specs.SessionText.{session, no_session, sessions}
use Rattle.ct_input.proofs.Loops.{loop_err, loop_end, loop_more, over_err, over_end, Fails_bind}
use Rattle.ct_input.proofs.sessions.sessions_of.Goals as goal

pub returns-in_err-next-clause-gives : goal.returns-in_err-next-clause-gives
returns-in_err-next-clause-gives c =
    let p = err_from_is_err_and c.from_residual.result c.from_residual.ensures.1 in
    let later = SESSION_LIMIT - (c.loop.counter + 1) in
    let some : SESSION_LIMIT - c.loop.counter ≡ suc later = omega arith in
    rw (p.1, p.2) (loop_err (session c.args.rows) (length) no_session c.in_err-next.field-0.0 c.loop.found.items (SESSION_LIMIT - c.loop.counter) later c.loop.spare c.loop.reader (read (sessions c.args.rows c.args.spare.now) c.args.reader.now) some c.in_err-next.ensures c.loop.invariant.reads)

pub returns-in-None-clause-gives : goal.returns-in-None-clause-gives
returns-in-None-clause-gives c =
    let later = SESSION_LIMIT - (c.loop.counter + 1) in
    let some : SESSION_LIMIT - c.loop.counter ≡ suc later = omega arith in
    loop_end (session c.args.rows) (length) no_session c.loop.found.items (SESSION_LIMIT - c.loop.counter) later c.loop.spare c.loop.reader c.session_of.new.reader (read (sessions c.args.rows c.args.spare.now) c.args.reader.now) some (rw (← c.in-None.is) c.in_ok-next.ensures) c.loop.invariant.reads

pub loop-preserved : goal.loop-preserved
loop-preserved c =
    let later = SESSION_LIMIT - (c.loop.counter + 1) in
    let some : SESSION_LIMIT - c.loop.counter ≡ suc later = omega arith in
    let left : c.loop.spare - length c.in-Some.session ≡ c.saturating_sub.result = rw (← c.as_slice.ensures) (sym c.saturating_sub.ensures) in
    record {
      reads = rw c.in_ok-push-in-Some.ensures.items (loop_more (session c.args.rows) length no_session c.loop.found.items (SESSION_LIMIT - c.loop.counter) later c.loop.spare c.saturating_sub.result c.in-Some.session c.loop.reader c.session_of.new.reader (read (sessions c.args.rows c.args.spare.now) c.args.reader.now) some left (rw (← c.in-Some.is) c.in_ok-next.ensures) c.loop.invariant.reads);
      spare = rw c.in_ok-push-in-Some.ensures.items (let more = sum_by_push length c.loop.found.items c.in-Some.session in omega (arith, left, more, c.loop.invariant.spare));
    }

pub returns-in_err-barred-clause-gives : goal.returns-in_err-barred-clause-gives
returns-in_err-barred-clause-gives c =
    let p = err_from_is_err_and c.from_residual-in_err-barred.result c.from_residual-in_err-barred.ensures.1 in
    let none : SESSION_LIMIT - c.loop.counter ≡ 0 = omega arith in
    rw (p.1, p.2) (over_err (session c.args.rows) (length) no_session c.in_err-barred.field-0.0 c.loop.found.items (SESSION_LIMIT - c.loop.counter) c.loop.spare c.loop.reader (read (sessions c.args.rows c.args.spare.now) c.args.reader.now) none (Fails_bind c.in_err-barred.field-0.0 (barred_at (codes "session") c.loop.reader) (λ _. Ok ([], c.loop.reader)) c.in_err-barred.ensures) c.loop.invariant.reads)

pub returns-clause-gives : goal.returns-clause-gives
returns-clause-gives c =
    let none : SESSION_LIMIT - c.loop.counter ≡ 0 = omega arith in
    over_end (session c.args.rows) (length) no_session c.loop.found.items (SESSION_LIMIT - c.loop.counter) c.loop.spare c.loop.reader (read (sessions c.args.rows c.args.spare.now) c.args.reader.now) none (rw c.in_ok-barred.ensures refl) c.loop.invariant.reads

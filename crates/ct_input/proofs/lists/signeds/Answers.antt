use Rattle.std.proofs.Common.{◌≡◌, ◌-◌, ◌+◌, ◌≤◌, nat_abs, suc, refl, arith, rules, FitsSigned, w64}
use Rattle.std.proofs.lemmas.Int.{to_z-of_z, ints}
use Rattle.std.proofs.lemmas.List.Elements.{All-push}
use Rattle.std.proofs.lemmas.Result.{err_from_is_err_and}
use Rattle.ct_input.specs.Sheet.{Fails}
use Rattle.ct_input.specs.Grammar.{read, signeds}
use Rattle.ct_input.proofs.Loops.{with_item, goes_on, stops_at, is_done, signeds_step, signeds_stop}
use Rattle.ct_input.proofs.lists.signeds.Goals as goal

pub returns-in_err-n-clause-gives : goal.returns-in_err-n-clause-gives
returns-in_err-n-clause-gives c =
    let p = err_from_is_err_and c.from_residual-in_err-n.result c.from_residual-in_err-n.ensures.1 in
    let later = c.args.count - (c.loop.counter + 1) in
    let k : c.args.count - c.loop.counter ≡ suc later = omega arith in
    let now = read (signeds (c.args.count - c.loop.counter) c.args.size) c.loop.reader in
    let fails : Fails c.in_err-n.field-0.0 now = rw k (signeds_stop c.in_err-n.field-0.0 later c.args.size c.loop.reader c.in_err-n.ensures.gives) in
    rw (p.1, p.2) (stops_at c.in_err-n.field-0.0 c.loop.found.items now (read (signeds c.args.count c.args.size) c.args.reader.now) fails c.loop.invariant.reads)

pub loop-preserved : goal.loop-preserved
loop-preserved c =
    let later = c.args.count - (c.loop.counter + 1) in
    let k : c.args.count - c.loop.counter ≡ suc later = omega arith in
    let now = read (signeds (c.args.count - c.loop.counter) c.args.size) c.loop.reader in
    let step : now ≡ with_item c.in_ok-n.n (read (signeds later c.args.size) c.signed.new.self) = rw k (signeds_step later c.args.size c.in_ok-n.n c.loop.reader c.signed.new.self c.in_ok-n.ensures.gives) in
    let fits : FitsSigned w64 c.in_ok-n.n = first_of (search rules, omega (arith, ints, c.in_ok-n.ensures.within)) in
    record { reads = rw (c.in_ok-push.ensures.items, to_z-of_z w64 c.in_ok-n.n fits) (goes_on c.loop.found.items c.in_ok-n.n now (read (signeds later c.args.size) c.signed.new.self) (read (signeds c.args.count c.args.size) c.args.reader.now) step c.loop.invariant.reads); count = omega (arith, c.in_ok-push.ensures.len, c.loop.invariant.count); limit = rw (c.in_ok-push.ensures.items, to_z-of_z w64 c.in_ok-n.n fits) (All-push (λ m. nat_abs m ≤ c.args.size) c.loop.found.items c.in_ok-n.n c.loop.invariant.limit c.in_ok-n.ensures.within) }

pub returns-clause-gives : goal.returns-clause-gives
unfolding signeds
returns-clause-gives c =
    let k : c.args.count - c.loop.counter ≡ 0 = omega arith in
    let now = read (signeds (c.args.count - c.loop.counter) c.args.size) c.loop.reader in
    is_done c.loop.found.items c.loop.reader now (read (signeds c.args.count c.args.size) c.args.reader.now) (rw k refl) c.loop.invariant.reads

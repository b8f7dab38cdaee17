use Rattle.std.proofs.Common.{◌≡◌, ◌-◌, ◌+◌, ◌≤◌, suc, refl, arith}
use Rattle.std.proofs.lemmas.List.Elements.{All-push}
use Rattle.std.proofs.lemmas.Result.{err_from_is_err_and}
use Rattle.ct_input.specs.Sheet.{Fails}
use Rattle.ct_input.specs.Grammar.{read, numbers}
use Rattle.ct_input.proofs.Loops.{with_item, goes_on, stops_at, is_done, numbers_step, numbers_stop}
use Rattle.ct_input.proofs.lists.numbers.Goals as goal

pub returns-in_err-n-clause-gives : goal.returns-in_err-n-clause-gives
returns-in_err-n-clause-gives c =
    let p = err_from_is_err_and c.from_residual-in_err-n.result c.from_residual-in_err-n.ensures.1 in
    let later = c.args.count - (c.loop.counter + 1) in
    let k : c.args.count - c.loop.counter ≡ suc later = omega arith in
    let now = read (numbers (c.args.count - c.loop.counter) c.args.high) c.loop.reader in
    let fails : Fails c.in_err-n.field-0.0 now = rw k (numbers_stop c.in_err-n.field-0.0 later c.args.high c.loop.reader c.in_err-n.ensures.gives) in
    rw (p.1, p.2) (stops_at c.in_err-n.field-0.0 c.loop.found.items now (read (numbers c.args.count c.args.high) c.args.reader.now) fails c.loop.invariant.reads)

pub loop-preserved : goal.loop-preserved
loop-preserved c =
    let later = c.args.count - (c.loop.counter + 1) in
    let k : c.args.count - c.loop.counter ≡ suc later = omega arith in
    let now = read (numbers (c.args.count - c.loop.counter) c.args.high) c.loop.reader in
    let step : now ≡ with_item c.in_ok-n.n (read (numbers later c.args.high) c.number.new.self) = rw k (numbers_step later c.args.high c.in_ok-n.n c.loop.reader c.number.new.self c.in_ok-n.ensures.gives) in
    record { reads = rw c.in_ok-push.ensures.items (goes_on c.loop.found.items c.in_ok-n.n now (read (numbers later c.args.high) c.number.new.self) (read (numbers c.args.count c.args.high) c.args.reader.now) step c.loop.invariant.reads); count = omega (arith, c.in_ok-push.ensures.len, c.loop.invariant.count); limit = rw c.in_ok-push.ensures.items (All-push (λ m. m ≤ c.args.high) c.loop.found.items c.in_ok-n.n c.loop.invariant.limit c.in_ok-n.ensures.within.1) }

pub returns-clause-gives : goal.returns-clause-gives
unfolding numbers
returns-clause-gives c =
    let k : c.args.count - c.loop.counter ≡ 0 = omega arith in
    let now = read (numbers (c.args.count - c.loop.counter) c.args.high) c.loop.reader in
    is_done c.loop.found.items c.loop.reader now (read (numbers c.args.count c.args.high) c.args.reader.now) (rw k refl) c.loop.invariant.reads

use Rattle.std.proofs.Common.{◌≡◌, ◌-◌, ◌+◌, suc, ◌≤◌, arith}
use Rattle.std.proofs.lemmas.Result.{err_from_is_err_and}
use Rattle.std.proofs.lemmas.List.Elements.{All-push}
use Rattle.ct_lines.specs.Reading.{numbers_left}
use Rattle.ct_lines.proofs.Loops.{number_more, number_stop, number_end}
use Rattle.ct_lines.proofs.words.Words.numbers.Goals as goal

pub returns-in_err-n-clause-gives : goal.returns-in_err-n-clause-gives
returns-in_err-n-clause-gives c =
    let p = err_from_is_err_and c.from_residual-in_err-n.result c.from_residual-in_err-n.ensures.1 in
    let later = c.args.count - (c.loop.counter + 1) in
    let k : c.args.count - c.loop.counter ≡ suc later = omega arith in
    rw (p.1, p.2) (number_stop c.in_err-n.field-0.0 c.loop.found.items (c.args.count - c.loop.counter) later c.args.high c.loop.self (numbers_left c.args.count c.args.high c.args.self.now) k c.in_err-n.ensures.gives c.loop.invariant.reads)

pub loop-preserved : goal.loop-preserved
loop-preserved c =
    let later = c.args.count - (c.loop.counter + 1) in
    let k : c.args.count - c.loop.counter ≡ suc later = omega arith in
    record {
      reads = rw c.in_ok-push.ensures.items (number_more c.loop.found.items (c.args.count - c.loop.counter) later c.args.high c.in_ok-n.n c.loop.self c.number.new.self (numbers_left c.args.count c.args.high c.args.self.now) k c.in_ok-n.ensures.gives c.loop.invariant.reads);
      count = omega (arith, c.in_ok-push.ensures.len, c.loop.invariant.count);
      within = rw c.in_ok-push.ensures.items (All-push (λ n. n ≤ c.args.high) c.loop.found.items c.in_ok-n.n c.loop.invariant.within c.in_ok-n.ensures.within.1);
    }

pub returns-clause-gives : goal.returns-clause-gives
returns-clause-gives c = number_end c.loop.found.items (c.args.count - c.loop.counter) c.args.high c.loop.self (numbers_left c.args.count c.args.high c.args.self.now) (omega arith) c.loop.invariant.reads

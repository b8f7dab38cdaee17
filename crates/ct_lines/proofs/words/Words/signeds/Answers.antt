use Rattle.std.proofs.Common.{◌≡◌, ◌∙◌, ◌-◌, ◌+◌, suc, ◌≤◌, arith, sym, true, false, FitsSigned}
use Rattle.std.specs.Int.{w128}
use Rattle.std.specs.Prelude.{unsigned_abs}
use Rattle.std.proofs.lemmas.Int.{to_z-of_z, fits_signed_from_abs}
use Rattle.std.proofs.lemmas.Result.{err_from_is_err_and}
use Rattle.std.proofs.lemmas.List.Elements.{All-push}
use Rattle.ct_lines.specs.Reading.{signed_left, is_next, signeds_left}
use Rattle.ct_lines.proofs.Loops.{until_more, until_end, until_stop, until_none}
use Rattle.ct_lines.proofs.words.Words.signeds.Goals as goal

pub returns-in_err-n-clause-gives : goal.returns-in_err-n-clause-gives
returns-in_err-n-clause-gives c =
    let p = err_from_is_err_and c.from_residual.result c.from_residual.ensures.1 in
    let k : c.args.most - c.loop.counter ≡ suc (c.args.most - (c.loop.counter + 1)) = omega arith in
    rw (p.1, p.2) (until_stop (signed_left c.args.size) (is_next c.args.word.now) c.loop.found.items (c.args.most - c.loop.counter) c.loop.self (signeds_left c.args.most c.args.size c.args.word.now c.args.self.now) c.loop.invariant.reads c.in_err-n.field-0.0 (c.args.most - (c.loop.counter + 1)) k c.in_err-n.ensures.gives)

pub returns-then-goes-clause-gives : goal.returns-then-goes-clause-gives
returns-then-goes-clause-gives c =
    let fits : FitsSigned w128 c.in_ok-n.n = fits_signed_from_abs w128 c.in_ok-n.n (omega (arith, c.in_ok-n.ensures.within, c.requires)) in
    let k : c.args.most - c.loop.counter ≡ suc (c.args.most - (c.loop.counter + 1)) = omega arith in
    let ends : is_next c.args.word.now c.signed.new.self ≡ true = sym c.goes.ensures.found ∙ c.if-goes.true in
    rw (c.in_ok-push.ensures.items, to_z-of_z w128 c.in_ok-n.n fits, c.goes.ensures.after, c.if-goes.true)
    (until_end (signed_left c.args.size) (is_next c.args.word.now) c.loop.found.items (c.args.most - c.loop.counter) c.loop.self (signeds_left c.args.most c.args.size c.args.word.now c.args.self.now) c.loop.invariant.reads (c.args.most - (c.loop.counter + 1)) c.in_ok-n.n c.signed.new.self k c.in_ok-n.ensures.gives ends)

pub returns-then-goes-clause-within : goal.returns-then-goes-clause-within
returns-then-goes-clause-within c =
    let fits : FitsSigned w128 c.in_ok-n.n = fits_signed_from_abs w128 c.in_ok-n.n (omega (arith, c.in_ok-n.ensures.within, c.requires)) in
    rw (c.in_ok-push.ensures.items, to_z-of_z w128 c.in_ok-n.n fits) (All-push (λ n. unsigned_abs n ≤ c.args.size) c.loop.found.items c.in_ok-n.n c.loop.invariant.within c.in_ok-n.ensures.within)

pub loop-preserved : goal.loop-preserved
loop-preserved c =
    let fits : FitsSigned w128 c.in_ok-n.n = fits_signed_from_abs w128 c.in_ok-n.n (omega (arith, c.in_ok-n.ensures.within, c.requires)) in
    let k : c.args.most - c.loop.counter ≡ suc (c.args.most - (c.loop.counter + 1)) = omega arith in
    let goes_on : is_next c.args.word.now c.signed.new.self ≡ false = sym c.goes.ensures.found ∙ c.if-goes.false in
    record {
      reads = rw (c.in_ok-push.ensures.items, to_z-of_z w128 c.in_ok-n.n fits, c.goes.ensures.after, c.if-goes.false)
          (until_more (signed_left c.args.size) (is_next c.args.word.now) c.loop.found.items (c.args.most - c.loop.counter) c.loop.self (signeds_left c.args.most c.args.size c.args.word.now c.args.self.now) c.loop.invariant.reads (c.args.most - (c.loop.counter + 1)) c.in_ok-n.n c.signed.new.self k c.in_ok-n.ensures.gives goes_on);
      count = omega (arith, c.in_ok-push.ensures.len, c.loop.invariant.count);
      within = rw (c.in_ok-push.ensures.items, to_z-of_z w128 c.in_ok-n.n fits) (All-push (λ n. unsigned_abs n ≤ c.args.size) c.loop.found.items c.in_ok-n.n c.loop.invariant.within c.in_ok-n.ensures.within);
    }

pub returns-clause-gives : goal.returns-clause-gives
returns-clause-gives c = until_none (signed_left c.args.size) (is_next c.args.word.now) c.loop.found.items (c.args.most - c.loop.counter) c.loop.self (signeds_left c.args.most c.args.size c.args.word.now c.args.self.now) c.loop.invariant.reads (omega arith)

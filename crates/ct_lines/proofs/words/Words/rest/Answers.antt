use Rattle.std.proofs.Common.{◌≡◌, ◌∙◌, ◌-◌, ◌+◌, ◌++◌, ◌∷◌, [], List, ℕ, suc, ◌≤◌, arith, sym, Some, Option, drop, true, false, refl}
use Rattle.std.proofs.lemmas.Result.{err_from_is_err_and}
use Rattle.std.proofs.lemmas.List.Elements.{All-push}
use Rattle.ct_lines.specs.Reading.{number_left, is_last, rest_left}
use Rattle.ct_lines.proofs.Spelling.{at_end}
use Rattle.ct_lines.proofs.Loops.{until_more, until_end, until_stop, until_none}
use Rattle.ct_lines.proofs.words.Words.rest.Goals as goal

pub returns-in_err-n-clause-gives : goal.returns-in_err-n-clause-gives
returns-in_err-n-clause-gives c =
    let p = err_from_is_err_and c.from_residual.result c.from_residual.ensures.1 in
    let k : c.args.most - c.loop.counter ≡ suc (c.args.most - (c.loop.counter + 1)) = omega arith in
    rw (p.1, p.2) (until_stop (number_left 0 c.args.high) is_last c.loop.found.items (c.args.most - c.loop.counter) c.loop.self (rest_left c.args.most c.args.high c.args.self.now) c.loop.invariant.reads c.in_err-n.field-0.0 (c.args.most - (c.loop.counter + 1)) k c.in_err-n.ensures.gives)

nothing_after : (front : List ℕ) (next : List (List ℕ)) → is_last next ≡ true → ◌≡◌ {A = Option (List ℕ × List (List ℕ))} (Some (front, drop 1 next)) (Some (front, next))
nothing_after front next ends = let none = at_end next ends in rw none refl

pub returns-then-is_last-clause-gives : goal.returns-then-is_last-clause-gives
returns-then-is_last-clause-gives c =
    let k : c.args.most - c.loop.counter ≡ suc (c.args.most - (c.loop.counter + 1)) = omega arith in
    let ends : is_last c.number.new.self ≡ true = sym c.is_last.ensures ∙ c.if-is_last.true in
    rw c.in_ok-push.ensures.items
    (until_end (number_left 0 c.args.high) is_last c.loop.found.items (c.args.most - c.loop.counter) c.loop.self (rest_left c.args.most c.args.high c.args.self.now) c.loop.invariant.reads (c.args.most - (c.loop.counter + 1)) c.in_ok-n.n c.number.new.self k c.in_ok-n.ensures.gives ends
    ∙ nothing_after (c.loop.found.items ++ c.in_ok-n.n ∷ []) c.number.new.self ends)

pub loop-preserved : goal.loop-preserved
loop-preserved c =
    let k : c.args.most - c.loop.counter ≡ suc (c.args.most - (c.loop.counter + 1)) = omega arith in
    let goes_on : is_last c.number.new.self ≡ false = sym c.is_last.ensures ∙ c.if-is_last.false in
    record {
      reads = rw c.in_ok-push.ensures.items
          (until_more (number_left 0 c.args.high) is_last c.loop.found.items (c.args.most - c.loop.counter) c.loop.self (rest_left c.args.most c.args.high c.args.self.now) c.loop.invariant.reads (c.args.most - (c.loop.counter + 1)) c.in_ok-n.n c.number.new.self k c.in_ok-n.ensures.gives goes_on);
      count = omega (arith, c.in_ok-push.ensures.len, c.loop.invariant.count);
      within = rw c.in_ok-push.ensures.items (All-push (λ n. n ≤ c.args.high) c.loop.found.items c.in_ok-n.n c.loop.invariant.within c.in_ok-n.ensures.within.1);
    }

pub returns-clause-gives : goal.returns-clause-gives
returns-clause-gives c = until_none (number_left 0 c.args.high) is_last c.loop.found.items (c.args.most - c.loop.counter) c.loop.self (rest_left c.args.most c.args.high c.args.self.now) c.loop.invariant.reads (omega arith)

use Rattle.std.proofs.Common.{◌≡◌, ◌-◌, ◌<◌, true≢false, suc, sym, ap, ◌∙◌, arith}
use Rattle.ct_solo.specs.Seen.{SoloSeen, IsCovered}
use Rattle.ct_solo.proofs.Runs.{number_below, next_of, completed}
use Rattle.ct_solo.proofs.solos.Solo.complete.Goals as goal

pub loop-alloc-smaller : goal.loop-alloc-smaller
loop-alloc-smaller c =
    let beyond : IsCovered c.loop-alloc.self c.args.grade → ⊥ = λ k. true≢false (sym (c.covers.ensures.1 k) ∙ c.loop-alloc-test.true) in
    let next : c.advance.new.self.number ≡ suc c.loop-alloc.self.number =
    ap (λ (s : SoloSeen). s.number) (next_of c.loop-alloc.self c.advance.new.self c.in-Ok-true.field-0 c.in-Ok-true.field-0-test c.in-Ok-true.ensures.advanced) in
    let below : c.loop-alloc.self.number < c.args.grade = number_below c.loop-alloc.self c.args.grade beyond in
    let smaller : c.args.grade - c.advance.new.self.number < c.args.grade - c.loop-alloc.self.number = omega (arith, below, next) in
    smaller

pub returns-in-Ok-clause-answer : goal.returns-in-Ok-clause-answer
returns-in-Ok-clause-answer c =
    completed c.args.self.now c.args.grade c.loop-alloc.self c.in-Ok.help c.loop-alloc.invariant (c.covers.ensures.0 c.loop-alloc-test.false) c.in-Ok.ensures.help c.in-Ok.ensures.version

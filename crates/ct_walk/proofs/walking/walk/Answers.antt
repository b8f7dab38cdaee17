use Rattle.std.proofs.Common.{◌≡◌, ◌++◌, [], ◌∷◌, subst, sym, ◌∙◌}
use Rattle.ct_instance.specs.Walk.{IsWalk}
use Rattle.ct_walk.proofs.Loops.{Walked, step_rank, walked_more, walked_whole}
use Rattle.ct_walk.proofs.MoveFacts.{are_moves}
use Rattle.ct_walk.proofs.walking.walk.Goals as goal

pub loop-step-smaller : goal.loop-step-smaller
loop-step-smaller c =
    step_rank c.args.moves.now.instance c.instance-inst.ensures.checked.instance c.args.moves.now.moves (are_moves c.args.moves.now c.instance-inst.ensures.checked)
    c.loop-step.here c.step_on.new.p c.in-Some.step.0 c.in-Some.step.1 c.loop-step.invariant.point c.in-Some.ensures.step

pub loop-step-preserved : goal.loop-step-preserved
loop-step-preserved c =
    let pushed : c.push.new.self.items ≡ c.loop-step.steps.items ++ (c.in-Some.step.0, c.in-Some.step.1) ∷ [] = c.in_ok-push.ensures.items in
    record {
      walked = subst (λ s. Walked c.args.moves.now.moves c.args.p s c.step_on.new.p) (sym pushed)
          (walked_more c.args.moves.now.moves c.args.p c.loop-step.here c.step_on.new.p c.loop-step.steps.items c.in-Some.step.0 c.in-Some.step.1 c.loop-step.invariant.walked c.in-Some.ensures.step);
      point = c.in-Some.ensures.point;
      grade = c.in-Some.ensures.grade ∙ c.loop-step.invariant.grade;
    }

pub returns : goal.returns
returns c =
    let whole : IsWalk c.args.moves.now.moves c.args.p c.loop-step.steps.items c.loop-step.here =
    walked_whole c.args.moves.now.moves c.args.p c.loop-step.here c.loop-step.steps.items c.loop-step.invariant.walked c.in_default.ensures.step.0 in
    let ended : IsWalk c.args.moves.now.moves c.args.p c.loop-step.steps.items c.step_on.new.p =
    subst (λ q. IsWalk c.args.moves.now.moves c.args.p c.loop-step.steps.items q) (sym c.in_default.ensures.step.1) whole in
    subst (λ t. IsWalk c.args.moves.now.moves c.args.p t.steps t.end) (sym c.from_parts.ensures) ended

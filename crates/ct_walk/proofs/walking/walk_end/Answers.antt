use Rattle.std.proofs.Common.{◌++◌, [], ◌∷◌, subst, sym, ◌∙◌}
use Rattle.ct_instance.specs.Walk.{IsWalk}
use Rattle.ct_walk.proofs.Loops.{step_rank, walked_more, walked_whole}
use Rattle.ct_walk.proofs.MoveFacts.{are_moves}
use Rattle.ct_walk.proofs.walking.walk_end.Goals as goal

pub loop-smaller : goal.loop-smaller
loop-smaller c =
    step_rank c.args.moves.now.instance c.instance-inst.ensures.checked.instance c.args.moves.now.moves (are_moves c.args.moves.now c.instance-inst.ensures.checked)
    c.loop.p c.step_on.new.p c.in-Some.field-0.0 c.in-Some.field-0.1 c.loop.invariant.walking.point c.in-Some.ensures.step

pub loop-preserved : goal.loop-preserved
loop-preserved c = record {
  done = c.loop.invariant.done ++ (c.in-Some.field-0.0, c.in-Some.field-0.1) ∷ [];
  walking = record {
    walked = walked_more c.args.moves.now.moves c.args.p.now c.loop.p c.step_on.new.p c.loop.invariant.done c.in-Some.field-0.0 c.in-Some.field-0.1 c.loop.invariant.walking.walked c.in-Some.ensures.step;
    point = c.in-Some.ensures.point;
    grade = c.in-Some.ensures.grade ∙ c.loop.invariant.walking.grade;
  };
}

pub returns : goal.returns
returns c = record {
  steps = c.loop.invariant.done;
  walk = subst (λ q. IsWalk c.args.moves.now.moves c.args.p.now c.loop.invariant.done q) (sym c.in_default.ensures.step.1)
      (walked_whole c.args.moves.now.moves c.args.p.now c.loop.p c.loop.invariant.done c.loop.invariant.walking.walked c.in_default.ensures.step.0);
}

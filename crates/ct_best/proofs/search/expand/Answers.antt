use Rattle.std.proofs.Common.{◌+◌, ◌≤◌, sym, subst, ap, ◌∙◌, true≢false, arith}
use Rattle.ct_vectors.specs.declared.limits.TheConstants.{GRADE_LIMIT}
use Rattle.ct_instance.specs.Instance.{Problem, grade_of}
use Rattle.ct_best.proofs.Frontier.{Expanding, Looks, expanding_up, expanding_grows, expanding_passes, solution_grade, frontier_turns}
use Rattle.ct_best.proofs.search.expand.Goals as goal
use Rattle.ct_best.proofs.search.expand.Goals.{then-step_up+in_ok-put_in, else-step_up}

looks : (c : goal.After-put_in-arg-1) → Looks c.args.moves.now.instance c.deref.result.now c.args.moves.now.moves c.loop-j.found.items c.args.n c.loop-j.j c.get.result.now c.index.result.now
looks c = record {
  instance = c.deref.ensures ∙ c.instance-inst.ensures.instance;
  move = c.get.ensures.of_instance;
  in_list = omega (arith, c.loop-j-test.true, c.len-j-end.ensures.count);
  number = c.get.ensures.at;
  at = c.index.ensures;
}

looked : (c : goal.Joined-step_up) → Looks c.args.moves.now.instance c.deref.result.now c.args.moves.now.moves c.loop-j.found.items c.args.n c.loop-j.j c.get.result.now c.index.result.now
looked c = record {
  instance = c.deref.ensures ∙ c.instance-inst.ensures.instance;
  move = c.get.ensures.of_instance;
  in_list = omega (arith, c.loop-j-test.true, c.len-j-end.ensures.count);
  number = c.get.ensures.at;
  at = c.index.ensures;
}

pub put_in-requires-clause-grade : goal.put_in-requires-clause-grade
put_in-requires-clause-grade c =
    subst (λ (i : Problem). grade_of i.columns c.step_up.new.s ≤ GRADE_LIMIT) (sym (c.deref-then-step_up.ensures ∙ c.instance-inst.ensures.instance))
    (solution_grade c.args.moves.now.instance c.args.b.now c.step_up.new.s
    (expanding_up c.args.moves.now.instance c.deref.result.now c.args.b.now c.args.count c.args.moves.now.moves c.loop-j.found.items c.args.n c.loop-j.j c.loop-j.scratch c.get.result.now c.index.result.now c.step_up.new.s
    c.loop-j.invariant (looks c) c.if-step_up.ensures.up) c.requires.small)

pub loop-j-preserved : goal.loop-j-preserved
loop-j-preserved c = elim c.if-step_up.branch [
  | then-step_up+in_ok-put_in w ↦
      subst (λ ys. Expanding c.args.moves.now.instance c.args.b.now c.args.count c.args.moves.now.moves ys c.args.n (c.loop-j.j + 1) c.step_up.new.s) (ap (λ v. v.items) (sym w.found-is))
      (expanding_grows c.args.moves.now.instance c.deref.result.now w.deref-then-step_up.result.now c.args.b.now c.args.count c.args.moves.now.moves c.loop-j.found.items w.put_in.new.found.items c.args.n c.loop-j.j c.loop-j.scratch
      c.get.result.now c.index.result.now c.step_up.new.s c.loop-j.invariant (looked c) w.if-step_up.ensures.up (w.deref-then-step_up.ensures ∙ c.instance-inst.ensures.instance) w.in_ok-put_in.ensures c.step_up.ensures.point)
  | else-step_up w ↦
      subst (λ ys. Expanding c.args.moves.now.instance c.args.b.now c.args.count c.args.moves.now.moves ys c.args.n (c.loop-j.j + 1) c.step_up.new.s) (ap (λ v. v.items) (sym w.found-is))
      (expanding_passes c.args.moves.now.instance c.deref.result.now c.args.b.now c.args.count c.args.moves.now.moves c.loop-j.found.items c.args.n c.loop-j.j c.loop-j.scratch
      c.get.result.now c.index.result.now c.step_up.new.s c.loop-j.invariant (looked c) (λ can. true≢false (sym (c.step_up.ensures.applies.1 can) ∙ w.if-step_up.false)) c.step_up.ensures.point)
]

pub returns-clause-frontier : goal.returns-clause-frontier
returns-clause-frontier c =
    frontier_turns c.args.moves.now.instance c.args.b.now c.args.count c.args.moves.now.moves c.loop-j.found.items c.args.n c.loop-j.j c.loop-j.invariant.frontier
    (omega (arith, c.loop-j-test.false, c.len-j-end.ensures.count))

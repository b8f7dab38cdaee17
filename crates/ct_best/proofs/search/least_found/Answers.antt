use Rattle.std.proofs.Common.{◌+◌, ◌++◌, ◌∷◌, [], ℕ, List, sym, subst, ap, ◌∙◌, arith}
use Rattle.ct_instance.specs.Instance.{IsPoint}
use Rattle.ct_instance.proofs.Points.{least_is_point}
use Rattle.ct_best.specs.Search.{IsFrontier}
use Rattle.ct_best.proofs.Frontier.{frontier_starts, frontier_rests, frontier_ends}
use Rattle.ct_best.proofs.search.least_found.Goals as goal
use Rattle.ct_best.proofs.search.least_found.Goals.{then-n-len+in_ok-expand, else-n-len}

pub loop-n-init : goal.loop-n-init
loop-n-init c = record {
  frontier = subst (λ xs. IsFrontier c.args.moves.now.instance c.args.b.now c.args.count c.args.moves.now.moves xs 0 0)
      (sym (c.in_ok-push.ensures.items ∙ ap (λ (l : List (List ℕ)). l ++ c.args.least ∷ []) c.new-found.ensures.items))
      (frontier_starts c.args.moves.now.instance c.instance-inst.ensures.checked.instance c.args.b.now c.requires.right c.args.count c.requires.some c.args.moves.now.moves c.args.least c.requires.least c.requires.solution);
  point = subst (IsPoint c.args.moves.now.instance) (sym (c.in_ok-scratch.ensures ∙ c.requires.least)) (least_is_point c.args.moves.now.instance c.instance-inst.ensures.checked.instance c.args.b.now c.requires.right);
}

pub loop-n-preserved : goal.loop-n-preserved
loop-n-preserved c = elim c.if-n-len.branch [
  | then-n-len+in_ok-expand w ↦ record {
    frontier = subst (λ xs. IsFrontier c.args.moves.now.instance c.args.b.now c.args.count c.args.moves.now.moves xs (c.loop-n.n + 1) 0) (ap (λ v. v.items) (sym w.found-is)) w.in_ok-expand.ensures.frontier;
    point = subst (IsPoint c.args.moves.now.instance) (sym w.scratch-is) w.expand.ensures.scratch;
  }
  | else-n-len w ↦ record {
    frontier = subst (λ xs. IsFrontier c.args.moves.now.instance c.args.b.now c.args.count c.args.moves.now.moves xs (c.loop-n.n + 1) 0) (ap (λ v. v.items) (sym w.found-is))
        (frontier_rests c.args.moves.now.instance c.args.b.now c.args.count c.args.moves.now.moves c.loop-n.found.items c.loop-n.n c.loop-n.invariant.frontier (omega (arith, w.if-n-len.false, c.len.ensures)));
    point = subst (IsPoint c.args.moves.now.instance) (sym w.scratch-is) c.loop-n.invariant.point;
  }
]

pub returns : goal.returns
returns c =
    frontier_ends c.args.moves.now.instance c.instance-inst.ensures.checked.instance c.args.b.now c.requires.right c.args.count c.args.moves.now.moves c.requires.list c.loop-n.found.items c.loop-n.n
    (omega (arith, c.loop-n-test.false)) c.loop-n.invariant.frontier

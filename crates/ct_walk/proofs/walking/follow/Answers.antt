use Rattle.std.proofs.Common.{◌≡◌, ◌+◌, ℕ, ◌++◌, [], ◌∷◌, take, get_or, subst, sym, ◌∙◌, arith, IsTrue, rules}
use Rattle.std.proofs.lemmas.List.{take_more}
use Rattle.ct_walk.specs.Moves.{CanApply, Follows}
use Rattle.ct_walk.proofs.MoveFacts.{Follows-more}
use Rattle.ct_walk.proofs.walking.follow.Goals as goal

pub loop-k-preserved : goal.loop-k-preserved
loop-k-preserved c =
    let number : ℕ = (get_or c.args.steps.now c.loop-k.k (0, 0)).0 in
    let times : ℕ = (get_or c.args.steps.now c.loop-k.k (0, 0)).1 in
    let yes : IsTrue c.applies.result = search rules in
    let apply : CanApply c.args.moves.now.moves c.loop-k.p number times = c.applies.ensures.applies.0 yes in
    let more : take (c.loop-k.k + 1) c.args.steps.now ≡ take c.loop-k.k c.args.steps.now ++ (number, times) ∷ [] = take_more c.args.steps.now c.loop-k.k (0, 0) (omega arith) in
    record {
      follows = subst (λ s. Follows c.args.moves.now.moves c.args.p.now s c.make_move.new.p) (sym more)
          (subst (λ q. Follows c.args.moves.now.moves c.args.p.now (take c.loop-k.k c.args.steps.now ++ (number, times) ∷ []) q) (sym c.make_move.ensures.moved)
          (Follows-more c.args.moves.now.moves c.args.p.now c.loop-k.p (take c.loop-k.k c.args.steps.now) number times c.loop-k.invariant.follows apply));
      point = c.make_move.ensures.point;
      grade = c.make_move.ensures.grade ∙ c.loop-k.invariant.grade;
    }

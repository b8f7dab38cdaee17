use Rattle.std.proofs.Common.{◌≡◌, ◌+◌, ◌<◌, ◌≤◌, ◌++◌, [], ◌∷◌, nat_lt, cond, All, Bool, ℕ, List, length, ap, ap₂, sym, subst, ◌∙◌, arith, suc}
use Rattle.std.specs.Arc.{arc_value}
use Rattle.ct_instance.specs.Instance.{Problem, grade_of}
use Rattle.ct_instance.specs.TestSet.{Binomial}
use Rattle.ct_instance.specs.Jobs.{the_move}
use Rattle.ct_walk.specs.Moves.{IsSmallMove}
use Rattle.ct_resume.specs.Resuming.{is_under}
use Rattle.ct_resume.proofs.Cutting.{kept_more, kept_all, kept_few}
use Rattle.ct_resume.proofs.resuming.moves_under.Goals as goal

pub loop-index-preserved : goal.loop-index-preserved
loop-index-preserved c =
    let i = arc_value c.args.inst in
    let f = is_under i c.args.grade in
    let ms = c.args.moves.now.moves in
    let k = c.loop-index.index in
    let m = c.get-mv.result.now in
    let old = c.loop-index.kept.items in
    let b : Bool = nat_lt c.grade.result c.args.grade in
    let inside : k < length ms = omega (arith, c.len-index-end.ensures.count) in
    let same : c.grade.result ≡ grade_of i.columns m.head = c.grade.ensures ∙ ap₂ (λ (p : Problem) (h : List ℕ). grade_of p.columns h) c.deref.ensures c.head.ensures in
    let tests : f m ≡ b = ap (λ (g : ℕ). nat_lt g c.args.grade) (sym same) in
    let at : m ≡ the_move ms (suc k) = c.get-mv.ensures.at ∙ ap (the_move ms) (let e : k + 1 ≡ suc k = omega arith in e) in
    let small : IsSmallMove i m = subst (λ (p : Problem). IsSmallMove p m) c.requires.instance c.get-mv.ensures.of_instance in
    let made : c.push_if.new.kept.items ≡ old ++ cond b (m ∷ []) [] = c.in_ok-push_if.ensures in
    record {
      kept = made ∙ kept_more (IsSmallMove i) f ms old k m inside c.loop-index.invariant.kept at b tests;
      small = subst (All (IsSmallMove i)) (sym made) (kept_all (IsSmallMove i) f ms old k m c.loop-index.invariant.small small b);
      few = subst (λ (xs : List Binomial). length xs ≤ k + 1) (sym made) (kept_few (IsSmallMove i) f ms old k m c.loop-index.invariant.few b);
    }

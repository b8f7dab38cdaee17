use Rattle.std.proofs.Common.{◌≡◌, ◌<◌, ◌^◌, All, List, ℕ, sym, subst, ap, ◌∙◌}
use Rattle.ct_vectors.specs.Vectors.{add, subtract, scale, Divides}
use Rattle.ct_instance.specs.Instance.{IsPoint, grade_of}
use Rattle.ct_instance.specs.TestSet.{Binomial}
use Rattle.ct_instance.specs.Walk.{moved}
use Rattle.ct_walk.proofs.Steps.{moved_is_point}
use Rattle.ct_walk.proofs.MoveFacts.{moved_within, moved_grade}
use Rattle.ct_walk.proofs.walking.make_move.Goals as goal

both : (t : ℕ) (p h q : List ℕ) (m : Binomial) → h ≡ m.head → q ≡ m.tail → add (subtract p (scale t h)) (scale t q) ≡ moved m t p
both t p h q m e f = ap (λ x. add (subtract p (scale t x)) (scale t q)) e ∙ ap (λ y. add (subtract p (scale t m.head)) (scale t y)) f

pub shift-requires-clause-fits : goal.shift-requires-clause-fits
shift-requires-clause-fits c =
    let m : Binomial = c.get-mv.result.now in
    let fits : Divides (scale c.args.times m.head) c.args.p.now = subst (λ n. Divides (scale c.args.times n.head) c.args.p.now) (sym c.get-mv.ensures.at) c.requires.fits in
    subst (λ l. All (λ x. x < 2 ^ 64) l) (sym (both c.args.times c.args.p.now c.head.result.now c.tail.result.now m c.head.ensures c.tail.ensures))
    (moved_within c.args.moves.now.instance c.instance-inst.ensures.checked.instance m c.get-mv.ensures.of_instance.move c.args.times c.args.p.now c.requires.point fits c.requires.grade)

pub returns-clause-point : goal.returns-clause-point
returns-clause-point c =
    let m : Binomial = c.get-mv.result.now in
    subst (λ q. IsPoint c.args.moves.now.instance q) (sym (c.shift.ensures ∙ both c.args.times c.args.p.now c.head.result.now c.tail.result.now m c.head.ensures c.tail.ensures))
    (moved_is_point c.args.moves.now.instance m c.get-mv.ensures.of_instance.move c.args.times c.args.p.now c.requires.point)

pub returns-clause-grade : goal.returns-clause-grade
returns-clause-grade c =
    let m : Binomial = c.get-mv.result.now in
    let fits : Divides (scale c.args.times m.head) c.args.p.now = subst (λ n. Divides (scale c.args.times n.head) c.args.p.now) (sym c.get-mv.ensures.at) c.requires.fits in
    ap (grade_of c.args.moves.now.instance.columns) (c.shift.ensures ∙ both c.args.times c.args.p.now c.head.result.now c.tail.result.now m c.head.ensures c.tail.ensures) ∙
    moved_grade c.args.moves.now.instance m c.get-mv.ensures.of_instance.move c.args.times c.args.p.now c.requires.point fits

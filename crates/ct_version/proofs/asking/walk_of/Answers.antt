use Rattle.std.proofs.Common.{◌∙◌, ◌≡◌, ◌≤◌, All}
use Rattle.std.proofs.lemmas.Result.{IfOk-weaker}
use Rattle.ct_vectors.specs.declared.limits.TheConstants.{GRADE_LIMIT}
use Rattle.ct_vectors.specs.Vectors.{total}
use Rattle.ct_instance.specs.Instance.{IsPoint, start_of}
use Rattle.ct_instance.specs.Fiber.{least_of}
use Rattle.ct_instance.specs.TestSet.{test_list}
use Rattle.ct_instance.specs.Walk.{IsWalk}
use Rattle.ct_walk.specs.Moves.{Trace}
use Rattle.ct_version.proofs.Walked.{Found, asked_by, asked-grade, asked_finds}
use Rattle.ct_version.proofs.asking.walk_of.Goals as goal
use Rattle.ct_version.proofs.asking.walk_of.Goals.{After-walk}

pub walk-requires-clause-grade : goal.walk-requires-clause-grade
walk-requires-clause-grade c =
    asked-grade c.args.version.now c.args.b.now c.moves-moves.result.now.instance c.moves-moves.result.now.moves c.in_ok-start.start
    (asked_by c.args.version.now c.args.b.now c.moves-moves.result.now c.deref.result.now c.in_ok-start.start c.moves-moves.ensures.version c.requires.right c.requires.limit
    c.requires.covers c.moves-moves.ensures.instance c.moves-moves.ensures.list (c.deref.ensures ∙ c.instance.ensures.instance) c.in_ok-start.ensures)

found : (c : After-walk) (w : Trace) → IsWalk c.moves-moves.result.now.moves c.in_ok-start.start w.steps w.end → Found c.args.version.now.instance c.args.b.now w.steps w.end
found c w walk =
    asked_finds c.args.version.now c.args.b.now c.moves-moves.result.now.instance c.moves-moves.result.now.moves c.in_ok-start.start
    (asked_by c.args.version.now c.args.b.now c.moves-moves.result.now c.deref.result.now c.in_ok-start.start c.moves-moves.ensures.version c.requires.right c.requires.limit
    c.requires.covers c.moves-moves.ensures.instance c.moves-moves.ensures.list (c.deref.ensures ∙ c.instance.ensures.instance) c.in_ok-start.ensures)
    w.steps w.end walk

pub returns-clause-walk : goal.returns-clause-walk
returns-clause-walk c =
    IfOk-weaker c.walk.result (λ w. IsWalk c.moves-moves.result.now.moves c.in_ok-start.start w.steps w.end)
    (λ w. IsWalk (test_list c.args.version.now.instance (total c.args.b.now)) (start_of c.args.version.now.instance c.args.b.now) w.steps w.end)
    (λ w h. (found c w h).walk) c.walk.ensures

pub returns-clause-least : goal.returns-clause-least
returns-clause-least c =
    IfOk-weaker c.walk.result (λ w. IsWalk c.moves-moves.result.now.moves c.in_ok-start.start w.steps w.end)
    (λ w. w.end ≡ least_of c.args.version.now.instance c.args.b.now) (λ w h. (found c w h).least) c.walk.ensures

pub returns-clause-point : goal.returns-clause-point
returns-clause-point c =
    IfOk-weaker c.walk.result (λ w. IsWalk c.moves-moves.result.now.moves c.in_ok-start.start w.steps w.end)
    (λ w. IsPoint c.args.version.now.instance w.end) (λ w h. (found c w h).point) c.walk.ensures

pub returns-clause-small : goal.returns-clause-small
returns-clause-small c =
    IfOk-weaker c.walk.result (λ w. IsWalk c.moves-moves.result.now.moves c.in_ok-start.start w.steps w.end)
    (λ w. All (λ x. x ≤ GRADE_LIMIT) w.end) (λ w h. (found c w h).small) c.walk.ensures

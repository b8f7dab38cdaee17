use Rattle.std.proofs.Common.{◌≡◌, ◌<◌, ◌^◌, ℕ, List, All, sym, subst, ap, ap₂, ◌∙◌}
use Rattle.ct_vectors.specs.Vectors.{add, subtract, scale, Divides}
use Rattle.ct_vectors.proofs.Sums.{scale-one}
use Rattle.ct_instance.specs.Instance.{IsPoint}
use Rattle.ct_best.specs.Search.{CanStepUp}
use Rattle.ct_best.proofs.Backwards.{once, up, up_fits, up_is_point}
use Rattle.ct_best.proofs.steps.step_up.Goals as goal
use Rattle.ct_best.proofs.steps.step_up.Goals.{After-head, After-shift}

can : (c : After-head) → CanStepUp c.args.inst.now c.args.mv.now c.args.p.now
can c = c.can_step_up.ensures.0 c.if-can_step_up.true

-- what the code adds up, in the words of the move
sums : (c : After-head) → add (subtract c.copy_from.new.self (scale 1 c.tail.result.now)) (scale 1 c.head.result.now) ≡ up c.args.inst.now c.args.mv.now c.requires.of_instance.move c.args.p.now c.requires.point (can c).fits
sums c =
    ap₂ (λ (p t : List ℕ). add (subtract p (scale 1 t)) (scale 1 c.head.result.now)) c.copy_from.ensures c.tail.ensures ∙
    ap (λ (h : List ℕ). add (subtract c.args.p.now (scale 1 c.args.mv.now.tail)) (scale 1 h)) c.head.ensures ∙ once c.args.mv.now c.args.p.now

pub shift-requires-clause-at_most : goal.shift-requires-clause-at_most
shift-requires-clause-at_most c =
    subst (λ (t : List ℕ). Divides t c.copy_from.new.self) (sym (scale-one c.tail.result.now))
    (subst (λ (t : List ℕ). Divides t c.copy_from.new.self) (sym c.tail.ensures)
    (subst (Divides c.args.mv.now.tail) (sym c.copy_from.ensures) (can c).fits))

pub shift-requires-clause-fits : goal.shift-requires-clause-fits
shift-requires-clause-fits c =
    subst (λ (p : List ℕ). All (λ x. x < 2 ^ 64) p) (sym (sums c))
    (up_fits c.args.inst.now c.args.mv.now c.requires.of_instance.move c.args.p.now c.requires.point (can c).fits c.rows-rows.ensures.instance c.requires.grade)

same : (c : After-shift) → c.shift.new.self ≡ add (subtract c.args.p.now c.args.mv.now.tail) c.args.mv.now.head
same c =
    c.shift.ensures ∙ ap₂ (λ (p t : List ℕ). add (subtract p (scale 1 t)) (scale 1 c.head.result.now)) c.copy_from.ensures c.tail.ensures ∙
    ap (λ (h : List ℕ). add (subtract c.args.p.now (scale 1 c.args.mv.now.tail)) (scale 1 h)) c.head.ensures ∙ once c.args.mv.now c.args.p.now

pub returns-then-can_step_up-clause-up : goal.returns-then-can_step_up-clause-up
returns-then-can_step_up-clause-up c = record { can = c.can_step_up.ensures.0 c.if-can_step_up.true; gives = same c }

pub returns-then-can_step_up-clause-point : goal.returns-then-can_step_up-clause-point
returns-then-can_step_up-clause-point c =
    subst (IsPoint c.args.inst.now) (sym (same c))
    (up_is_point c.args.inst.now c.args.mv.now c.requires.of_instance.move c.args.p.now c.requires.point (c.can_step_up.ensures.0 c.if-can_step_up.true).fits)

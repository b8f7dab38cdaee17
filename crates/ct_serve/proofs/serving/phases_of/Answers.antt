use Rattle.std.proofs.Common.{rules, ◌+◌, ◌<◌, ◌≤◌, length, vec_len, subst, ◌∙◌, arith}
use Rattle.ct_instance.specs.Instance.{IsInstance}
use Rattle.std.specs.Arc.{arc_value}
use Rattle.ct_instance.specs.Versions.{Level}
use Rattle.ct_legal.specs.Legal.{IsLevelShown}
use Rattle.ct_input.specs.declared.script.Phase.{Phase}
use Rattle.ct_input.specs.Script.{IsPhase}
use Rattle.ct_book.specs.Benches.{desk_place}
use Rattle.ct_answer.proofs.Pairing.{at_item}
use Rattle.ct_serve.proofs.ReachedGrades.{reached_on, either_place}
use Rattle.ct_serve.proofs.ServedPhases.{served_more}
use Rattle.ct_serve.proofs.serving.phases_of.Goals as goal

pub run_phase-requires-clause-enough : goal.run_phase-requires-clause-enough
run_phase-requires-clause-enough g c =
    let inside : c.loop-phase.phase-index < length c.args.phases.now = omega arith in
    let enough : c.args.workers + length c.phase-item.result.sessions ≤ vec_len c.args.passes =
    at_item (λ (p : Phase). c.args.workers + length p.sessions ≤ vec_len c.args.passes) c.args.phases.now c.loop-phase.phase-index c.phase-item.result inside c.phase-item.is c.requires.enough in
    omega (arith, enough, c.loop-phase.invariant.count)

pub run_phase-requires-clause-phase : goal.run_phase-requires-clause-phase
run_phase-requires-clause-phase g c =
    let inside : c.loop-phase.phase-index < length c.args.phases.now = omega arith in
    let is : IsPhase ((c.args.shared.now.host.now.place).instance).rows c.phase-item.result =
    at_item (IsPhase ((c.args.shared.now.host.now.place).instance).rows) c.args.phases.now c.loop-phase.phase-index c.phase-item.result inside c.phase-item.is c.requires.phases in
    search rules

pub loop-phase-preserved : goal.loop-phase-preserved
loop-phase-preserved g c =
    let inside : c.loop-phase.phase-index < length c.args.phases.now = omega arith in
    let p = desk_place c.args.shared.now.host.now.place in
    let kept = c.greater_held-held.ensures in
    record {
      main = c.reach-in-loop-phase.ensures.own;
      own = c.in_ok-back.ensures.own;
      count = c.in_ok-back.ensures.count ∙ c.loop-phase.invariant.count;
      limit = c.raised-grade.ensures.limit;
      version = either_place p (arc_value c.loop-phase.held) (arc_value c.in_ok-reached.reached.version) (arc_value c.greater_held-held.result) kept.either
          c.loop-phase.invariant.version (c.in_ok-reached.ensures.held).version;
      reached = reached_on p c.args.opened c.loop-phase.grade c.raised-grade.result _ _ (arc_value c.greater_held-held.result).number
          (omega (arith, c.raised-grade.ensures.greatest)) kept.held kept.reached c.loop-phase.invariant.reached (c.in_ok-reached.ensures.held).reached;
      served = served_more p (subst IsInstance (c.deref.ensures ∙ c.requires.instance) c.rows-rows.ensures.instance) c.args.shared.now.options c.args.opened c.args.phases.now c.loop-phase.phase-index
          c.loop-phase.grade c.raised-grade.result (arc_value c.loop-phase.held).number c.loop-phase.told.items _ c.phase-item.result _ inside c.phase-item.is
          c.loop-phase.invariant.served c.raised-grade.ensures.greatest c.loop-phase.invariant.reached c.in_ok-back.ensures.told
          (subst (λ (l : Level). IsLevelShown c.args.shared.now.options.levels l c.shown-level.result) (c.in_ok-reached.ensures.held).level c.shown-level.ensures) c.in_ok-push.ensures.items;
    }

use Rattle.std.proofs.Common.{◌≡◌, get_or, ap, sym, subst, ◌∙◌}
use Rattle.std.specs.Arc.{arc_value}
use Rattle.ct_instance.specs.Instance.{Problem, IsInstance}
use Rattle.ct_solo.specs.Seen.{place_of}
use Rattle.ct_version.specs.Editions.{Edition}
use Rattle.ct_version.specs.Answers.{IsAnswered}
use Rattle.ct_version.specs.Desks.{Place, IsOfPlace}
use Rattle.ct_answer.proofs.solver.Solver.prepare.Goals as goal

pub invariant_of-self : goal.invariant_of-self
invariant_of-self g c =
    λ k d lt.
    let here : c.args.self.now ≡ place_of c.self.inside.solo = sym (c.self.view_is ∙ c.in_ok-version.ensures.place) in
    let of_place : IsOfPlace (place_of c.self.inside.solo) (arc_value c.in_ok-version.version) = subst (λ (p : Place). IsOfPlace p (arc_value c.in_ok-version.version)) here c.in_ok-version.ensures.version in
    let at : c.deref.result.now ≡ arc_value c.in_ok-version.version = c.deref.ensures in
    record {
      version = arc_value c.in_ok-version.version;
      instance = subst (λ (i : Problem). IsInstance i) (ap (λ (v : Edition). v.instance) at ∙ (of_place).instance) (c.number-number.ensures.version).instance;
      of_place = of_place;
      answered = subst (λ (v : Edition). IsAnswered v (get_or c.in_ok-self-inside.field-0.items k d).right (get_or c.in_ok-self-inside.field-0.items k d).answered) c.deref-3.ensures (c.in_ok-self-inside.ensures k d lt);
    }

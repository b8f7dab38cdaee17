use Rattle.std.proofs.Common.{rules, ◌≡◌, IfOk, IfErr}
use Rattle.std.specs.Arc.{arc_value}
use Rattle.ct_instance.specs.Instance.{IsRight}
use Rattle.ct_instance.specs.Fiber.{least_of}
use Rattle.ct_version.specs.Editions.{IsEdition}
use Rattle.ct_session.proofs.Pinned.{point_after}
use Rattle.ct_session.proofs.sessions.Session.ask.Goals as goal

pub invariant_of-self : goal.invariant_of-self
invariant_of-self g c =
    let right : IsRight (g.D.Desk.place c.self.inside.desk).instance c.args.b.now = search rules in
    let edition : IsEdition (arc_value c.self.inside.version) = search rules in
    let ok : IfOk c.answer_into.result (λ _. c.answer_into.new.scratch ≡ least_of (arc_value c.self.inside.version).instance c.args.b.now) = search rules in
    let err : IfErr c.answer_into.result (λ _. c.answer_into.new.scratch ≡ c.self.inside.scratch) = search rules in (
      c.self.invariant.0,
      point_after (g.D.Desk.place c.self.inside.desk).instance (arc_value c.self.inside.version) c.args.b.now c.self.inside.scratch c.answer_into.new.scratch
          c.answer_into.result edition c.self.invariant.0.instance right c.self.invariant.1 ok err,
    )

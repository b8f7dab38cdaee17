use Rattle.std.proofs.Common.{rules, ◌≡◌, sym, subst}
use Rattle.std.specs.Arc.{arc_value}
use Rattle.ct_instance.specs.Instance.{IsRight, IsPoint}
use Rattle.ct_version.specs.Editions.{IsEdition}
use Rattle.ct_version.specs.Answers.{IsAnswered}
use Rattle.ct_session.proofs.Pinned.{end_point}
use Rattle.ct_session.proofs.sessions.Session.ask_walk.Goals as goal

pub settle-requires : goal.settle-requires
settle-requires g c =
    let right : IsRight (g.D.Desk.place c.repin.new.self.desk).instance c.args.b.now = search rules in
    let edition : IsEdition (arc_value c.self.inside.version) = search rules in
    let same : (arc_value c.self.inside.version).instance ≡ (g.D.Desk.place c.repin.new.self.desk).instance = search rules in
    let answered : IsAnswered (arc_value c.self.inside.version) c.args.b.now c.in_ok-answered.answered = search rules in
    record {
      point = subst (IsPoint (g.D.Desk.place c.repin.new.self.desk).instance) (sym c.end.ensures)
          (end_point (g.D.Desk.place c.repin.new.self.desk).instance (arc_value c.self.inside.version) c.args.b.now c.in_ok-answered.answered edition same right answered);
    }

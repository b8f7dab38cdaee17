use Rattle.std.proofs.Common.{rules, ◌≡◌, subst}
use Rattle.std.specs.Arc.{arc_value}
use Rattle.ct_instance.specs.Versions.{Covers, level_of}
use Rattle.ct_version.specs.Editions.{IsEdition}
use Rattle.ct_version.specs.Desks.{Place, IsOfPlace}
use Rattle.ct_levels.proofs.Levels.{levels_rise}
use Rattle.ct_session.proofs.Reached.{covers_open}
use Rattle.ct_session.proofs.sessions.Session.reach.Goals as goal

pub returns-then-covers-clause-open_to : goal.returns-then-covers-clause-open_to
returns-then-covers-clause-open_to g c =
    let edition : IsEdition (arc_value c.self.inside.version) = search rules in
    let of_place : IsOfPlace (g.D.Desk.place c.args.self.now.desk) (arc_value c.self.inside.version) = search rules in
    let covers : Covers (level_of (g.D.Desk.place c.args.self.now.desk).instance (arc_value c.self.inside.version).number) c.args.target = search rules in
    covers_open (g.D.Desk.place c.args.self.now.desk) (arc_value c.self.inside.version) c.args.target edition of_place covers

pub returns-in-Ok-clause-covers : goal.returns-in-Ok-clause-covers
returns-in-Ok-clause-covers g c =
    let same : g.D.Desk.place c.self.inside.desk ≡ g.D.Desk.place c.args.self.now.desk = search rules in
    levels_rise (g.D.Desk.place c.args.self.now.desk).instance (arc_value c.in-Ok.helped.version).number c.hold.new.self.pinned.number c.args.target
    c.hold.ensures.at_least
    (subst (λ (p : Place). Covers (level_of p.instance (arc_value c.in-Ok.helped.version).number) c.args.target) same c.in-Ok.ensures.ok.covers)

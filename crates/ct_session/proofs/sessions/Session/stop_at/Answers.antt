use Rattle.std.proofs.Common.{refl}
use Rattle.std.specs.Arc.{arc_value}
use Rattle.ct_session.proofs.Reached.{full_stays}
use Rattle.ct_session.proofs.sessions.Session.stop_at.Goals as goal

pub returns-clause-full : goal.returns-clause-full
returns-clause-full g c = (
  refl,
  full_stays (g.D.Desk.place c.args.self.now.desk) c.hold.new.self.pinned c.args.target (arc_value c.args.mark.version).number c.args.mark.grade
      c.hold.ensures.edition c.hold.ensures.version c.requires.grade c.requires.finished c.hold.ensures.at_least,
)

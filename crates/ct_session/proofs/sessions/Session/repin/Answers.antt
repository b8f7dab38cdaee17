use Rattle.std.proofs.Common.{rules, ◌≡◌}
use Rattle.ct_vectors.specs.Words.{latest}
use Rattle.ct_session.proofs.Pinned.{refused_pin_keeps}
use Rattle.ct_session.proofs.sessions.Session.repin.Goals as goal

pub returns-in-Memory-clause-pinned : goal.returns-in-Memory-clause-pinned
returns-in-Memory-clause-pinned g c =
    let same : c.args.self.now.pinned.number ≡ c.self.inside.version.value.number = search rules in
    let asked : c.number.result ≡ c.self.inside.version.value.number = search rules in
    let start : g.D.Desk.refused c.args.self.now.desk ≡ g.D.Desk.refused c.self.inside.desk = search rules in
    refused_pin_keeps c.args.self.now.pinned.number c.number.result c.self.inside.version.value.number (latest (g.D.Desk.words c.pin.new.self))
    (g.D.Desk.refused c.args.self.now.desk) (g.D.Desk.refused c.self.inside.desk) (g.D.Desk.refused c.pin.new.self) same asked start
    c.in-Memory.ensures.answer.0 c.in-Memory.ensures.answer.1 c.in-Memory.ensures.refused

use Rattle.std.proofs.Common.{rules, length, drop}
use Rattle.ct_version.specs.Answers.{IsAnswered}
use Rattle.ct_session.proofs.Reached.{instance_of}
use Rattle.ct_session.proofs.Shown.{solve_answered, solve_full}
use Rattle.ct_session.proofs.sessions.Session.tell_solve.Goals as goal

pub returns-in-Ok-clause-shown : goal.returns-in-Ok-clause-shown
returns-in-Ok-clause-shown g c =
    let answered : IsAnswered c.solve.new.self.pinned c.args.b.now c.in-Ok.answered = search rules in
    solve_answered (g.D.Desk.place c.args.self.now.desk) c.args.walks (g.D.Desk.refused c.args.self.now.desk) (g.D.Desk.refused c.solve.new.self.desk)
    c.args.self.now.pinned.number c.args.b.now c.in-Ok.answered c.answered_line.result c.solve.new.self.pinned
    (drop (length (g.D.Desk.words c.args.self.now.desk)) (g.D.Desk.words c.solve.new.self.desk))
    (instance_of (g.D.Desk.place c.args.self.now.desk) c.args.self.now.pinned c.pinned-number.ensures.edition c.pinned-number.ensures.version)
    c.solve.ensures.version c.solve.ensures.never_falls answered c.in-Ok.ensures.open_to c.answered_line.ensures

pub returns-in-Err-Full-clause-shown : goal.returns-in-Err-Full-clause-shown
returns-in-Err-Full-clause-shown g c =
    solve_full (g.D.Desk.place c.args.self.now.desk) c.args.walks (g.D.Desk.refused c.args.self.now.desk) (g.D.Desk.refused c.solve.new.self.desk)
    c.args.self.now.pinned.number c.args.b.now c.in-Err-Full.grade c.solve.new.self.pinned
    (drop (length (g.D.Desk.words c.args.self.now.desk)) (g.D.Desk.words c.solve.new.self.desk))
    c.solve.ensures.version c.solve.ensures.never_falls (c.in-Err-Full.ensures.full c.in-Err-Full.grade c.in-Err-Full.field-0-is)

use Rattle.std.proofs.Common.{rules}
use Rattle.ct_version.specs.Answers.{IsAnswered}
use Rattle.ct_vectors.specs.Words.{latest}
use Rattle.ct_session.specs.declared.lines.Line.TheVariants.{NotYet}
use Rattle.ct_session.proofs.Shown.{ask_answered, ask_not_yet, ask_shown}
use Rattle.ct_session.proofs.sessions.Session.tell_ask.Goals as goal

pub returns-in-Ok-clause-shown : goal.returns-in-Ok-clause-shown
returns-in-Ok-clause-shown g c =
    let answered : IsAnswered c.ask_walk.new.self.pinned c.args.b.now c.in-Ok.answered = search rules in
    ask_shown (g.D.Desk.place c.args.self.now.desk) c.args.walks (g.D.Desk.refused c.args.self.now.desk) (g.D.Desk.refused c.ask_walk.new.self.desk)
    c.args.self.now.pinned.number (latest (g.D.Desk.words c.ask_walk.new.self.desk)) c.args.b.now c.answered_line.result c.ask_walk.new.self.pinned
    (g.D.Desk.words c.args.self.now.desk) (g.D.Desk.words c.ask_walk.new.self.desk) c.ask_walk.ensures.version c.ask_walk.ensures.pinned
    (ask_answered (g.D.Desk.place c.args.self.now.desk) c.ask_walk.new.self.pinned c.args.b.now c.in-Ok.answered c.args.walks c.answered_line.result
    c.ask_walk.ensures.version answered c.answered_line.ensures)
    c.ask_walk.ensures.one_word

pub returns-in-Err-NotYet-clause-shown : goal.returns-in-Err-NotYet-clause-shown
returns-in-Err-NotYet-clause-shown g c =
    ask_shown (g.D.Desk.place c.args.self.now.desk) c.args.walks (g.D.Desk.refused c.args.self.now.desk) (g.D.Desk.refused c.ask_walk.new.self.desk)
    c.args.self.now.pinned.number (latest (g.D.Desk.words c.ask_walk.new.self.desk)) c.args.b.now (NotYet c.in-Err-NotYet.finished) c.ask_walk.new.self.pinned
    (g.D.Desk.words c.args.self.now.desk) (g.D.Desk.words c.ask_walk.new.self.desk) c.ask_walk.ensures.version c.ask_walk.ensures.pinned
    (ask_not_yet (g.D.Desk.place c.args.self.now.desk) c.ask_walk.new.self.pinned c.args.b.now c.in-Err-NotYet.finished c.args.walks c.ask_walk.ensures.version
    (c.in-Err-NotYet.ensures.not_yet c.in-Err-NotYet.finished c.in-Err-NotYet.field-0-is))
    c.ask_walk.ensures.one_word

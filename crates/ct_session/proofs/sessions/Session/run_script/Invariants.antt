use Rattle.std.proofs.Common.{◌≡◌, ◌≤◌, length, drop, take}
use Rattle.ct_vectors.specs.Words.{Extends}
use Rattle.ct_session.specs.Sessions.{Rises}
use Rattle.ct_session.specs.Shown.{AreShown}
use Rattle.ct_session.proofs.sessions.Session.run_script.Given as goal

abbrev pub invariant-loop-turn : goal.invariant-loop-turn
invariant-loop-turn g l = record {
  home : g.D.Desk.home l.self.desk ≡ g.D.Desk.home l.fn.self.desk;
  loan : g.D.Desk.loan l.self.desk ≡ g.D.Desk.loan l.fn.self.desk;
  place : g.D.Desk.place l.self.desk ≡ g.D.Desk.place l.fn.self.desk;
  words : Extends (g.D.Desk.words l.fn.self.desk) (g.D.Desk.words l.self.desk);
  refused : Rises (g.D.Desk.refused l.fn.self.desk) (g.D.Desk.refused l.self.desk);
  never_falls : l.fn.self.pinned.number ≤ l.self.pinned.number;
  shown :
      AreShown (g.D.Desk.place l.fn.self.desk) l.walks (g.D.Desk.refused l.fn.self.desk) (g.D.Desk.refused l.self.desk) l.fn.self.pinned.number
      (take l.turn l.script) l.lines.items (drop (length (g.D.Desk.words l.fn.self.desk)) (g.D.Desk.words l.self.desk)) l.self.pinned.number;
}

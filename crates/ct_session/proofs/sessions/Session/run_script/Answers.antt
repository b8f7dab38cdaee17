use Rattle.std.proofs.Common.{rules, ◌≡◌, ◌++◌, [], ◌∷◌, length, drop, refl, subst, ◌∙◌, arith}
use Rattle.ct_version.specs.Desks.{Place}
use Rattle.ct_session.specs.Shown.{AreShown}
use Rattle.ct_session.proofs.Shown.{no_more_words, none_shown, words_joined, rises_joined, shown_more}
use Rattle.ct_session.proofs.sessions.Session.run_script.Goals as goal

pub loop-turn-init : goal.loop-turn-init
loop-turn-init g c =
    let empty : c.in_ok-lines.lines.items ≡ [] = search rules in
    record {
      home = refl;
      loan = refl;
      place = refl;
      words = no_more_words (g.D.Desk.words c.args.self.now.desk);
      refused = λ room. (omega arith, room);
      never_falls = omega arith;
      shown =
          none_shown (g.D.Desk.place c.args.self.now.desk) c.args.walks (g.D.Desk.refused c.args.self.now.desk) c.args.self.now.pinned.number
          c.in_ok-lines.lines.items (g.D.Desk.words c.args.self.now.desk) empty;
    }

pub loop-turn-preserved : goal.loop-turn-preserved
loop-turn-preserved g c =
    let pushed : c.push.new.self.items ≡ c.loop-turn.lines.items ++ c.in_ok-line.line ∷ [] = search rules in
    record {
      home = c.tell.ensures.home ∙ c.loop-turn.invariant.home;
      loan = c.tell.ensures.loan ∙ c.loop-turn.invariant.loan;
      place = c.tell.ensures.place ∙ c.loop-turn.invariant.place;
      words =
          (words_joined (g.D.Desk.words c.args.self.now.desk) (g.D.Desk.words c.loop-turn.self.desk) (g.D.Desk.words c.tell.new.self.desk)
          c.loop-turn.invariant.words c.tell.ensures.words).0;
      refused =
          rises_joined (g.D.Desk.refused c.args.self.now.desk) (g.D.Desk.refused c.loop-turn.self.desk) (g.D.Desk.refused c.tell.new.self.desk)
          c.loop-turn.invariant.refused c.tell.ensures.refused;
      never_falls = omega (arith, c.loop-turn.invariant.never_falls, c.tell.ensures.never_falls);
      shown =
          shown_more (g.D.Desk.place c.args.self.now.desk) c.args.walks (g.D.Desk.refused c.args.self.now.desk) (g.D.Desk.refused c.loop-turn.self.desk)
          (g.D.Desk.refused c.tell.new.self.desk) c.args.self.now.pinned.number c.loop-turn.self.pinned.number c.tell.new.self.pinned.number
          c.args.script.now c.loop-turn.turn c.index-script-turn.result c.loop-turn.lines.items c.push.new.self.items c.in_ok-line.line
          (g.D.Desk.words c.args.self.now.desk) (g.D.Desk.words c.loop-turn.self.desk) (g.D.Desk.words c.tell.new.self.desk)
          c.loop-turn-test.true c.index-script-turn.is pushed c.loop-turn.invariant.refused c.tell.ensures.refused c.loop-turn.invariant.words c.tell.ensures.words
          c.loop-turn.invariant.shown
          (subst
          (λ (q : Place). AreShown q c.args.walks (g.D.Desk.refused c.loop-turn.self.desk) (g.D.Desk.refused c.tell.new.self.desk) c.loop-turn.self.pinned.number
          (c.index-script-turn.result ∷ []) (c.in_ok-line.line ∷ []) (drop (length (g.D.Desk.words c.loop-turn.self.desk)) (g.D.Desk.words c.tell.new.self.desk))
          c.tell.new.self.pinned.number)
          c.loop-turn.invariant.place c.in_ok-line.ensures.shown);
    }

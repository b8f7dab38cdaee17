use Rattle.std.proofs.Common.{arith}
use Rattle.std.proofs.lemmas.Result.{on_ok_weaker}
use Rattle.ct_solo.specs.Agendas.{graded}
use Rattle.ct_solo.proofs.AgendaFacts.{taken_beyond, taken_past, taken_put}
use Rattle.ct_solo.proofs.agenda.Agenda.take_in.Goals as goal

pub returns-then-self-grade-clause-taken : goal.returns-then-self-grade-clause-taken
returns-then-self-grade-clause-taken c ms js left h =
    taken_beyond ms js c.args.self.now h (graded c.args.grade c.args.job) c.lesser.result (omega (arith, c.if-self-grade.true)) c.lesser.ensures.most c.lesser.ensures.at

pub returns-then-grade-self-clause-taken : goal.returns-then-grade-self-clause-taken
returns-then-grade-self-clause-taken c ms js left h =
    taken_past ms js c.args.self.now h (graded c.args.grade c.args.job) (omega (arith, c.if-grade-self.true)) (omega (arith, c.if-self-grade.false))

pub returns-clause-taken : goal.returns-clause-taken
returns-clause-taken c =
    on_ok_weaker c.put.result
    (λ p ms js left h.
    taken_put ms js c.args.self.now h c.put.new.self (record { opened = c.put.ensures.opened; top = c.put.ensures.top; beyond = c.put.ensures.beyond })
    c.args.grade c.args.job c.args.out p (omega (arith, c.if-grade-self.false)) (omega (arith, c.if-self-grade.false)) left)
    c.put.ensures.put

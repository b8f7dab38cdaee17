use Rattle.std.proofs.Common.{List, All, sym, subst}
use Rattle.std.proofs.lemmas.List.Elements.{All-push}
use Rattle.ct_version.specs.Answers.{IsAnswered}
use Rattle.ct_answer.specs.declared.prepared.Prepared.{Prepared}
use Rattle.ct_answer.proofs.Beforehand.{zip_last}
use Rattle.ct_answer.proofs.prepared.prepare.Goals as goal

pub loop-answered-preserved-in-Continue-branch-2 : goal.loop-answered-preserved-in-Continue-branch-2
loop-answered-preserved-in-Continue-branch-2 g c =
    let R = IsAnswered c.args.version.now in
    let parts = zip_last R c.pop-in-Some.new.self.items c.pop.new.self.items c.in-Some-pop.right c.in-Some.answered
    (rw (sym c.in-Some-pop.ensures.items, sym c.in-Some.ensures.items) c.loop-answered.invariant.left) in
    record {
      left = parts.0;
      prepared = subst (All (λ (x : Prepared). R x.right x.answered)) (sym {A = List Prepared} c.in_ok-push.ensures.items)
          (All-push (λ (x : Prepared). R x.right x.answered) c.loop-answered.prepared.items (record { right = c.in-Some-pop.right; answered = c.in-Some.answered }) c.loop-answered.invariant.prepared parts.1);
    }

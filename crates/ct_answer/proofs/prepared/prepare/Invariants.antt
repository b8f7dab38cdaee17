use Rattle.std.proofs.Common.{All, length}
use Rattle.std.specs.List.{AllZip}
use Rattle.ct_version.specs.Answers.{IsAnswered}
use Rattle.ct_answer.specs.declared.prepared.Prepared.{Prepared}
use Rattle.ct_answer.proofs.prepared.prepare.Given as goal

abbrev pub invariant-loop-answered : goal.invariant-loop-answered
invariant-loop-answered g l = record {
  left : AllZip (IsAnswered l.version) l.rights.items l.answers.items;
  prepared : All (λ (x : Prepared). IsAnswered l.version x.right x.answered) l.prepared.items;
}

abbrev pub decreases-loop-answered : goal.decreases-loop-answered
decreases-loop-answered g l = length l.answers.items

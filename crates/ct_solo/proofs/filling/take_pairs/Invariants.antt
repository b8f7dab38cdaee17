use Rattle.std.proofs.Common.{◌≡◌, ◌++◌, List, length}
use Rattle.ct_jobs.specs.declared.graded.GradedJob.{GradedJob}
use Rattle.ct_solo.specs.Agendas.{IsAgenda}
use Rattle.ct_solo.proofs.Fillings.{rows_to}
use Rattle.ct_solo.proofs.filling.take_pairs.Given as goal

abbrev pub invariant-loop-i : goal.invariant-loop-i
invariant-loop-i l = record {
  taken : (js : List GradedJob) → IsAgenda l.moves.moves js l.initial.agenda → IsAgenda l.moves.moves (js ++ rows_to l.moves.instance l.moves.moves l.from (length l.moves.moves) l.i) l.agenda;
  opened : l.agenda.opened ≡ l.initial.agenda.opened;
  top : l.agenda.top ≡ l.initial.agenda.top;
}

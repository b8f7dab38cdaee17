use Rattle.std.proofs.Common.{◌≡◌, ◌<◌, ◌-◌, ◌++◌, List, max, length}
use Rattle.ct_jobs.specs.declared.graded.GradedJob.{GradedJob}
use Rattle.ct_solo.specs.Agendas.{IsAgenda}
use Rattle.ct_solo.proofs.Fillings.{row_to}
use Rattle.ct_solo.proofs.filling.take_row.Given as goal

abbrev pub invariant-loop-k : goal.invariant-loop-k
invariant-loop-k l = record {
  taken : (js : List GradedJob) → IsAgenda l.moves.moves js l.initial.agenda → IsAgenda l.moves.moves (js ++ row_to l.moves.instance l.moves.moves l.from l.i l.k) l.agenda;
  start : length l.moves.moves < l.k → l.k ≡ max l.i (l.from - 1);
  opened : l.agenda.opened ≡ l.initial.agenda.opened;
  top : l.agenda.top ≡ l.initial.agenda.top;
}

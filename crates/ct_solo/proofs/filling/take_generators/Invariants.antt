use Rattle.std.proofs.Common.{◌≡◌, []}
use Rattle.ct_solo.specs.Agendas.{IsAgenda}
use Rattle.ct_solo.proofs.Fillings.{generators_to}
use Rattle.ct_solo.proofs.filling.take_generators.Given as goal

abbrev pub invariant-loop-j : goal.invariant-loop-j
invariant-loop-j l = record {
  taken : IsAgenda [] [] l.initial.agenda → IsAgenda [] (generators_to l.moves.instance l.j) l.agenda;
  opened : l.agenda.opened ≡ l.initial.agenda.opened;
  top : l.agenda.top ≡ l.initial.agenda.top;
}

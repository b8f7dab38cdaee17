use Rattle.std.proofs.Common.{◌≡◌, ◌≤◌, max, All, vec_len}
use Rattle.std.specs.Arc.{arc_value}
use Rattle.ct_vectors.specs.declared.limits.TheConstants.{GRADE_LIMIT}
use Rattle.ct_version.specs.Desks.{IsOfPlace}
use Rattle.ct_session.specs.Shown.{HasReached}
use Rattle.ct_book.specs.Benches.{desk_place}
use Rattle.ct_host.specs.Hosts.{IsOfHost}
use Rattle.ct_serve.proofs.ServedPhases.{AreServedUpto}
use Rattle.ct_serve.proofs.serving.phases_of.Given as goal

abbrev pub invariant-loop-phase : goal.invariant-loop-phase
invariant-loop-phase g l = record {
  main : IsOfHost l.shared.host.now l.main;
  own : All (IsOfHost l.shared.host.now) l.passes.items;
  count : vec_len l.passes ≡ vec_len l.initial.passes;
  limit : l.grade ≤ GRADE_LIMIT;
  version : IsOfPlace (desk_place l.shared.host.now.place) (arc_value l.held);
  reached : HasReached (desk_place l.shared.host.now.place) (max l.opened l.grade) (arc_value l.held).number;
  served : AreServedUpto (desk_place l.shared.host.now.place) l.shared.options l.opened l.phases l.phase-index l.grade l.told.items;
}

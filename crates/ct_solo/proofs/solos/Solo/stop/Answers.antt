use Rattle.std.proofs.Common.{◌≡◌, Some, sym, ap, subst, ◌∙◌}
use Rattle.std.specs.Arc.{arc_value}
use Rattle.ct_instance.specs.Versions.{IsFullGrade}
use Rattle.ct_instance.specs.Reach.{opened_grade}
use Rattle.ct_version.specs.Desks.{IsFullMark}
use Rattle.ct_solo.specs.Seen.{SoloSeen, place_of, edition_of, IsCovered}
use Rattle.ct_solo.specs.Insides.{Insides}
use Rattle.ct_handing.proofs.Short.{short_of}
use Rattle.ct_solo.proofs.Keeping.{insides, full_mark}
use Rattle.ct_solo.proofs.solos.Solo.stop.Goals as goal

pub returns-in-Ok : goal.returns-in-Ok
returns-in-Ok c =
    let x : Insides = insides (arc_value c.self.inside.version) c.self.inside.limit c.self.inside.full c.self.inside.levels.items c.self.inside.whole c.self.inside.agenda in
    let f = c.requires.full in
    let full : IsFullGrade (x.version).instance x.limit f.0 = subst (λ (s : SoloSeen). IsFullGrade s.instance s.limit f.0) (sym c.self.view_is) f.2 in
    let opened : opened_grade (x.version).instance (x.version).number ≡ Some f.0 = subst (λ (s : SoloSeen). opened_grade s.instance s.number ≡ Some f.0) (sym c.self.view_is) f.1 in (
      subst (λ (s : SoloSeen). IsFullMark (place_of s) c.args.grade c.in-Ok.mark) c.self.view_is
          (full_mark x c.self.invariant c.args.grade c.in-Ok.mark f.0
          (short_of x.version c.args.grade (λ k. c.requires.beyond (subst (λ (s : SoloSeen). IsCovered s c.args.grade) c.self.view_is k))) full opened c.in-Ok.ensures.grade c.in-Ok.ensures.version),
      c.in-Ok.ensures.version ∙ ap edition_of c.self.view_is,
    )

use Rattle.std.proofs.Common.{◌≡◌, sym, subst}
use Rattle.std.specs.Arc.{arc_value}
use Rattle.ct_instance.specs.Reach.{first_level_from}
use Rattle.ct_version.specs.Desks.{IsHelp}
use Rattle.ct_version.specs.Editions.{level_seen}
use Rattle.ct_solo.specs.Seen.{SoloSeen, place_of, IsCovered}
use Rattle.ct_solo.specs.Insides.{Insides}
use Rattle.ct_solo.proofs.Brought.{both_ok}
use Rattle.ct_solo.proofs.Keeping.{insides, reached_help}
use Rattle.ct_solo.proofs.solos.Solo.help.Goals as goal

pub returns-clause-help : goal.returns-clause-help
returns-clause-help c =
    let x : Insides = insides (arc_value c.self.inside.version) c.self.inside.limit c.self.inside.full c.self.inside.levels.items c.self.inside.whole c.self.inside.agenda in
    both_ok c.helped.result (λ h. arc_value h.version ≡ x.version) (λ h. level_seen h.level ≡ first_level_from (x.version).instance c.args.grade) (λ h. IsHelp (place_of c.args.self.now) c.args.grade h)
    (λ h version level. subst (λ (s : SoloSeen). IsHelp (place_of s) c.args.grade h) c.self.view_is
    (reached_help x c.self.invariant c.args.grade h (subst (λ (s : SoloSeen). IsCovered s c.args.grade) (sym c.self.view_is) c.requires) version level))
    c.helped.ensures.version c.helped.ensures.level

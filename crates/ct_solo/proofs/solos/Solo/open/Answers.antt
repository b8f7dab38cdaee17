use Rattle.std.proofs.Common.{◌≡◌, [], sym, subst, ◌∙◌, arith}
use Rattle.std.specs.Arc.{arc_value}
use Rattle.ct_instance.specs.Instance.{Problem}
use Rattle.ct_instance.specs.Versions.{level_of}
use Rattle.ct_levels.proofs.Levels.{list_zero}
use Rattle.ct_version.specs.Editions.{Edition, IsEdition, level_seen}
use Rattle.ct_solo.specs.Insides.{HasAgenda}
use Rattle.ct_solo.proofs.Brought.{agenda_at_zero, level_from_agenda}
use Rattle.ct_solo.proofs.Keeping.{zero_solo}
use Rattle.ct_solo.proofs.solos.Solo.open.Goals as goal

abbrev first_of : Problem → Edition
first_of i = record { instance = i; number = 0 }

pub new-requires-clause-list : goal.new-requires-clause-list
new-requires-clause-list c = c.new-moves.ensures.moves ∙ sym (list_zero c.new-moves.result.instance)

pub new-requires-clause-level : goal.new-requires-clause-level
new-requires-clause-level c =
    let i = c.new-moves.result.instance in
    let a = c.take_generators.new.agenda in
    let has : HasAgenda (first_of i) a = agenda_at_zero i a (c.in_ok-take_generators.ensures.taken (c.new-agenda.ensures.none [])) (c.take_generators.ensures.opened ∙ c.new-agenda.ensures.opened) in
    c.below-finished.ensures ∙ level_from_agenda (first_of i) a tt has c.next.result c.next.ensures

pub invariant_of-result : goal.invariant_of-result
invariant_of-result c =
    let i = c.new-moves.result.instance in
    let a = c.take_generators.new.agenda in
    let has : HasAgenda (first_of i) a = agenda_at_zero i a (c.in_ok-take_generators.ensures.taken (c.new-agenda.ensures.none [])) (c.take_generators.ensures.opened ∙ c.new-agenda.ensures.opened) in
    let level : level_seen c.below-finished.result ≡ level_of i 0 =
    c.below-finished.ensures ∙ level_from_agenda (first_of i) a tt has c.next.result c.next.ensures in
    let top : a.top ≡ c.args.top = c.take_generators.ensures.top ∙ c.new-agenda.ensures.top in
    zero_solo i (arc_value c.in_ok-version.version) (c.in_ok-version.ensures ∙ c.new.ensures) (subst IsEdition c.deref.ensures c.number-number.ensures.version)
    c.args.limit c.requires.most a (omega (arith, top, c.requires.top)) c.in_ok-levels.levels.items c.below-finished.result c.in_ok-levels.ensures level has

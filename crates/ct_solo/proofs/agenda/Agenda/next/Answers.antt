use Rattle.std.proofs.Common.{true≢false, sym, ap}
use Rattle.std.specs.Option.{option_map}
use Rattle.std.specs.Ordering.{nat_cmp}
use Rattle.std.specs.BTreeMap.{get, is_at}
use Rattle.ct_solo.proofs.AgendaFacts.{next_is_first, next_is_beyond}
use Rattle.ct_solo.proofs.Looks.{not_above, some_there, none_there}
use Rattle.ct_solo.proofs.agenda.Agenda.next.Goals as goal

pub returns-in-Some : goal.returns-in-Some
returns-in-Some c ms js h =
    next_is_first ms js c.args.self.now h c.in-Some.grade.now c.in-Some.field-0-1.now.items (ap (option_map (λ v. v.items)) c.in-Some.ensures.value)
    (λ k more e. not_above c.in-Some.grade.now k (c.in-Some.ensures.least k (some_there (λ v. v.items) (get nat_cmp c.args.self.now.grades k) more e)))

pub returns-in-None : goal.returns-in-None
returns-in-None c ms js h =
    next_is_beyond ms js c.args.self.now h c.requires
    (λ k. ap (option_map (λ v. v.items)) (none_there (is_at (nat_cmp k)) c.args.self.now.grades.entries (λ l. true≢false (sym (c.in-None.ensures.variant.1 l)))))

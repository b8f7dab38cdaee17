use Rattle.std.proofs.Common.{◌≡◌, List, Some, None, refl, sym, subst, ◌∙◌, ap, map}
use Rattle.std.specs.Prelude.{position, nat_eq}
use Rattle.ct_workers.specs.declared.held.Held.{Held}
use Rattle.ct_workers.proofs.Oldest.{pending, oldest_at, oldest_none}
use Rattle.ct_workers.proofs.held.Backlog.take_oldest.Goals as goal

pub returns-in-None-clause-first : goal.returns-in-None-clause-first
returns-in-None-clause-first c =
    let found : None ≡ position (λ (h : Held). nat_eq h.by c.args.by) c.self.inside.held.items = subst (λ (hs : List Held). None ≡ position (λ (h : Held). nat_eq h.by c.args.by) hs) c.deref.ensures.value c.in-None.ensures.place in
    rw (← c.self.view_is) ((oldest_none c.args.by c.self.inside.held.items found).0, refl)

pub returns-in-None-clause-rest : goal.returns-in-None-clause-rest
returns-in-None-clause-rest c =
    let found : None ≡ position (λ (h : Held). nat_eq h.by c.args.by) c.self.inside.held.items = subst (λ (hs : List Held). None ≡ position (λ (h : Held). nat_eq h.by c.args.by) hs) c.deref.ensures.value c.in-None.ensures.place in
    rw (← c.self.view_is) ((oldest_none c.args.by c.self.inside.held.items found).1)

pub returns-in-Some-clause-first : goal.returns-in-Some-clause-first
returns-in-Some-clause-first c =
    let found : Some c.in-Some.place ≡ position (λ (h : Held). nat_eq h.by c.args.by) c.self.inside.held.items =
    subst (λ (hs : List Held). Some c.in-Some.place ≡ position (λ (h : Held). nat_eq h.by c.args.by) hs) c.deref.ensures.value c.in-Some.ensures.place in
    rw (← c.self.view_is) ((oldest_at c.args.by c.self.inside.held.items c.in-Some.place c.remove-remainder.result found c.remove-remainder.ensures.value).0)

pub returns-in-Some-clause-rest : goal.returns-in-Some-clause-rest
returns-in-Some-clause-rest c =
    let found : Some c.in-Some.place ≡ position (λ (h : Held). nat_eq h.by c.args.by) c.self.inside.held.items =
    subst (λ (hs : List Held). Some c.in-Some.place ≡ position (λ (h : Held). nat_eq h.by c.args.by) hs) c.deref.ensures.value c.in-Some.ensures.place in
    rw (← c.self.view_is) (ap (map pending) c.remove-remainder.ensures.items ∙
    sym ((oldest_at c.args.by c.self.inside.held.items c.in-Some.place c.remove-remainder.result found c.remove-remainder.ensures.value).1))

use Rattle.std.proofs.Common.{◌≡◌, ◌<◌, ◌++◌, ℕ, Some, length, suc, sym, ap, subst, ◌∙◌, arith}
use Rattle.std.specs.Arc.{arc_value}
use Rattle.ct_instance.specs.Versions.{upto, level_of, version_list, IsFullGrade}
use Rattle.ct_instance.specs.Reach.{opened_grade}
use Rattle.ct_version.specs.Editions.{Edition}
use Rattle.ct_solo.specs.Seen.{SoloSeen}
use Rattle.ct_solo.specs.Insides.{Insides}
use Rattle.ct_solo.proofs.Keeping.{insides, found_full, now_full}
use Rattle.ct_solo.proofs.solos.Solo.advance.Goals as goal

pub invariant_of-self : goal.invariant_of-self
invariant_of-self c =
    let x : Insides = insides (arc_value c.self.inside.version) c.self.inside.limit c.self.inside.full c.self.inside.levels.items c.self.inside.whole c.self.inside.agenda in
    let open_at = subst (λ (s : SoloSeen). (l : ℕ) × (level_of s.instance s.number ≡ upto l) × (l < s.top)) (sym c.self.view_is) c.requires in
    let list : version_list (x.version).instance (x.version).number ++ c.in_ok-new.new.items ≡ version_list (x.version).instance (suc (x.version).number) =
    subst (λ (v : Edition). version_list v.instance v.number ++ c.in_ok-new.new.items ≡ version_list v.instance (suc v.number)) c.deref.ensures c.in_ok-new.ensures.list in
    let count : c.len.result ≡ length (version_list (x.version).instance (x.version).number) =
    c.len.ensures.count ∙ ap length c.moves.ensures.list ∙ ap (λ (v : Edition). length (version_list v.instance v.number)) c.deref-2.ensures in
    let brought : c.len-2.result ≡ length c.in_ok-new.new.items = c.len-2.ensures ∙ c.in_ok-new.new.ok.0 in
    let full = found_full x c.self.invariant open_at.0 open_at.1 c.in_ok-new.new.items list (omega (arith, count, brought, c.if-len-self.true)) in
    now_full x c.self.invariant full.0 full.1 full.2

pub returns-then-len-self-clause-advanced : goal.returns-then-len-self-clause-advanced
returns-then-len-self-clause-advanced c =
    let x : Insides = insides (arc_value c.self.inside.version) c.self.inside.limit c.self.inside.full c.self.inside.levels.items c.self.inside.whole c.self.inside.agenda in
    let open_at = subst (λ (s : SoloSeen). (l : ℕ) × (level_of s.instance s.number ≡ upto l) × (l < s.top)) (sym c.self.view_is) c.requires in
    let list : version_list (x.version).instance (x.version).number ++ c.in_ok-new.new.items ≡ version_list (x.version).instance (suc (x.version).number) =
    subst (λ (v : Edition). version_list v.instance v.number ++ c.in_ok-new.new.items ≡ version_list v.instance (suc v.number)) c.deref.ensures c.in_ok-new.ensures.list in
    let count : c.len.result ≡ length (version_list (x.version).instance (x.version).number) =
    c.len.ensures.count ∙ ap length c.moves.ensures.list ∙ ap (λ (v : Edition). length (version_list v.instance v.number)) c.deref-2.ensures in
    let brought : c.len-2.result ≡ length c.in_ok-new.new.items = c.len-2.ensures ∙ c.in_ok-new.new.ok.0 in
    let full = found_full x c.self.invariant open_at.0 open_at.1 c.in_ok-new.new.items list (omega (arith, count, brought, c.if-len-self.true)) in
    (c.self.view_is, subst (λ (s : SoloSeen). (d : ℕ) × (opened_grade s.instance s.number ≡ Some d) × IsFullGrade s.instance s.limit d) c.self.view_is full)

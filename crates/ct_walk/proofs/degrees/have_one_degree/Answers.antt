use Rattle.std.proofs.Common.{◌≡◌, ◌↔◌, List, ℕ, take, ◌++◌, replicate, length, sym, ap, ◌∙◌, subst}
use Rattle.std.proofs.lemmas.List.{take_at}
use borrow.Rule.Slice.PartMut.{post_of}
use Rattle.ct_instance.proofs.Degree.{degree_is_right}
use Rattle.ct_walk.proofs.degrees.have_one_degree.Goals as goal

same_fronts : {P : Type 0} {t h : List ℕ} (rows : ℕ) (tail head after before : List ℕ) → length tail ≡ rows → length head ≡ rows → tail ≡ t → head ≡ h →
    P ↔ (take rows (tail ++ after) ≡ take rows (head ++ before)) → P ↔ (t ≡ h)
same_fronts {P} {t} {h} rows tail head after before lt lh et eh e =
    subst (λ x. P ↔ (x ≡ h)) (take_at tail after rows lt ∙ et) (subst (λ y. P ↔ (take rows (tail ++ after) ≡ y)) (take_at head before rows lh ∙ eh) e)

pub returns : goal.returns
returns c =
    let zeros : List ℕ = replicate 16 0 in
    same_fronts c.rows-rows.result c.degree_into-2.new.out c.degree_into.new.out (post_of 0 c.rows-rows.result zeros) (post_of 0 c.rows-rows.result zeros)
    (ap length c.degree_into-2.ensures ∙ degree_is_right c.args.inst.now c.rows-rows.ensures.instance c.args.tail.now c.requires.tail_point ∙ sym c.rows-rows.ensures.rows)
    (ap length c.degree_into.ensures ∙ degree_is_right c.args.inst.now c.rows-rows.ensures.instance c.args.head.now c.requires.head_point ∙ sym c.rows-rows.ensures.rows)
    c.degree_into-2.ensures c.degree_into.ensures c.are_equal.ensures

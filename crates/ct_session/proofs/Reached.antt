-- What a version of a place covers after help.
use Rattle.std.proofs.Common.{◌≡◌, ℕ, ◌-◌, ◌≤◌, ◌<◌, List, All, Some, refl, sym, ap, subst, ◌∙◌, arith}
use Rattle.ct_vectors.specs.Vectors.{total}
use Rattle.ct_vectors.specs.declared.limits.TheConstants.{RIGHT_LIMIT, GRADE_LIMIT}
use Rattle.ct_instance.specs.Instance.{Problem, IsInstance, IsRight}
use Rattle.ct_instance.specs.Versions.{Level, upto, everything, Covers, level_of, IsFullGrade}
use Rattle.ct_instance.specs.Reach.{full_grade_up_to}
use Rattle.ct_instance.proofs.Points.{right-total}
use Rattle.ct_version.specs.Editions.{Edition, IsEdition}
use Rattle.ct_version.specs.Answers.{IsNotYet}
use Rattle.ct_version.specs.Desks.{Place, IsOfPlace}
use Rattle.ct_levels.proofs.Levels.{levels_rise}
use Rattle.ct_levels.proofs.Full.{below_full, full_some, no_full_within}
use Rattle.ct_session.specs.Sessions.{IsOpenTo, IsFullAt}

-- the sum of a right-hand side
pub sum_limit : (p : Problem) (v : Edition) (b : List ℕ) → IsEdition v → v.instance ≡ p → IsRight p b → All (λ x. x ≤ RIGHT_LIMIT) b → total b ≤ GRADE_LIMIT
sum_limit p v b edition same right limit = right-total p (subst IsInstance same edition.instance) b right limit

pub instance_of : (p : Place) (v : Edition) → IsEdition v → IsOfPlace p v → IsInstance p.instance
instance_of p v edition of_place = subst IsInstance of_place.instance edition.instance

-- a later version within the limit is finished up to the grade before the full grade, as an earlier one was
pub full_stays : (p : Place) (v : Edition) (g j f : ℕ) → IsEdition v → IsOfPlace p v → full_grade_up_to p.instance p.limit g ≡ Some f →
    level_of p.instance j ≡ upto (f - 1) → j ≤ v.number → IsFullAt p g v.number f
full_stays p v g j f edition of_place found finished later = record { grade = found; level = by (level_of p.instance v.number) refl }
  where
    inst : IsInstance p.instance
    inst = instance_of p v edition of_place

    full : IsFullGrade p.instance p.limit f
    full = ((full_some p.instance p.limit g f).0 found).0

    covers : Covers (level_of p.instance v.number) (f - 1)
    covers =
        levels_rise p.instance j v.number (f - 1) later
        (subst (λ l. Covers l (f - 1)) (sym finished) (let same : f - 1 ≤ f - 1 = omega arith in same))

    by : (x : Level) → level_of p.instance v.number ≡ x → level_of p.instance v.number ≡ upto (f - 1)
    by (upto l) e =
        let up : f - 1 ≤ l = subst (λ x. Covers x (f - 1)) e covers in
        let self : Covers (level_of p.instance v.number) l = subst (λ x. Covers x l) (sym e) (let same : l ≤ l = omega arith in same) in
        let down : l < f = below_full p.instance inst p.limit v.number l f of_place.version of_place.most self full in
        e ∙ ap upto (let same : l ≡ f - 1 = omega arith in same)
    by everything e =
        let down : f < f = below_full p.instance inst p.limit v.number f f of_place.version of_place.most (subst (λ x. Covers x f) (sym e) tt) full in
        absurd (omega arith)

-- a version of the place shows that the limit doesn't stand before what it covers
pub covers_open : (p : Place) (v : Edition) (g : ℕ) → IsEdition v → IsOfPlace p v → Covers (level_of p.instance v.number) g → IsOpenTo p g
covers_open p v g edition of_place covers = no_full_within p.instance (instance_of p v edition of_place) p.limit v.number g of_place.version of_place.most covers

-- a version that covers the sum doesn't answer not yet
pub covered_answers : (p : Problem) (v : Edition) (b : List ℕ) (f : ℕ) → v.instance ≡ p → Covers (level_of p v.number) (total b) → IsNotYet v b f → ⊥
covered_answers p v b f same covers not_yet =
    let under : total b ≤ f = subst (λ x. Covers x (total b)) (ap (λ i. level_of i v.number) (sym same) ∙ not_yet.level) covers in
    let below : f < total b = not_yet.below in
    omega arith

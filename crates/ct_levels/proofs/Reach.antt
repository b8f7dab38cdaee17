-- The reach of a grade: the level of a version within the limit, which rises with the grade.
use Rattle.std.proofs.Common.{ℕ, ◌-◌, ◌≤◌, ◌<◌, ◌≡◌, ◌↔◌, ⊎_elim, Option, Some, None, length, refl, sym, subst, ◌∙◌, arith}
use Rattle.std.proofs.lemmas.Bool.{cases_lt}
use Rattle.ct_instance.specs.Instance.{Problem, IsInstance}
use Rattle.ct_instance.specs.Versions.{upto, Covers, level_of, version_list, IsVersion}
use Rattle.ct_instance.specs.Reach.{first_version_from, first_level_from, full_grade_up_to, reach_of}
use Rattle.ct_levels.specs.Levels.{IsLevelWithin}
use Rattle.ct_levels.proofs.Levels.{levels_rise, Covers-le}
use Rattle.ct_levels.proofs.Covering.{first_version_is, first_is_version, test_list_of_first}
use Rattle.ct_levels.proofs.Full.{full_some, full_none, full_is_opened, no_full_within}

pub reach_when_full : (i : Problem) (limit g f : ℕ) → full_grade_up_to i limit g ≡ Some f → reach_of i limit g ≡ upto (f - 1)
unfolding reach_of
reach_when_full i limit g f e = rw e refl

pub reach_when_room : (i : Problem) (limit g : ℕ) → full_grade_up_to i limit g ≡ None → reach_of i limit g ≡ first_level_from i g
unfolding reach_of
reach_when_room i limit g e = rw e refl

-- a version within the limit that covers g shows that the reach is the level that covers g
pub reach_within : (i : Problem) → IsInstance i → (limit k g : ℕ) → IsVersion i k → length (version_list i k) ≤ limit → Covers (level_of i k) g → reach_of i limit g ≡ first_level_from i g
reach_within i s limit k g v within c = reach_when_room i limit g (no_full_within i s limit k g v within c)

pub reach_is_level : (i : Problem) → IsInstance i → (limit g : ℕ) → IsLevelWithin i limit (reach_of i limit g)
reach_is_level i s limit g = level (full_grade_up_to i limit g) refl
  where
    level : (o : Option ℕ) → full_grade_up_to i limit g ≡ o → IsLevelWithin i limit (reach_of i limit g)
    level None e =
        let first = first_version_is i g in record {
          number = first_version_from i g;
          version = (first_is_version i g (first_version_from i g) first).0;
          same = reach_when_room i limit g e;
          within = subst (λ ms. length ms ≤ limit) (sym (test_list_of_first i s g (first_version_from i g) first)) ((full_none i limit g).0 e);
        }
    level (Some f) e =
        let o = full_is_opened i s limit f ((full_some i limit g f).0 e).0 in record {
          number = o.0;
          version = (o.1).version;
          same = reach_when_full i limit g f e ∙ sym (o.1).level;
          within = (o.1).within;
        }

-- the reach covers g exactly where the full grade isn't at most g
pub reach_covers : (i : Problem) → IsInstance i → (limit g : ℕ) → Covers (reach_of i limit g) g ↔ (full_grade_up_to i limit g ≡ None)
reach_covers i s limit g = (λ c. none (full_grade_up_to i limit g) refl c, λ e. subst (λ x. Covers x g) (sym (reach_when_room i limit g e)) (first_version_is i g).covered)
  where
    none : (o : Option ℕ) → full_grade_up_to i limit g ≡ o → Covers (reach_of i limit g) g → o ≡ None
    none None e c = refl
    none (Some f) e c =
        let full = (full_some i limit g f).0 e in
        let o = full_is_opened i s limit f full.0 in
        let d : Covers (upto (f - 1)) g = subst (λ x. Covers x g) (reach_when_full i limit g f e) c in
        absurd (omega (arith, full.1, d, (o.1).some))

pub reach_rises : (i : Problem) → IsInstance i → (limit g h x : ℕ) → g ≤ h → Covers (reach_of i limit g) x → Covers (reach_of i limit h) x
reach_rises i s limit g h x l c = rises (full_grade_up_to i limit g) refl
  where
    first_before : (k : ℕ) → Covers (level_of i k) g → first_version_from i g ≤ k
    first_before k d = ⊎_elim (λ m. absurd ((first_version_is i g).first k m d)) (λ m. m) (cases_lt k (first_version_from i g))

    rises : (o : Option ℕ) → full_grade_up_to i limit g ≡ o → Covers (reach_of i limit h) x
    rises (Some f) e =
        let full = (full_some i limit g f).0 e in
        let later : full_grade_up_to i limit h ≡ Some f = (full_some i limit h f).1 (full.0, omega (arith, full.1)) in
        subst (λ y. Covers y x) (reach_when_full i limit g f e ∙ sym (reach_when_full i limit h f later)) c
    rises None e = more (full_grade_up_to i limit h) refl
      where
        from_level : Covers (first_level_from i g) x
        from_level = subst (λ y. Covers y x) (reach_when_room i limit g e) c

        more : (o : Option ℕ) → full_grade_up_to i limit h ≡ o → Covers (reach_of i limit h) x
        more None f =
            let k : ℕ = first_version_from i h in
            subst (λ y. Covers y x) (sym (reach_when_room i limit h f))
            (levels_rise i (first_version_from i g) k x (first_before k (Covers-le (level_of i k) g h l (first_version_is i h).covered)) from_level)
        more (Some f) u =
            let full = (full_some i limit h f).0 u in
            let o = full_is_opened i s limit f full.0 in
            let below : g < f = ⊎_elim (λ m. m) (λ m. let t : None ≡ Some f = sym e ∙ (full_some i limit g f).1 (full.0, m) in absurd (cc)) (cases_lt g f) in
            let d : Covers (level_of i o.0) g = subst (λ y. Covers y g) (sym (o.1).level) (let t : g ≤ f - 1 = omega arith in t) in
            subst (λ y. Covers y x) ((o.1).level ∙ sym (reach_when_full i limit h f u)) (levels_rise i (first_version_from i g) o.0 x (first_before o.0 d) from_level)

-- The full grade: it is the grade that some version opens, and a version within the limit covers only what is below it.
use Rattle.std.proofs.Common.{Bool, ℕ, ◌+◌, ◌-◌, ◌≤◌, ◌<◌, ◌≡◌, ◌↔◌, ⊎_elim, nat_lt, Option, Some, None, ◌++◌, length, refl, sym, subst, ap, ◌∙◌, arith, zero, suc, ltb-true, ltb-false, length-append}
use Rattle.std.proofs.lemmas.Bool.{cases_lt}
use Rattle.ct_instance.specs.Instance.{Problem, IsInstance}
use Rattle.ct_instance.specs.TestSet.{test_list}
use Rattle.ct_instance.specs.Versions.{upto, Covers, level_of, version_list, IsVersion, IsFullGrade}
use Rattle.ct_instance.specs.Reach.{last_opened, first_version_from, full_grade_up_to}
use Rattle.ct_instance.proofs.TestList.{test_lists_grow}
use Rattle.ct_levels.specs.Levels.{IsFirstVersion, IsOpenedWithin}
use Rattle.ct_levels.proofs.Levels.{list_zero, list_next, last_opened_next, covers_opened, version_before}
use Rattle.ct_levels.proofs.Lists.{version_list_is, list_begins}
use Rattle.ct_levels.proofs.Covering.{IsFirstFound, first_found, first_version_is, first_is_version, test_list_of_first}

pub test_list_longer : (i : Problem) (g h : ℕ) → g ≤ h → length (test_list i g) ≤ length (test_list i h)
test_list_longer i g h l =
    let t = test_lists_grow i g h l in
    let e : length (test_list i h) ≡ length (test_list i g ++ t.0) = ap length t.1 in
    omega (arith, length-append (test_list i g) t.0)

-- a version's list has at least the moves of the test list of each grade that it covers
pub list_longer : (i : Problem) → IsInstance i → (k g : ℕ) → IsVersion i k → Covers (level_of i k) g → length (test_list i g) ≤ length (version_list i k)
list_longer i s k g v c =
    let t = list_begins i s k g v c in
    let e : length (version_list i k) ≡ length (test_list i g ++ t.0) = ap length t.1 in
    omega (arith, length-append (test_list i g) t.0)

-- a version with a level has the test list of it
pub list_at_level : (i : Problem) → IsInstance i → (k l : ℕ) → IsVersion i k → level_of i k ≡ upto l → version_list i k ≡ test_list i l
list_at_level i s k l v e =
    let c : Covers (upto l) (last_opened i k) = subst (λ x. Covers x (last_opened i k)) e (covers_opened i k v) in
    version_list_is i s k l v c (subst (λ x. Covers x l) (sym e) (let t : l ≤ l = omega arith in t))

-- there is one full grade at most
pub one_full : (i : Problem) (limit f g : ℕ) → IsFullGrade i limit f → IsFullGrade i limit g → f ≡ g
one_full i limit f g a b =
    let more : limit < length (test_list i f) = a.more in
    let most : limit < length (test_list i g) = b.more in
    ⊎_elim (λ l. absurd (omega (arith, b.first f l)))
    (λ l. ⊎_elim (λ m. absurd (omega (arith, a.first g m))) (λ m. omega arith) (cases_lt g f)) (cases_lt f g)

-- where the version is within the limit and the next list isn't, the grade in between is the full grade
pub opened_is_full : (i : Problem) → IsInstance i → (limit k l : ℕ) → IsVersion i k → level_of i k ≡ upto l → length (version_list i k) ≤ limit →
    limit < length (test_list i (l + 1)) → IsFullGrade i limit (l + 1)
opened_is_full i s limit k l v e within more = record {
  more = more;
  first = λ h b.
      let same : length (version_list i k) ≡ length (test_list i l) = ap length (list_at_level i s k l v e) in
      omega (arith, test_list_longer i h l (omega arith));
}

-- a version within the limit covers only grades below the full grade
pub below_full : (i : Problem) → IsInstance i → (limit k g f : ℕ) → IsVersion i k → length (version_list i k) ≤ limit → Covers (level_of i k) g → IsFullGrade i limit f → g < f
below_full i s limit k g f v within c full =
    ⊎_elim (λ l. l)
    (λ l. let more : limit < length (test_list i f) = full.more in absurd (omega (arith, test_list_longer i f g l, list_longer i s k g v c)))
    (cases_lt g f)

-- a full grade is the grade that some version opens, and that version is within the limit
pub full_is_opened : (i : Problem) → IsInstance i → (limit f : ℕ) → IsFullGrade i limit f → (k : ℕ) × IsOpenedWithin i limit f k
full_is_opened i s limit f full = before (first_version_from i f) (first_version_is i f)
  where
    before : (n : ℕ) → IsFirstVersion i f n → (k : ℕ) × IsOpenedWithin i limit f k
    before zero first =
        let e : length (test_list i f) ≡ 0 = ap length (sym (test_list_of_first i s f 0 first) ∙ list_zero i) in
        let more : limit < length (test_list i f) = full.more in
        absurd (omega arith)
    before (suc k) first =
        let v = first_is_version i f (suc k) first in
        let l : ℕ = (v.0).0 in
        let e : level_of i k ≡ upto l = (v.0).1 in
        let small : l + 1 ≤ f = subst (λ d. d ≤ f) (last_opened_next i k l e) v.1 in
        let same : length (test_list i f) ≡ length (test_list i (l + 1)) = ap length (sym (test_list_of_first i s f (suc k) first) ∙ list_next i k l e) in
        let more : limit < length (test_list i f) = full.more in
        let at : l ≡ f - 1 = ⊎_elim (λ m. absurd (omega (arith, full.first (l + 1) m))) (λ m. omega arith) (cases_lt (l + 1) f) in
        let version : IsVersion i k = version_before i k v.0 in (
          k,
          record {
            version = version;
            level = e ∙ ap upto at;
            some = omega arith;
            within = subst (λ ms. length ms ≤ limit) (sym (list_at_level i s k l version e)) (full.first l (omega arith));
          },
        )

-- ---- the full grade up to a grade

abbrev is_over : Problem → ℕ → ℕ → Bool
is_over i limit h = nat_lt limit (length (test_list i h))

full_found : (i : Problem) (limit g : ℕ) → IsFirstFound (is_over i limit) g (full_grade_up_to i limit g)
unfolding full_grade_up_to
full_found i limit g = first_found (is_over i limit) g

found_is_full : (i : Problem) (limit g f : ℕ) → IsFirstFound (is_over i limit) g (Some f) → IsFullGrade i limit f × (f ≤ g)
found_is_full i limit g f h =
    (record { more = ltb-true limit (length (test_list i f)) h.1; first = λ x l. ltb-false limit (length (test_list i x)) (h.2 x l) }, h.0)

-- it is the full grade, where that is at most g
pub full_some : (i : Problem) (limit g f : ℕ) → (full_grade_up_to i limit g ≡ Some f) ↔ (IsFullGrade i limit f × (f ≤ g))
full_some i limit g f = (λ e. found_is_full i limit g f (subst (IsFirstFound (is_over i limit) g) e (full_found i limit g)), λ h. same h (full_grade_up_to i limit g) (full_found i limit g))
  where
    same : IsFullGrade i limit f × (f ≤ g) → (o : Option ℕ) → IsFirstFound (is_over i limit) g o → o ≡ Some f
    same h None u = let more : limit < length (test_list i f) = (h.0).more in absurd (omega (arith, ltb-false limit (length (test_list i f)) (u f h.1)))
    same h (Some x) u = ap Some (one_full i limit x f (found_is_full i limit g x u).0 h.0)

-- and none where the test list of g has at most the limit
pub full_none : (i : Problem) (limit g : ℕ) → (full_grade_up_to i limit g ≡ None) ↔ (length (test_list i g) ≤ limit)
full_none i limit g = (λ e. ltb-false limit (length (test_list i g)) (subst (IsFirstFound (is_over i limit) g) e (full_found i limit g) g (omega arith)), λ l. none l (full_grade_up_to i limit g) (full_found i limit g))
  where
    none : length (test_list i g) ≤ limit → (o : Option ℕ) → IsFirstFound (is_over i limit) g o → o ≡ None
    none l None u = refl
    none l (Some x) u =
        let more : limit < length (test_list i x) = ((found_is_full i limit g x u).0).more in
        absurd (omega (arith, test_list_longer i x g u.0))

-- a version within the limit that covers g shows that there is none up to g
pub no_full_within : (i : Problem) → IsInstance i → (limit k g : ℕ) → IsVersion i k → length (version_list i k) ≤ limit → Covers (level_of i k) g →
    full_grade_up_to i limit g ≡ None
no_full_within i s limit k g v within c = (full_none i limit g).1 (omega (arith, within, list_longer i s k g v c))

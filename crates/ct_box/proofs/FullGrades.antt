-- The box full grade is found among the grades up to the sum of the bound.
use Rattle.std.proofs.Common.{Bool, ℕ, ◌+◌, ◌≤◌, ◌<◌, ◌≡◌, ◌↔◌, ⊎_elim, nat_lt, Option, Some, None, List, length, refl, subst, ap, arith, ltb-true, ltb-false}
use Rattle.std.proofs.lemmas.Bool.{cases_lt}
use Rattle.ct_vectors.specs.Vectors.{total}
use Rattle.ct_instance.specs.Instance.{Problem, IsInstance}
use Rattle.ct_levels.proofs.Covering.{IsFirstFound, first_found}
use Rattle.ct_box.specs.Box.{box_list, box_list_to, IsBoxFullGrade, box_full_grade}
use Rattle.ct_box.proofs.BoxLists.{box_longer, box_is_whole}

-- the box up to a grade has at most the moves of the whole box
pub shorter_than_whole : (i : Problem) → IsInstance i → (top : List ℕ) (g : ℕ) → length (box_list_to i top g) ≤ length (box_list i top)
shorter_than_whole i s top g =
    let whole : length (box_list_to i top (g + total top)) ≡ length (box_list i top) = ap length (box_is_whole i s top (g + total top) (omega arith)) in
    omega (arith, whole, box_longer i top g (g + total top) (omega arith))

whole_length : (i : Problem) → IsInstance i → (top : List ℕ) → length (box_list_to i top (total top)) ≡ length (box_list i top)
whole_length i s top = ap length (box_is_whole i s top (total top) (omega arith))

-- there is one box full grade at most
pub one_full : (i : Problem) (top : List ℕ) (limit f g : ℕ) → IsBoxFullGrade i top limit f → IsBoxFullGrade i top limit g → f ≡ g
one_full i top limit f g a b =
    let more : limit < length (box_list_to i top f) = a.more in
    let most : limit < length (box_list_to i top g) = b.more in
    ⊎_elim (λ l. absurd (omega (arith, b.first f l)))
    (λ l. ⊎_elim (λ m. absurd (omega (arith, a.first g m))) (λ m. omega arith) (cases_lt g f)) (cases_lt f g)

abbrev is_over : Problem → List ℕ → ℕ → ℕ → Bool
is_over i top limit g = nat_lt limit (length (box_list_to i top g))

full_found : (i : Problem) (top : List ℕ) (limit : ℕ) → IsFirstFound (is_over i top limit) (total top) (box_full_grade i top limit)
unfolding box_full_grade
full_found i top limit = first_found (is_over i top limit) (total top)

found_is_full : (i : Problem) (top : List ℕ) (limit f : ℕ) → IsFirstFound (is_over i top limit) (total top) (Some f) → IsBoxFullGrade i top limit f
found_is_full i top limit f h =
    record { more = ltb-true limit (length (box_list_to i top f)) h.1; first = λ x l. ltb-false limit (length (box_list_to i top x)) (h.2 x l) }

-- a full grade shows that the whole box is above the limit
pub full_is_over : (i : Problem) → IsInstance i → (top : List ℕ) (limit f : ℕ) → IsBoxFullGrade i top limit f → limit < length (box_list i top)
full_is_over i s top limit f full = let more : limit < length (box_list_to i top f) = full.more in omega (arith, shorter_than_whole i s top f)

pub full_some : (i : Problem) → IsInstance i → (top : List ℕ) (limit f : ℕ) → (box_full_grade i top limit ≡ Some f) ↔ IsBoxFullGrade i top limit f
full_some i s top limit f = (
  λ e. found_is_full i top limit f (subst (IsFirstFound (is_over i top limit) (total top)) e (full_found i top limit)),
  λ full. same full (box_full_grade i top limit) (full_found i top limit),
)
  where
    same : IsBoxFullGrade i top limit f → (o : Option ℕ) → IsFirstFound (is_over i top limit) (total top) o → o ≡ Some f
    same full None u =
        absurd (omega (arith, full_is_over i s top limit f full, whole_length i s top, ltb-false limit (length (box_list_to i top (total top))) (u (total top) (omega arith))))
    same full (Some x) u = ap Some (one_full i top limit x f (found_is_full i top limit x u) full)

pub full_none : (i : Problem) → IsInstance i → (top : List ℕ) (limit : ℕ) → (box_full_grade i top limit ≡ None) ↔ (length (box_list i top) ≤ limit)
full_none i s top limit = (λ e. within (subst (IsFirstFound (is_over i top limit) (total top)) e (full_found i top limit)), λ l. none l (box_full_grade i top limit) (full_found i top limit))
  where
    within : IsFirstFound (is_over i top limit) (total top) None → length (box_list i top) ≤ limit
    within u = omega (arith, whole_length i s top, ltb-false limit (length (box_list_to i top (total top))) (u (total top) (omega arith)))

    none : length (box_list i top) ≤ limit → (o : Option ℕ) → IsFirstFound (is_over i top limit) (total top) o → o ≡ None
    none l None u = refl
    none l (Some x) u = absurd (omega (arith, l, full_is_over i s top limit x (found_is_full i top limit x u)))

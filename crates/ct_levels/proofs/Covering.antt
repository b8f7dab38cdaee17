-- The first version that covers a grade.
use Rattle.std.proofs.Common.{ℕ, ◌≤◌, ◌<◌, ◌≡◌, ◌↔◌, ⊎_elim, Bool, true, false, true≢false, Option, Some, None, [], ◌∷◌, unwrap_or, find, cond, refl, sym, subst, arith, zero, suc, leb-true, leb-false}
use Rattle.std.specs.Option.{option_or}
use Rattle.std.proofs.lemmas.Bool.{cases_lt}
use Rattle.std.proofs.lemmas.List.Folds.{find-append}
use Rattle.ct_vectors.specs.Vectors.{up_to}
use Rattle.ct_instance.specs.Instance.{Problem, IsInstance}
use Rattle.ct_instance.specs.TestSet.{test_list}
use Rattle.ct_instance.specs.Versions.{Level, upto, everything, Covers, level_of, version_list, IsVersion}
use Rattle.ct_instance.specs.Reach.{covers, last_opened, first_version_from}
use Rattle.ct_levels.specs.Levels.{IsFirstVersion}
use Rattle.ct_levels.proofs.Levels.{covers_number, last_opened_next}
use Rattle.ct_levels.proofs.Lists.{version_list_is}

-- ---- the first number that passes a test

-- what is found among the numbers up to g
abbrev pub IsFirstFound : (ℕ → Bool) → ℕ → Option ℕ → Type 0
IsFirstFound t g None = (x : ℕ) → x ≤ g → t x ≡ false
IsFirstFound t g (Some x) = (x ≤ g) × (t x ≡ true) × ((y : ℕ) → y < x → t y ≡ false)

pub first_found : (t : ℕ → Bool) (g : ℕ) → IsFirstFound t g (find t (up_to g))
first_found t zero = one (t 0) refl
  where
    one : (b : Bool) → t 0 ≡ b → IsFirstFound t 0 (cond b (Some 0) None)
    one true e = (omega arith, e, λ y l. absurd (omega arith))
    one false e = λ x l. subst (λ y. t y ≡ false) (let s : 0 ≡ x = omega arith in s) e
first_found t (suc g) = subst (IsFirstFound t (suc g)) (sym (find-append t (up_to g) (suc g ∷ []))) (more (find t (up_to g)) (first_found t g))
  where
    more : (o : Option ℕ) → IsFirstFound t g o → IsFirstFound t (suc g) (option_or o (find t (suc g ∷ [])))
    more (Some x) f = (omega (arith, f.0), f.1, f.2)
    more None f = last (t (suc g)) refl
      where
        last : (b : Bool) → t (suc g) ≡ b → IsFirstFound t (suc g) (cond b (Some (suc g)) None)
        last true e = (omega arith, e, λ y l. f y (omega arith))
        last false e = λ x l. ⊎_elim (λ k. f x (omega arith)) (λ k. subst (λ y. t y ≡ false) (let s : suc g ≡ x = omega arith in s) e) (cases_lt x (suc g))

-- ---- the test of covering

pub covers_true : (x : Level) (g : ℕ) → covers x g ≡ true → Covers x g
covers_true (upto l) g e = leb-true g l e
covers_true everything g e = tt

pub covers_false : (x : Level) (g : ℕ) → covers x g ≡ false → Covers x g → ⊥
covers_false (upto l) g e c = let m : l < g = leb-false g l e in omega arith
covers_false everything g e c = true≢false e

-- ---- the first version

pub first_version_is : (i : Problem) (g : ℕ) → IsFirstVersion i g (first_version_from i g)
unfolding first_version_from
first_version_is i g = found (find (λ k. covers (level_of i k) g) (up_to g)) refl (first_found (λ k. covers (level_of i k) g) g)
  where
    found : (o : Option ℕ) → find (λ k. covers (level_of i k) g) (up_to g) ≡ o → IsFirstFound (λ k. covers (level_of i k) g) g o → IsFirstVersion i g (unwrap_or o 0)
    found None e f = absurd (covers_false (level_of i g) g (f g (omega arith)) (covers_number i g))
    found (Some k) e f = record {
      covered = covers_true (level_of i k) g f.1;
      first = λ j l. covers_false (level_of i j) g (f.2 j l);
    }

one_first_version : (i : Problem) (g j k : ℕ) → IsFirstVersion i g j → IsFirstVersion i g k → j ≡ k
one_first_version i g j k f h =
    ⊎_elim (λ l. absurd (h.first j l f.covered)) (λ l. ⊎_elim (λ m. absurd (f.first k m h.covered)) (λ m. omega arith) (cases_lt k j)) (cases_lt j k)

pub first_version : (i : Problem) (g k : ℕ) → (k ≡ first_version_from i g) ↔ IsFirstVersion i g k
first_version i g k =
    (λ e. subst (IsFirstVersion i g) (sym e) (first_version_is i g), λ f. one_first_version i g k (first_version_from i g) f (first_version_is i g))

-- it is a version, and the grade that was opened last for it is at most g
pub first_is_version : (i : Problem) (g k : ℕ) → IsFirstVersion i g k → IsVersion i k × (last_opened i k ≤ g)
first_is_version i g zero f = (tt, omega arith)
first_is_version i g (suc k) f = before (level_of i k) refl
  where
    before : (x : Level) → level_of i k ≡ x → IsVersion i (suc k) × (last_opened i (suc k) ≤ g)
    before (upto l) e =
        ((l, e), ⊎_elim (λ m. omega (arith, last_opened_next i k l e)) (λ m. absurd (f.first k (omega arith) (subst (λ y. Covers y g) (sym e) m))) (cases_lt l g))
    before everything e = absurd (f.first k (omega arith) (subst (λ y. Covers y g) (sym e) tt))

-- whose list is the test list of g
pub test_list_of_first : (i : Problem) → IsInstance i → (g k : ℕ) → IsFirstVersion i g k → version_list i k ≡ test_list i g
test_list_of_first i s g k f = let v = first_is_version i g k f in version_list_is i s k g v.0 v.1 f.covered

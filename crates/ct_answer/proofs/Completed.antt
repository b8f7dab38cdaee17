-- The version of a completion from its beginning.
use Rattle.std.proofs.Common.{◌≡◌, ℕ, Bool, true, false, refl, sym, ap, subst, ◌∙◌, arith}
use Rattle.std.specs.Arc.{arc_value}
use Rattle.ct_instance.specs.Instance.{Problem, IsInstance}
use Rattle.ct_instance.specs.TestSet.{test_list}
use Rattle.ct_instance.specs.Versions.{Covers, level_of, version_list}
use Rattle.ct_instance.specs.Reach.{covers}
use Rattle.ct_levels.specs.Levels.{IsFirstVersion}
use Rattle.ct_levels.proofs.Covering.{covers_true, covers_false, test_list_of_first}
use Rattle.ct_version.specs.declared.pins.Helped.{Helped}
use Rattle.ct_version.specs.Editions.{Edition}
use Rattle.ct_solo.specs.Seen.{SoloSeen, IsCompleted}

-- a completion at its beginning
abbrev pub opened : Problem → ℕ → ℕ → SoloSeen
opened i limit top = record { instance = i; limit = limit; top = top; number = 0 }

module _ (i : Problem) (limit top g : ℕ) (c : SoloSeen) (h : Helped) (done : IsCompleted (opened i limit top) g c h) where
  pub first_completed : IsFirstVersion i g c.number
  first_completed = by_test (covers (level_of i 0) g) refl
    where
      by_test : (b : Bool) → covers (level_of i 0) g ≡ b → IsFirstVersion i g c.number
      by_test true test =
          let covered : Covers (level_of i 0) g = covers_true (level_of i 0) g test in
          subst (λ (s : SoloSeen). IsFirstVersion i g s.number) (sym (done.unchanged covered))
          (record { covered = covered; first = λ j before covers. absurd (omega (arith, before)) })
      by_test false test = done.first (covers_false (level_of i 0) g test)

  -- its list is the test list of the grade
  pub completed_list : IsInstance i → version_list i (arc_value h.version).number ≡ test_list i g
  completed_list s =
      ap (λ (e : Edition). version_list i e.number) done.version ∙ test_list_of_first i s g c.number first_completed

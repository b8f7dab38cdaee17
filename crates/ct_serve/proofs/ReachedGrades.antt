-- What help gives has reached the grade.
use Rattle.std.proofs.Common.{ℕ, ◌≤◌, ◌≡◌, ◌⊎◌, ⊎_elim, max, Some, sym, subst, ◌∙◌, arith}
use Rattle.std.proofs.lemmas.Bool.{cases_lt}
use Rattle.std.specs.Arc.{arc_value}
use Rattle.ct_instance.specs.Versions.{Covers}
use Rattle.ct_instance.specs.Reach.{first_version_from}
use Rattle.ct_levels.proofs.Levels.{levels_rise}
use Rattle.ct_levels.proofs.Covering.{first_version_is}
use Rattle.ct_levels.proofs.Reach.{reach_when_full, reach_when_room}
use Rattle.ct_version.specs.declared.finished.Finished.{Finished}
use Rattle.ct_version.specs.declared.pins.Helped.{Helped}
use Rattle.ct_version.specs.declared.pins.FullMark.{FullMark}
use Rattle.ct_version.specs.Editions.{Edition, level_seen, level_below}
use Rattle.ct_version.specs.Desks.{Place, IsOfPlace, IsHelp, IsFullMark}
use Rattle.ct_session.specs.Shown.{HasReached}
use Rattle.ct_answer.proofs.ToldReports.{reach_helped, reach_marked}
use Rattle.ct_serve.specs.Served.{IsHeld}

help_reaches : (p : Place) (g : ℕ) (h : Helped) → IsHelp p g h → HasReached p g (arc_value h.version).number
help_reaches p g h help =
    λ x c. levels_rise p.instance (first_version_from p.instance g) (arc_value h.version).number x first
    (subst (λ l. Covers l x) (reach_when_room p.instance p.limit g help.open_to) c)
  where
    first : first_version_from p.instance g ≤ (arc_value h.version).number
    first =
        ⊎_elim (λ l. absurd ((first_version_is p.instance g).first (arc_value h.version).number l help.covers)) (λ l. l)
        (cases_lt (arc_value h.version).number (first_version_from p.instance g))

pub held_helped : (p : Place) (g : ℕ) (h : Helped) → IsHelp p g h → IsHeld p g (record { version = h.version; level = h.level })
held_helped p g h help = record { version = help.version; reached = help_reaches p g h help; level = reach_helped p g h help }

pub held_marked : (p : Place) (g : ℕ) (m : FullMark) (level : Finished) → IsFullMark p g m → level_seen level ≡ level_below (Some m.grade) →
    IsHeld p g (record { version = m.version; level = level })
held_marked p g m level mark is =
    record {
      version = mark.version;
      reached = λ x c. subst (λ l. Covers l x) (reach_when_full p.instance p.limit g m.grade mark.grade ∙ sym mark.finished) c;
      level = is ∙ reach_marked p g m mark;
    }

-- ---- what is held while the grade rises

-- what a version has reached a later one has
later_reached : (p : Place) (g j k : ℕ) → j ≤ k → HasReached p g j → HasReached p g k
later_reached p g j k later reached = λ x c. levels_rise p.instance j k x later (reached x c)

-- the version that is kept has reached the grade at which the run began, and the next one that is worked for
pub reached_on : (p : Place) (opened grade next held reached kept : ℕ) → grade ≤ next → held ≤ kept → reached ≤ kept →
    HasReached p (max opened grade) held → HasReached p next reached → HasReached p (max opened next) kept
reached_on p opened grade next held reached kept grows old new before now =
    ⊎_elim (λ l. let e : max opened next ≡ next = omega (arith, l) in subst (λ g. HasReached p g kept) (sym e) (later_reached p next reached kept new now))
    (λ l. let e : max opened next ≡ max opened grade = omega (arith, l, grows) in subst (λ g. HasReached p g kept) (sym e) (later_reached p (max opened grade) held kept old before))
    (cases_lt opened next)

-- it is one of the two that are there
pub either_place : (p : Place) (held reached kept : Edition) → (kept ≡ held) ⊎ (kept ≡ reached) → IsOfPlace p held → IsOfPlace p reached → IsOfPlace p kept
either_place p held reached kept either first second = ⊎_elim (λ e. subst (IsOfPlace p) (sym e) first) (λ e. subst (IsOfPlace p) (sym e) second) either

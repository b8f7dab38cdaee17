-- What a solo keeps, and what it hands on.
use Rattle.std.proofs.Common.{◌≡◌, ℕ, ◌+◌, ◌-◌, ◌≤◌, ◌<◌, Bool, true, false, true≢false, Some, List, [], ◌∷◌, ◌++◌, length, map, sym, ap, ap₂, subst, ◌∙◌, refl, arith, suc}
use Rattle.std.specs.Arc.{arc_value}
use Rattle.std.proofs.lemmas.List.{length-append, map-append}
use Rattle.std.proofs.lemmas.Option.{same_Some}
use Rattle.ct_vectors.specs.declared.limits.TheConstants.{GRADE_LIMIT, MOVE_LIMIT}
use Rattle.ct_vectors.specs.Vectors.{up_to}
use Rattle.ct_instance.specs.Instance.{Problem}
use Rattle.ct_instance.specs.TestSet.{Binomial, test_list}
use Rattle.ct_instance.specs.Versions.{Level, upto, Covers, level_of, version_list, IsFullGrade}
use Rattle.ct_instance.specs.Reach.{grade_after, opened_grade, first_level_from}
use Rattle.ct_levels.proofs.Levels.{list_zero, list_next}
use Rattle.ct_levels.proofs.Full.{opened_is_full, full_some, no_full_within}
use Rattle.ct_completion.specs.Kept.{AreLevels}
use Rattle.ct_handing.proofs.Short.{IsShortOf}
use Rattle.ct_version.specs.declared.finished.Finished.{Finished}
use Rattle.ct_version.specs.declared.pins.Helped.{Helped}
use Rattle.ct_version.specs.declared.pins.FullMark.{FullMark}
use Rattle.ct_version.specs.Editions.{Edition, IsEdition, level_seen}
use Rattle.ct_version.specs.Desks.{IsOfPlace, IsHelp, IsFullMark}
use Rattle.ct_solo.specs.declared.agenda.Agenda.{Agenda}
use Rattle.ct_solo.specs.Seen.{place_of}
use Rattle.ct_solo.specs.Insides.{Insides, solo_in, HasAgenda, IsSolo}

abbrev pub insides : Edition → ℕ → Bool → List Finished → Bool → Agenda → Insides
insides v l f ls w a = record { version = v; limit = l; full = f; levels = ls; whole = w; agenda = a }

-- ---- the first version

pub zero_solo : (i : Problem) (v : Edition) → v ≡ record { instance = i; number = 0 } → IsEdition v → (limit : ℕ) → limit ≤ MOVE_LIMIT → (a : Agenda) → a.top ≤ GRADE_LIMIT →
    (levels : List Finished) (l : Finished) → levels ≡ l ∷ [] → level_seen l ≡ level_of i 0 → HasAgenda (record { instance = i; number = 0 }) a → IsSolo (insides v limit false levels true a)
zero_solo i v same edition limit most a top levels l only level has =
    let none : length (version_list v.instance v.number) ≡ 0 = ap (λ (w : Edition). length (version_list w.instance w.number)) same ∙ ap length (list_zero i) in
    record {
      edition = edition;
      most = omega (arith, none);
      limit = most;
      top = top;
      levels = subst (λ (w : Edition). AreLevels w.instance w.number (map level_seen levels)) (sym same) (ap (map level_seen) only ∙ ap (λ (x : Level). x ∷ []) level);
      marked = λ e. absurd (true≢false (sym e));
      agenda = λ e. subst (λ (w : Edition). HasAgenda w a) (sym same) has;
    }

-- ---- what is handed on

module _ (x : Insides) (h : IsSolo x) where
  pub of_place : IsOfPlace (place_of (solo_in x)) x.version
  of_place = record { instance = refl; version = (h.edition).version; most = h.most }

  pub reached_help : (g : ℕ) (p : Helped) → Covers (level_of (x.version).instance (x.version).number) g → arc_value p.version ≡ x.version →
      level_seen p.level ≡ first_level_from (x.version).instance g → IsHelp (place_of (solo_in x)) g p
  reached_help g p covers version level = record {
    version = subst (IsOfPlace (place_of (solo_in x))) (sym version) of_place;
    covers = subst (λ (v : Edition). Covers (level_of (x.version).instance v.number) g) (sym version) covers;
    level = level;
    open_to = no_full_within (x.version).instance (h.edition).instance x.limit (x.version).number g (h.edition).version h.most covers;
  }

  pub full_mark : (g : ℕ) (m : FullMark) (d : ℕ) → IsShortOf x.version g → IsFullGrade (x.version).instance x.limit d →
      opened_grade (x.version).instance (x.version).number ≡ Some d → opened_grade (x.version).instance (x.version).number ≡ Some m.grade → arc_value m.version ≡ x.version →
      IsFullMark (place_of (solo_in x)) g m
  full_mark g m d short full opened at version =
      let same : m.grade ≡ d = same_Some m.grade d (sym at ∙ opened) in
      let above : short.level + 1 ≡ d = same_Some (short.level + 1) d (sym (ap grade_after short.same) ∙ opened) in
      let most : d ≤ g = omega (arith, above, short.below) in
      record {
        version = subst (IsOfPlace (place_of (solo_in x))) (sym version) of_place;
        grade = (full_some (x.version).instance x.limit g d).1 (full, most) ∙ ap Some (sym same);
        finished = ap (λ (v : Edition). level_of (x.version).instance v.number) version ∙ short.same ∙ ap upto (let e : short.level ≡ m.grade - 1 = omega (arith, above, same) in e);
      }

  -- ---- one step

  -- the list of the next version has so many moves
  next_length : (l : ℕ) → level_of (x.version).instance (x.version).number ≡ upto l → (new : List Binomial) →
      version_list (x.version).instance (x.version).number ++ new ≡ version_list (x.version).instance (suc (x.version).number) →
      length (test_list (x.version).instance (l + 1)) ≡ length (version_list (x.version).instance (x.version).number) + length new
  next_length l e new list =
      ap length (sym (list_next (x.version).instance (x.version).number l e)) ∙ ap length (sym list) ∙ length-append (version_list (x.version).instance (x.version).number) new

  pub found_full : (l : ℕ) → level_of (x.version).instance (x.version).number ≡ upto l → (new : List Binomial) →
      version_list (x.version).instance (x.version).number ++ new ≡ version_list (x.version).instance (suc (x.version).number) →
      x.limit < length (version_list (x.version).instance (x.version).number) + length new →
      (d : ℕ) × (opened_grade (x.version).instance (x.version).number ≡ Some d) × IsFullGrade (x.version).instance x.limit d
  found_full l e new list more = (
    l + 1,
    ap grade_after e,
    opened_is_full (x.version).instance (h.edition).instance x.limit (x.version).number l (h.edition).version e h.most (omega (arith, next_length l e new list, more)),
  )

  -- the agenda is lost, and its greatest grade stays
  pub lost : (a : Agenda) → a.top ≡ (x.agenda).top → IsSolo (insides x.version x.limit x.full x.levels false a)
  lost a top = record {
    edition = h.edition;
    most = h.most;
    limit = h.limit;
    top = omega (arith, top, h.top);
    levels = h.levels;
    marked = h.marked;
    agenda = λ e. absurd (true≢false (sym e));
  }

  pub now_full : (d : ℕ) → opened_grade (x.version).instance (x.version).number ≡ Some d → IsFullGrade (x.version).instance x.limit d →
      IsSolo (insides x.version x.limit true x.levels x.whole x.agenda)
  now_full d opened full = record {
    edition = h.edition;
    most = h.most;
    limit = h.limit;
    top = h.top;
    levels = h.levels;
    marked = λ e. (d, opened, full);
    agenda = h.agenda;
  }

  pub advanced : (l : ℕ) → level_of (x.version).instance (x.version).number ≡ upto l → (new : List Binomial) →
      version_list (x.version).instance (x.version).number ++ new ≡ version_list (x.version).instance (suc (x.version).number) →
      length (version_list (x.version).instance (x.version).number) + length new ≤ x.limit → x.full ≡ false →
      (v : Edition) → v ≡ record { instance = (x.version).instance; number = suc (x.version).number } → IsEdition v →
      (levels : List Finished) (f : Finished) → levels ≡ x.levels ++ f ∷ [] → level_seen f ≡ level_of v.instance v.number →
      (a : Agenda) → a.top ≡ (x.agenda).top → HasAgenda v a → IsSolo (insides v x.limit x.full levels true a)
  advanced l e new list within unmarked v is edition levels f longer level a top has =
      let i : Problem = (x.version).instance in
      let k : ℕ = (x.version).number in
      let reached : level_seen f ≡ level_of i (suc k) = level ∙ ap (λ (w : Edition). level_of w.instance w.number) is in
      let so_far : map level_seen levels ≡ map (level_of i) (up_to (suc k)) =
      ap (map level_seen) longer ∙ map-append level_seen x.levels (f ∷ []) ∙ ap₂ (λ (ls : List Level) (y : Level). ls ++ y ∷ []) h.levels reached ∙
      sym (map-append (level_of i) (up_to k) (suc k ∷ [])) in
      let count : length (version_list v.instance v.number) ≡ length (version_list i k) + length new =
      ap (λ (w : Edition). length (version_list w.instance w.number)) is ∙ ap length (sym list) ∙ length-append (version_list i k) new in
      record {
        edition = edition;
        most = omega (arith, count, within);
        limit = h.limit;
        top = omega (arith, top, h.top);
        levels = subst (λ (w : Edition). AreLevels w.instance w.number (map level_seen levels)) (sym is) so_far;
        marked = λ y. absurd (true≢false (sym y ∙ unmarked));
        agenda = λ y. has;
      }

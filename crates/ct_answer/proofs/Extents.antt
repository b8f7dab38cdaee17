-- How far the moves of a completion from its beginning come, and the greatest grade of phases.
use Rattle.std.proofs.Common.{◌≡◌, ℕ, ◌+◌, ◌<◌, max, true, Some, List, length, get_or, take, map, sym, ap, ◌∙◌}
use Rattle.std.specs.Arc.{arc_value}
use Rattle.std.proofs.lemmas.List.{map_push}
use Rattle.ct_instance.specs.Instance.{Problem}
use Rattle.ct_instance.specs.TestSet.{Binomial}
use Rattle.ct_instance.specs.Versions.{level_of, version_list}
use Rattle.ct_levels.proofs.Covering.{first_version}
use Rattle.ct_version.specs.declared.finished.Finished.{Finished}
use Rattle.ct_version.specs.declared.pins.Helped.{Helped}
use Rattle.ct_version.specs.declared.pins.FullMark.{FullMark}
use Rattle.ct_version.specs.Editions.{Edition, level_seen, level_below}
use Rattle.ct_version.specs.Desks.{Place, IsFullMark}
use Rattle.ct_solo.specs.Seen.{SoloSeen, IsCompleted}
use Rattle.ct_input.specs.declared.script.Phase.{Phase}
use Rattle.ct_legal.specs.Cases.{Case}
use Rattle.ct_legal.specs.Scripts.{phase_with_solves, greatest, grade_after}
use Rattle.ct_answer.specs.declared.options.Options.{Options}
use Rattle.ct_answer.specs.Told.{case_at, all_worked_for}
use Rattle.ct_answer.specs.Extents.{grade_upto, IsExtent}
use Rattle.ct_answer.proofs.Pairing.{one_more}
use Rattle.ct_answer.proofs.Completed.{opened, first_completed}
use Rattle.ct_answer.proofs.ToldReports.{reach_helped, reach_marked, grade_told, grade_pushed}

abbrev pub list_of : Edition → List Binomial
list_of v = version_list v.instance v.number

pub extent_helped : (i : Problem) (limit top g : ℕ) (c : SoloSeen) (h : Helped) (moves : ℕ) → IsCompleted (opened i limit top) g c h →
    moves ≡ length (list_of (arc_value h.version)) → IsExtent i limit g (record { moves = moves; level = h.level })
extent_helped i limit top g c h moves done count =
    let first = first_completed i limit top g c h done in
    let number_is : (arc_value h.version).number ≡ c.number = ap (λ (e : Edition). e.number) done.version in
    record {
      level = reach_helped (record { instance = i; limit = limit }) g h done.help;
      number = (arc_value h.version).number;
      version = done.help.version.version;
      same = ap (level_of i) (number_is ∙ (first_version i g c.number).1 first) ∙ sym done.help.level;
      moves = count ∙ ap (λ p. length (version_list p (arc_value h.version).number)) done.help.version.instance;
    }

pub extent_marked : (i : Problem) (limit g : ℕ) (m : FullMark) (moves : ℕ) (level : Finished) → IsFullMark (record { instance = i; limit = limit }) g m →
    moves ≡ length (list_of (arc_value m.version)) → level_seen level ≡ level_below (Some m.grade) → IsExtent i limit g (record { moves = moves; level = level })
extent_marked i limit g m moves level mark count is = record {
  level = is ∙ reach_marked (record { instance = i; limit = limit }) g m mark;
  number = (arc_value m.version).number;
  version = mark.version.version;
  same = mark.finished ∙ sym is;
  moves = count ∙ ap (λ p. length (version_list p (arc_value m.version).number)) mark.version.instance;
}

-- one phase more
pub grade_more : (p : Place) (o : Options) (phases : List Phase) (k grade next : ℕ) (phase : Phase) → k < length phases → phase ≡ get_or phases k phase →
    grade ≡ grade_upto (case_at p o) 0 (map phase_with_solves (take k phases)) → next ≡ max grade (max phase.target (greatest (all_worked_for true phase.sessions))) →
    next ≡ grade_upto (case_at p o) 0 (map phase_with_solves (take (k + 1) phases))
grade_more p o phases k grade next phase inside is so_far next_is =
    let c : Case = case_at p o in
    let front : List Phase = map phase_with_solves (take k phases) in
    next_is ∙ sym (grade_told p o grade phase) ∙ ap (λ g. grade_after c g (phase_with_solves phase)) so_far
    ∙ sym (grade_pushed c 0 front (phase_with_solves phase))
    ∙ ap (grade_upto c 0) (sym (map_push phase_with_solves (take k phases) phase) ∙ ap (map phase_with_solves) (one_more phases k phase inside is))

-- Completions of a box: a step leads from one state to the next, or the box is full at its grade, and where no grade is left
-- the whole box stands.
use Rattle.std.proofs.Common.{ℕ, ◌-◌, ◌≤◌, ◌<◌, ◌≡◌, ◌↔◌, Option, Some, None, List, [], ◌++◌, length, Contains, refl, sym, subst, ap, ◌∙◌, arith, zero, suc}
use Rattle.ct_vectors.specs.Vectors.{total}
use Rattle.ct_instance.specs.declared.jobs.Job.{Job}
use Rattle.ct_instance.specs.Instance.{Problem, IsInstance, IsPoint, grade_of}
use Rattle.ct_instance.specs.TestSet.{Binomial}
use Rattle.ct_instance.specs.Walk.{IsWalk}
use Rattle.ct_instance.specs.Jobs.{IsJob, all_jobs, job_grade_of}
use Rattle.ct_instance.specs.Versions.{least_above}
use Rattle.ct_instance.proofs.Lists.{Contains-map}
use Rattle.ct_instance.proofs.Above.{least_above_some, least_above_none}
use Rattle.ct_instance.proofs.JobsList.{jobs_listed}
use Rattle.ct_levels.specs.Levels.{job_grades}
use Rattle.ct_box.specs.Box.{box_list, box_list_to, IsBoxList, box_full_grade}
use Rattle.ct_box.specs.Completing.{IsBoxState, IsBoxStep, IsBeyond, IsBoxDone}
use Rattle.ct_box.specs.Laws.{NoBoxJobBetween}
use Rattle.ct_box.proofs.BoxLists.{box_lists, box_longer, box_is_whole, one_box_list, whole_box_list}
use Rattle.ct_box.proofs.Openings.{box_starts, box_opens, box_grows}
use Rattle.ct_box.proofs.BoxWalks.{box_walks_stay}
use Rattle.ct_box.proofs.FullGrades.{shorter_than_whole, full_some, full_none}

-- ---- grades without a job

listed_grade : (i : Problem) (ms : List Binomial) (j : Job) → IsJob i ms j → Contains (job_grades i ms) (job_grade_of i ms j)
listed_grade i ms j k = Contains-map (job_grade_of i ms) (all_jobs i ms) j (((jobs_listed i ms).0 j).1 k)

-- none from the last grade up to the one before the next
none_before : (i : Problem) (top : List ℕ) (last g : ℕ) (ms : List Binomial) → least_above last (job_grades i ms) ≡ Some (suc g) → NoBoxJobBetween i top ms last g
none_before i top last g ms e j k w l h =
    let r = least_above_some last (job_grades i ms) (suc g) e in
    omega (arith, r.2 (job_grade_of i ms j) (listed_grade i ms j k) l, h)

-- none up to a grade that the next is beyond
none_within : (i : Problem) (top : List ℕ) (last g : ℕ) (ms : List Binomial) → IsBeyond g (least_above last (job_grades i ms)) → NoBoxJobBetween i top ms last g
none_within i top last g ms b j k w l h = of (least_above last (job_grades i ms)) refl b
  where
    of : (o : Option ℕ) → least_above last (job_grades i ms) ≡ o → IsBeyond g o → ⊥
    of None e b = omega (arith, least_above_none last (job_grades i ms) e (job_grade_of i ms j) (listed_grade i ms j k), l)
    of (Some d) e b =
        let r = least_above_some last (job_grades i ms) d e in
        let far : g < d = b in
        omega (arith, far, r.2 (job_grade_of i ms j) (listed_grade i ms j k) l, h)

-- ---- a step

-- the list is the box up to the grade before that of the step, and with the new moves the box up to the grade of the step
record IsGrown (i : Problem) (top : List ℕ) (g : ℕ) (ms new : List Binomial) : Type 0 where
  before : IsBoxList i top g ms
  after : IsBoxList i top (suc g) (ms ++ new)

grown : (i : Problem) → IsInstance i → (top : List ℕ) (limit last g : ℕ) (ms new : List Binomial) → IsBoxState i top limit last ms → IsBoxStep i top last (suc g) ms new →
    IsGrown i top g ms new
grown i s top limit last g ms new t u =
    let r = least_above_some last (job_grades i ms) (suc g) u.next in
    let before : IsBoxList i top g ms = box_opens i s top last g ms (omega (arith, r.0)) t.list (none_before i top last g ms u.next) in
    record { before = before; after = box_grows i s top g ms before u.remainders u.are new u.exact u.ordered }

-- the grade of a step isn't 0
no_step_to_zero : (i : Problem) (top : List ℕ) (last : ℕ) (ms new : List Binomial) → IsBoxStep i top last 0 ms new → ⊥
no_step_to_zero i top last ms new u = let r = least_above_some last (job_grades i ms) 0 u.next in omega (arith, r.0)

pub box_steps : (i : Problem) → IsInstance i → (top : List ℕ) (limit last d : ℕ) (ms new : List Binomial) → IsBoxState i top limit last ms → IsBoxStep i top last d ms new →
    length (ms ++ new) ≤ limit → IsBoxState i top limit d (ms ++ new)
box_steps i s top limit last zero ms new t u l = absurd (no_step_to_zero i top last ms new u)
box_steps i s top limit last (suc g) ms new t u l = record { list = (grown i s top limit last g ms new t u).after; most = l; within = u.within }

pub box_fills : (i : Problem) → IsInstance i → (top : List ℕ) (limit last d : ℕ) (ms new : List Binomial) → IsBoxState i top limit last ms → IsBoxStep i top last d ms new →
    limit < length (ms ++ new) → IsBoxDone i top limit ms (Some d)
box_fills i s top limit last zero ms new t u l = absurd (no_step_to_zero i top last ms new u)
box_fills i s top limit last (suc g) ms new t u l = (is ∙ ap (box_list_to i top) (let e : g ≡ suc g - 1 = omega arith in e), record { more = more; first = first })
  where
    is : ms ≡ box_list_to i top g
    is = (box_lists i s top g ms).1 (grown i s top limit last g ms new t u).before

    more : limit < length (box_list_to i top (suc g))
    more = subst (λ (xs : List Binomial). limit < length xs) ((box_lists i s top (suc g) (ms ++ new)).1 (grown i s top limit last g ms new t u).after) l

    first : (h : ℕ) → h < suc g → length (box_list_to i top h) ≤ limit
    first h b =
        let same : length ms ≡ length (box_list_to i top g) = ap length is in
        let most : length ms ≤ limit = t.most in
        omega (arith, same, most, box_longer i top h g (omega (arith, b)))

-- ---- the begin and the end

pub box_begins : (i : Problem) → IsInstance i → (top : List ℕ) (limit : ℕ) → IsBoxState i top limit 0 []
box_begins i s top limit = record { list = box_starts i s top; most = omega arith; within = omega arith }

pub box_ends : (i : Problem) → IsInstance i → (top : List ℕ) (limit last : ℕ) (ms : List Binomial) → IsBoxState i top limit last ms →
    IsBeyond (total top) (least_above last (job_grades i ms)) → IsBoxDone i top limit ms None
box_ends i s top limit last ms t b = (whole, λ g. omega (arith, shorter_than_whole i s top g, same, most))
  where
    whole : ms ≡ box_list i top
    whole = one_box_list i top (total top) ms (box_list i top) (box_opens i s top last (total top) ms t.within t.list (none_within i top last (total top) ms b)) (whole_box_list i s top)

    same : length ms ≡ length (box_list i top)
    same = ap length whole

    most : length ms ≤ limit
    most = t.most

-- ---- what a completion ends with

pub done_names_full : (i : Problem) → IsInstance i → (top : List ℕ) (limit : ℕ) (ms : List Binomial) (full : Option ℕ) → IsBoxDone i top limit ms full →
    full ≡ box_full_grade i top limit
done_names_full i s top limit ms None h =
    sym ((full_none i s top limit).1
    (subst (λ (xs : List Binomial). length xs ≤ limit) (box_is_whole i s top (total top) (omega arith)) (h.1 (total top))))
done_names_full i s top limit ms (Some f) h = sym ((full_some i s top limit f).1 h.1)

pub done_walks : (i : Problem) → IsInstance i → (top : List ℕ) (limit : ℕ) (ms : List Binomial) (full : Option ℕ) → IsBoxDone i top limit ms full →
    (p : List ℕ) → IsPoint i p → ((f : ℕ) → full ≡ Some f → grade_of i.columns p < f) →
    (steps : List (ℕ × ℕ)) (q : List ℕ) → IsWalk ms p steps q ↔ IsWalk (box_list i top) p steps q
done_walks i s top limit ms None h p e below steps q =
    (subst (λ (xs : List Binomial). IsWalk xs p steps q) h.0, subst (λ (xs : List Binomial). IsWalk xs p steps q) (sym h.0))
done_walks i s top limit ms (Some f) h p e below steps q =
    let low : grade_of i.columns p < f = below f refl in
    let stay = box_walks_stay i s top (f - 1) p e (omega (arith, low)) steps q in
    (λ w. stay.1 (subst (λ (xs : List Binomial). IsWalk xs p steps q) h.0 w), λ w. subst (λ (xs : List Binomial). IsWalk xs p steps q) (sym h.0) (stay.0 w))

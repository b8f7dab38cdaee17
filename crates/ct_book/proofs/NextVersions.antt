-- The next version: its list, its level, its jobs.
use Rattle.std.proofs.Common.{◌≡◌, ℕ, ◌+◌, ◌≤◌, ◌<◌, Option, Some, None, List, [], ◌∷◌, ◌++◌, length, map, take, get_or, sym, ap, ap₂, subst, subst₂, ◌∙◌, refl, arith, suc}
use Rattle.std.specs.Option.{unwrap_or}
use Rattle.std.proofs.lemmas.List.{map-append, take_more}
use Rattle.ct_vectors.specs.declared.limits.TheConstants.{GRADE_LIMIT}
use Rattle.ct_instance.specs.Instance.{Problem}
use Rattle.ct_instance.specs.TestSet.{Binomial}
use Rattle.ct_instance.specs.Versions.{Level, upto, everything, level_of, version_list, IsVersion}
use Rattle.ct_instance.specs.Reach.{last_opened}
use Rattle.ct_levels.proofs.Levels.{last_opened_next, number_within}
use Rattle.ct_walk.specs.Moves.{MoveList}
use Rattle.ct_jobs.specs.declared.graded.GradedJob.{GradedJob}
use Rattle.ct_jobs.specs.GradedJobs.{AreJobsOf, graded_pairs_from, next_grade}
use Rattle.ct_jobs.proofs.Growing.{jobs_grow}
use Rattle.ct_completion.specs.Machine.{opened_jobs}
use Rattle.ct_completion.specs.Remainders.{points_of}
use Rattle.ct_version.specs.Editions.{Edition, level_below}
use Rattle.ct_book.specs.declared.queue.Slot.{Slot}
use Rattle.ct_book.specs.Queues.{QueueSeen, slot_seen}
use Rattle.ct_book.specs.Insides.{fresh}
use Rattle.ct_book.specs.Openings.{left_in, ListsJobs}
use Rattle.ct_book.proofs.OpeningGrades.{queue_opened, level_next_below}

-- ---- points of slots

points_of-append : (rs ss : List (Option (List ℕ × List ℕ))) → points_of (rs ++ ss) ≡ points_of rs ++ points_of ss
points_of-append [] ss = refl
points_of-append (None ∷ rs) ss = points_of-append rs ss
points_of-append (Some p ∷ rs) ss = ap (λ (l : List (List ℕ)). p.0 ∷ p.1 ∷ l) (points_of-append rs ss)

pub points_more : (slots : List Slot) (k : ℕ) (slot : Slot) (before after : List (List ℕ)) → k < length slots → slot ≡ get_or slots k slot →
    before ≡ points_of (left_in (map slot_seen (take k slots))) → after ≡ before ++ points_of (unwrap_or (slot_seen slot) None ∷ []) →
    after ≡ points_of (left_in (map slot_seen (take (k + 1) slots)))
points_more slots k slot before after within is start more =
    let longer : take (k + 1) slots ≡ take k slots ++ slot ∷ [] = take_more slots k slot within ∙ ap (λ (s : Slot). take k slots ++ s ∷ []) (sym is) in
    let left : left_in (map slot_seen (take (k + 1) slots)) ≡ left_in (map slot_seen (take k slots)) ++ unwrap_or (slot_seen slot) None ∷ [] =
    ap (λ (l : List Slot). left_in (map slot_seen l)) longer ∙ ap left_in (map-append slot_seen (take k slots) (slot ∷ [])) ∙
    map-append (λ (s : Option (Option (List ℕ × List ℕ))). unwrap_or s None) (map slot_seen (take k slots)) (slot_seen slot ∷ []) in
    more ∙ ap (λ (l : List (List ℕ)). l ++ points_of (unwrap_or (slot_seen slot) None ∷ [])) start ∙
    sym (points_of-append (left_in (map slot_seen (take k slots))) (unwrap_or (slot_seen slot) None ∷ [])) ∙ sym (ap points_of left)

-- ---- what follows a version

pub same_level : (a b : ℕ) → upto a ≡ upto b → a ≡ b
same_level a b e = ap grade_in e
  where
    grade_in : Level → ℕ
    grade_in (upto l) = l
    grade_in everything = 0

-- a version that opens a grade within the limit, and the list of the next one
pub record IsNext (v : Edition) (before after : MoveList) (new : List Binomial) : Type 0 where
  pub level : ℕ
  pub opens : level_of v.instance v.number ≡ upto level
  pub small : level < GRADE_LIMIT
  pub instance : before.instance ≡ v.instance
  pub list : before.moves ≡ version_list v.instance v.number
  pub extended : after ≡ record before { moves = before.moves ++ new }
  pub next : version_list v.instance v.number ++ new ≡ version_list v.instance (suc v.number)

module _ (v : Edition) (before after : MoveList) (new : List Binomial) (n : IsNext v before after new) where
  pub after_instance : after.instance ≡ v.instance
  after_instance = ap (λ (l : MoveList). l.instance) n.extended ∙ n.instance

  pub after_list : after.moves ≡ version_list v.instance (suc v.number)
  after_list = ap (λ (l : MoveList). l.moves) n.extended ∙ ap (λ (ms : List Binomial). ms ++ new) n.list ∙ n.next

  pub next_is_version : IsVersion v.instance (suc v.number)
  next_is_version = (n.level, n.opens)

  pub next_opened : last_opened v.instance (suc v.number) ≡ n.level + 1
  next_opened = last_opened_next v.instance v.number n.level n.opens

  pub next_number : suc v.number ≤ GRADE_LIMIT
  next_number = omega (arith, number_within v.instance (suc v.number) next_is_version, next_opened, n.small)

  pub next_jobs : (js more : List GradedJob) (i : Problem) (from : ℕ) → AreJobsOf v.instance (version_list v.instance v.number) js → i ≡ after.instance →
      from ≡ length before.moves + 1 → more ≡ graded_pairs_from i after.moves from → AreJobsOf v.instance (version_list v.instance (suc v.number)) (js ++ more)
  next_jobs js more i from are same start e =
      let ms : List Binomial = version_list v.instance v.number in
      let grown : AreJobsOf v.instance (ms ++ new) (js ++ graded_pairs_from v.instance (ms ++ new) (length ms + 1)) = jobs_grow v.instance ms new js are in
      let moves : after.moves ≡ ms ++ new = after_list ∙ sym n.next in
      let at : from ≡ length ms + 1 = start ∙ ap (λ (l : List Binomial). length l + 1) n.list in
      let pairs : more ≡ graded_pairs_from v.instance (ms ++ new) (length ms + 1) =
      e ∙ ap (λ (j : Problem). graded_pairs_from j after.moves from) (same ∙ after_instance) ∙ ap₂ (graded_pairs_from v.instance) moves at in
      subst₂ (λ (l : List Binomial) (ks : List GradedJob). AreJobsOf v.instance l (js ++ ks)) n.next (sym pairs) grown

  pub next_level : (all : List GradedJob) (above : ℕ) (l : Level) → AreJobsOf v.instance (version_list v.instance (suc v.number)) all → above ≡ n.level + 1 →
      l ≡ level_below (next_grade above all) → l ≡ level_of v.instance (suc v.number)
  next_level all above l are at e =
      e ∙ ap (λ (d : ℕ). level_below (next_grade d all)) (at ∙ sym next_opened) ∙ sym (level_next_below v.instance (suc v.number) next_is_version all are)

  pub next_queue : (all : List GradedJob) (above : ℕ) (q : QueueSeen) → AreJobsOf v.instance (version_list v.instance (suc v.number)) all → above ≡ n.level + 1 →
      ListsJobs all (next_grade above all) q → q ≡ fresh (opened_jobs v.instance (suc v.number))
  next_queue all above q are at h =
      queue_opened v.instance (suc v.number) next_is_version all are q (subst (λ (d : ℕ). ListsJobs all (next_grade d all) q) (at ∙ sym next_opened) h)

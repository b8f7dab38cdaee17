-- The grade that a version opens, found among the jobs of its list.
use Rattle.std.proofs.Common.{◌≡◌, ℕ, ◌+◌, ◌≤◌, false, Option, List, [], ◌∷◌, ◌++◌, length, map, sym, ap, subst, ◌∙◌, refl, arith, append-nil}
use Rattle.ct_vectors.specs.declared.limits.TheConstants.{MOVE_LIMIT}
use Rattle.ct_instance.specs.Instance.{Problem}
use Rattle.ct_instance.specs.TestSet.{Binomial}
use Rattle.ct_instance.specs.Versions.{Level, level_of, version_list, IsVersion}
use Rattle.ct_instance.specs.Reach.{opened_grade, last_opened}
use Rattle.ct_instance.proofs.Above.{level_under}
use Rattle.ct_levels.proofs.Levels.{list_zero, opened_is_next, level_is}
use Rattle.ct_jobs.specs.declared.graded.GradedJob.{GradedJob}
use Rattle.ct_jobs.specs.GradedJobs.{AreJobsOf, next_grade}
use Rattle.ct_jobs.proofs.Growing.{next_grade_of_all}
use Rattle.ct_completion.specs.declared.journals.Entry.{Entry}
use Rattle.ct_completion.specs.Machine.{CompletionState, just_opened, opened_jobs}
use Rattle.ct_completion.specs.Journal.{IsReplay}
use Rattle.ct_completion.specs.Kept.{AreLevels}
use Rattle.ct_version.specs.declared.finished.Finished.{Finished}
use Rattle.ct_handing.proofs.LevelsSoFar.{under_is_below}
use Rattle.ct_version.specs.Editions.{Edition, IsEdition, level_seen, level_below}
use Rattle.ct_book.specs.Logs.{LogSeen}
use Rattle.ct_book.specs.Queues.{QueueSeen}
use Rattle.ct_book.specs.Books.{BookSeen}
use Rattle.ct_book.specs.Insides.{IsBook, book_in, state_in, fresh}
use Rattle.ct_book.specs.Openings.{jobs_by, ListsJobs}
use Rattle.ct_book.proofs.Keeping.{inside_of}
use Rattle.ct_book.proofs.OpenedJobs.{opened_jobs_by}
use Rattle.ct_book.proofs.FreshBooks.{fresh_book, fresh_state, opening_replay}

module _ (i : Problem) (k : ℕ) (v : IsVersion i k) (js : List GradedJob) (are : AreJobsOf i (version_list i k) js) where
  pub opens_next : opened_grade i k ≡ next_grade (last_opened i k) js
  opens_next = opened_is_next i k v ∙ sym (next_grade_of_all i (version_list i k) js (last_opened i k) are)

  pub level_next_below : level_of i k ≡ level_below (next_grade (last_opened i k) js)
  level_next_below =
      level_is i k v ∙ ap level_under (sym (next_grade_of_all i (version_list i k) js (last_opened i k) are)) ∙ under_is_below (next_grade (last_opened i k) js)

  pub queue_opened : (q : QueueSeen) → ListsJobs js (next_grade (last_opened i k) js) q → q ≡ fresh (opened_jobs i k)
  queue_opened q h =
      h i (version_list i k) are ∙ ap (λ (o : Option ℕ). fresh (jobs_by i (version_list i k) o)) (sym opens_next) ∙ ap fresh (sym (opened_jobs_by i k))

-- the empty list
jobs_of_none : (i : Problem) (js none : List GradedJob) → AreJobsOf i [] js → none ≡ [] → AreJobsOf i (version_list i 0) (js ++ none)
jobs_of_none i js none are e =
    subst (λ (ms : List Binomial). AreJobsOf i ms (js ++ none)) (sym (list_zero i))
    (subst (AreJobsOf i []) (sym (ap (λ (l : List GradedJob). js ++ l) e ∙ append-nil js)) are)

pub level_at_zero : (i : Problem) (js none : List GradedJob) → AreJobsOf i [] js → none ≡ [] → (l : Level) → l ≡ level_below (next_grade 0 (js ++ none)) → l ≡ level_of i 0
level_at_zero i js none are e l same = same ∙ sym (level_next_below i 0 tt (js ++ none) (jobs_of_none i js none are e))

pub queue_at_zero : (i : Problem) (js none : List GradedJob) → AreJobsOf i [] js → none ≡ [] → (q : QueueSeen) → ListsJobs (js ++ none) (next_grade 0 (js ++ none)) q →
    q ≡ fresh (opened_jobs i 0)
queue_at_zero i js none are e q h = queue_opened i 0 tt (js ++ none) (jobs_of_none i js none are e) q h

pub zero_book : (i : Problem) (v : Edition) → v ≡ record { instance = i; number = 0 } → IsEdition v → (limit : ℕ) → limit ≤ MOVE_LIMIT →
    (levels : List Finished) (l : Finished) → levels ≡ l ∷ [] → level_seen l ≡ level_of i 0 → (js : List GradedJob) → AreJobsOf i [] js →
    (q : QueueSeen) → q ≡ fresh (opened_jobs i 0) → (log : LogSeen) → log.entries ≡ [] → length q.jobs + 1 ≤ log.room → IsBook (inside_of v limit false levels js q log)
zero_book i v same edition limit most levels l only level js are q queue log none room =
    let opened : last_opened v.instance v.number ≡ 0 = ap (λ (w : Edition). last_opened w.instance w.number) same in
    let jobs : length q.jobs ≡ length (opened_jobs v.instance v.number) =
    ap (λ (r : QueueSeen). length r.jobs) queue ∙ ap (λ (w : Edition). length (opened_jobs w.instance w.number)) (sym same) in
    let entries : length log.entries ≡ 0 = ap length none in
    fresh_book (inside_of v limit false levels js q log) edition (omega (arith, opened)) most
    (subst (λ (w : Edition). AreLevels w.instance w.number (map level_seen levels)) (sym same) (ap (map level_seen) only ∙ ap (λ (x : Level). x ∷ []) level))
    (subst (λ (w : Edition). AreJobsOf w.instance (version_list w.instance w.number) js) (sym same) (subst (λ (ms : List Binomial). AreJobsOf i ms js) (sym (list_zero i)) are))
    (queue ∙ ap (λ (w : Edition). fresh (opened_jobs w.instance w.number)) (sym same)) refl
    (subst (λ (es : List Entry). IsReplay v.instance limit es (just_opened v.instance v.number)) (sym none)
    (subst (λ (w : Edition). IsReplay w.instance limit [] (just_opened w.instance w.number)) (sym same) (opening_replay i limit)))
    (omega (arith, room))

abbrev pub seen_with : Problem → ℕ → ℕ → CompletionState → List Entry → BookSeen
seen_with i limit passes s es = record { instance = i; limit = limit; passes = passes; state = s; journal = es }

pub zero_seen : (i : Problem) (v : Edition) → v ≡ record { instance = i; number = 0 } → (limit passes : ℕ) (levels : List Finished) (js : List GradedJob) →
    (q : QueueSeen) → q ≡ fresh (opened_jobs i 0) → (log : LogSeen) → log.entries ≡ [] → log.passes ≡ passes →
    book_in (inside_of v limit false levels js q log) ≡ seen_with i limit passes (just_opened i 0) []
zero_seen i v same limit passes levels js q queue log none count =
    let own : q ≡ fresh (opened_jobs v.instance v.number) = queue ∙ ap (λ (w : Edition). fresh (opened_jobs w.instance w.number)) (sym same) in
    let state : state_in (inside_of v limit false levels js q log) ≡ just_opened v.instance v.number = fresh_state (inside_of v limit false levels js q log) own refl in
    ap (λ (s : CompletionState). seen_with v.instance limit log.passes s log.entries) state ∙
    ap (λ (w : Edition). seen_with w.instance limit log.passes (just_opened w.instance w.number) log.entries) same ∙
    ap (λ (n : ℕ). seen_with i limit n (just_opened i 0) log.entries) count ∙ ap (seen_with i limit passes (just_opened i 0)) none

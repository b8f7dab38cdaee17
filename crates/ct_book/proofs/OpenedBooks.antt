-- A book that is opened at the first version that covers a grade.
use Rattle.std.proofs.Common.{◌≡◌, ℕ, ◌+◌, ◌≤◌, false, List, length, map, sym, ap, ap₂, subst, ◌∙◌, refl, arith}
use Rattle.ct_vectors.specs.declared.limits.TheConstants.{GRADE_LIMIT, MOVE_LIMIT}
use Rattle.ct_instance.specs.Instance.{Problem, IsInstance}
use Rattle.ct_instance.specs.TestSet.{Binomial, test_list}
use Rattle.ct_instance.specs.Versions.{version_list, IsVersion}
use Rattle.ct_instance.specs.Reach.{last_opened, first_version_from}
use Rattle.ct_levels.proofs.Covering.{first_version_is, first_is_version, test_list_of_first}
use Rattle.ct_levels.proofs.Levels.{number_within}
use Rattle.ct_jobs.specs.declared.graded.GradedJob.{GradedJob}
use Rattle.ct_jobs.specs.GradedJobs.{AreJobsOf}
use Rattle.ct_completion.specs.declared.journals.Entry.{Entry}
use Rattle.ct_completion.specs.Machine.{CompletionState, just_opened, opened_jobs}
use Rattle.ct_completion.specs.Journal.{IsReplay}
use Rattle.ct_completion.specs.OnePass.{journal_to}
use Rattle.ct_completion.specs.Kept.{AreLevels}
use Rattle.ct_completion.proofs.OnePass.{journal_to_is_replayed}
use Rattle.ct_version.specs.declared.finished.Finished.{Finished}
use Rattle.ct_version.specs.Editions.{Edition, IsEdition, level_seen}
use Rattle.ct_book.specs.Logs.{LogSeen}
use Rattle.ct_book.specs.Queues.{QueueSeen}
use Rattle.ct_book.specs.Insides.{IsBook, book_in, state_in, fresh}
use Rattle.ct_book.specs.Bringing.{IsBrought}
use Rattle.ct_book.proofs.Keeping.{inside_of}
use Rattle.ct_book.proofs.FreshBooks.{fresh_book, fresh_state}
use Rattle.ct_book.proofs.OpeningGrades.{seen_with}

-- version k is the first one that covers g
module _ (i : Problem) (s : IsInstance i) (g k : ℕ) (first : k ≡ first_version_from i g) where
  pub there_is : IsVersion i k
  there_is = subst (IsVersion i) (sym first) (first_is_version i g (first_version_from i g) (first_version_is i g)).0

  opened_most : last_opened i k ≤ g
  opened_most = subst (λ (n : ℕ). last_opened i n ≤ g) (sym first) (first_is_version i g (first_version_from i g) (first_version_is i g)).1

  pub number_most : k ≤ g
  number_most = omega (arith, number_within i k there_is, opened_most)

  pub list_is : version_list i k ≡ test_list i g
  list_is = ap (version_list i) first ∙ test_list_of_first i s g (first_version_from i g) (first_version_is i g)

  module _ (v : Edition) (same : v ≡ record { instance = i; number = k }) (limit : ℕ) (levels : List Finished) (level : Finished) (js : List GradedJob)
      (q : QueueSeen) (log : LogSeen) (b : IsBrought i g k levels log.entries level q) where
    own : q ≡ fresh (opened_jobs v.instance v.number)
    own = b.queue ∙ ap (λ (w : Edition). fresh (opened_jobs w.instance w.number)) (sym same)

    pub at_book : IsEdition v → g ≤ GRADE_LIMIT → limit ≤ MOVE_LIMIT → (ms : List Binomial) → ms ≡ test_list i g → length ms ≤ limit → AreJobsOf i ms js →
        length log.entries + (length q.jobs + 1) ≤ log.room → IsBook (inside_of v limit false levels js q log)
    at_book edition small most ms list within are room =
        let opened : last_opened v.instance v.number ≡ last_opened i k = ap (λ (w : Edition). last_opened w.instance w.number) same in
        let jobs : length q.jobs ≡ length (opened_jobs v.instance v.number) = ap (λ (r : QueueSeen). length r.jobs) own in
        let moves : ms ≡ version_list i k = list ∙ sym list_is in
        let replay : IsReplay i limit log.entries (just_opened i k) =
        subst (λ (es : List Entry). IsReplay i limit es (just_opened i k)) (sym b.journal)
        (journal_to_is_replayed i s limit k there_is (subst (λ (l : List Binomial). length l ≤ limit) moves within)) in
        fresh_book (inside_of v limit false levels js q log) edition (omega (arith, opened, opened_most)) most
        (subst (λ (w : Edition). AreLevels w.instance w.number (map level_seen levels)) (sym same) b.levels_are)
        (subst (λ (w : Edition). AreJobsOf w.instance (version_list w.instance w.number) js) (sym same) (subst (λ (l : List Binomial). AreJobsOf i l js) moves are)) own refl
        (subst (λ (w : Edition). IsReplay w.instance limit log.entries (just_opened w.instance w.number)) (sym same) replay) (omega (arith, room, jobs))

    pub at_seen : (passes : ℕ) → log.passes ≡ passes →
        book_in (inside_of v limit false levels js q log) ≡ seen_with i limit passes (just_opened i (first_version_from i g)) (journal_to i (first_version_from i g))
    at_seen passes count =
        let state : state_in (inside_of v limit false levels js q log) ≡ just_opened v.instance v.number = fresh_state (inside_of v limit false levels js q log) own refl in
        ap (λ (x : CompletionState). seen_with v.instance limit log.passes x log.entries) state ∙
        ap (λ (w : Edition). seen_with w.instance limit log.passes (just_opened w.instance w.number) log.entries) same ∙
        ap₂ (λ (n : ℕ) (es : List Entry). seen_with i limit n (just_opened i k) es) count b.journal ∙
        ap (λ (n : ℕ). seen_with i limit passes (just_opened i n) (journal_to i n)) first

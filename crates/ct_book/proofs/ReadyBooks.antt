-- What the resolved jobs of a grade give: the next version, or the mark.
use Rattle.std.proofs.Common.{◌≡◌, ℕ, ◌+◌, ◌≤◌, ◌<◌, Bool, true, true≢false, Option, Some, None, List, [], ◌∷◌, ◌++◌, length, map, get_or, All, AllPairs, Contains, ◌↔◌, IsPermutation, sym, ap, ap₂, subst, ◌∙◌, refl, arith, suc}
use Rattle.std.specs.Option.{unwrap_or}
use Rattle.std.proofs.lemmas.List.{get_or_default, length-map, length_push, length-append, map-append, get_or-map}
use Rattle.std.proofs.lemmas.List.Sorted.{IsPermutation-trans, IsPermutation-refl, IsPermutation-append}
use Rattle.std.proofs.lemmas.Option.{slice_get-get_or, same_Some}
use Rattle.ct_vectors.specs.declared.limits.TheConstants.{GRADE_LIMIT}
use Rattle.ct_vectors.specs.Vectors.{up_to}
use Rattle.ct_instance.specs.declared.jobs.Job.{Job}
use Rattle.ct_instance.specs.declared.jobs.Job.TheVariants.{Generator}
use Rattle.ct_instance.specs.Instance.{Problem}
use Rattle.ct_instance.specs.TestSet.{Binomial, test_list, ComesBefore}
use Rattle.ct_instance.specs.Walk.{AreMoves}
use Rattle.ct_instance.specs.Jobs.{job_grade_of}
use Rattle.ct_instance.specs.Versions.{Level, upto, level_of, version_list, IsVersion, IsRemainder}
use Rattle.ct_instance.specs.Reach.{last_opened}
use Rattle.ct_walk.proofs.WalkFacts.{test_list_moves}
use Rattle.ct_levels.proofs.Levels.{list_next, last_opened_next}
use Rattle.ct_levels.proofs.Lists.{is_list_of, opened_has_job}
use Rattle.ct_levels.proofs.Levels.{covers_opened}
use Rattle.ct_jobs.specs.GradedJobs.{AreJobsOf, graded_jobs}
use Rattle.ct_jobs.specs.declared.graded.GradedJob.{GradedJob}
use Rattle.ct_completion.specs.declared.journals.Act.TheVariants.{Published as ActPublished, MarkedFull}
use Rattle.ct_completion.specs.declared.journals.Entry.{Entry}
use Rattle.ct_completion.specs.Machine.{CompletionState, CompletionStep, IsReady, publishes, marks_full, opened_jobs, just_opened}
use Rattle.ct_completion.specs.Journal.{IsReplay, acts_of}
use Rattle.ct_completion.specs.Kept.{AreLevels}
use Rattle.ct_completion.specs.Remainders.{AreRemainders, points_of, IsGroupMove}
use Rattle.ct_completion.proofs.Remainders.{opened_is, next_list_is}
use Rattle.ct_completion.proofs.Replay.{journal_grows, opened_level}
use Rattle.ct_groups.specs.Groups.{IsSmallPoint}
use Rattle.ct_handing.proofs.Points.{AreSmall, remainder_small, all_points}
use Rattle.ct_version.specs.declared.finished.Finished.{Finished}
use Rattle.ct_version.specs.Editions.{Edition, IsEdition, level_seen}
use Rattle.ct_book.specs.Logs.{LogSeen}
use Rattle.ct_book.specs.Queues.{QueueSeen, IsQueue, waits_at, waiting_jobs}
use Rattle.ct_book.specs.Books.{BookSeen, Steps, entry_by}
use Rattle.ct_book.specs.Insides.{Insides, state_in, book_in, IsBook, fresh}
use Rattle.ct_book.specs.Openings.{left_in}
use Rattle.ct_book.proofs.Keeping.{inside_of}
use Rattle.ct_book.proofs.FreshBooks.{fresh_book, fresh_state}
use Rattle.ct_book.proofs.OpenedJobs.{IsOpened, job_opened}

abbrev pub state_with : ℕ → List Job → Bool → CompletionState
state_with n js b = record { number = n; queue = js; full = b }

abbrev pub seen_with : Problem → ℕ → CompletionState → ℕ → List Entry → BookSeen
seen_with i limit s passes es = record { instance = i; limit = limit; passes = passes; state = s; journal = es }

-- ---- a book that is ready

-- a book whose jobs are all resolved, with the level below the grade that is open
pub record IsDone (x : Insides) (d : ℕ) : Type 0 where
  pub ready : IsReady (x.version).instance (state_in x) d
  pub level : ℕ
  pub same : level_of (x.version).instance (x.version).number ≡ upto level
  pub above : level + 1 ≡ d

pub done_from : (x : Insides) (d : ℕ) → IsReady (x.version).instance (state_in x) d → IsDone x d
done_from x d r =
    let o = opened_level (level_of (x.version).instance (x.version).number) d r.opened in
    record { ready = r; level = o.0; same = o.1; above = o.2 }

module _ (x : Insides) (h : IsBook x) (q : IsQueue x.queue) (d : ℕ) (r : IsDone x d) where
  none_waits : (p : ℕ) → waits_at (x.queue).stored p ≡ true → ⊥
  none_waits p t =
      let c : Contains (x.queue).order p = (q.waiting p).1 t in
      let same : length (waiting_jobs x.queue) ≡ length (x.queue).order = length-map (x.queue).order (λ (p : ℕ). get_or (x.queue).jobs p (Generator 0)) in
      let none : length (waiting_jobs x.queue) ≡ 0 = ap length (r.ready).resolved in
      omega (arith, c.1)

  resolved_at : (p : ℕ) → p < length (x.queue).stored → (s : Option (List ℕ × List ℕ)) × (get_or (x.queue).stored p None ≡ Some s)
  resolved_at p l = go (get_or (x.queue).stored p (Some None)) refl
    where
      go : (o : Option (Option (List ℕ × List ℕ))) → get_or (x.queue).stored p (Some None) ≡ o → (s : Option (List ℕ × List ℕ)) × (get_or (x.queue).stored p None ≡ Some s)
      go None e = absurd (none_waits p (rw e refl))
      go (Some s) e = (s, get_or_default (x.queue).stored p None (Some None) l ∙ e)

  -- what a place has is the remainder of its job
  pub record IsResolvedAt (p : ℕ) (j : Job) : Type 0 where
    pub opened : IsOpened (x.version).instance (x.version).number (get_or (x.queue).jobs p j)
    pub remainder : IsRemainder (x.version).instance (version_list (x.version).instance (x.version).number) (get_or (x.queue).jobs p j) (get_or (left_in (x.queue).stored) p None)
    pub small : job_grade_of (x.version).instance (version_list (x.version).instance (x.version).number) (get_or (x.queue).jobs p j) ≤ GRADE_LIMIT

  left_at : (p : ℕ) (j : Job) → p < length (x.queue).jobs → IsResolvedAt p j
  left_at p j l =
      let m : p < length (x.queue).stored = subst (λ (n : ℕ). p < n) (sym q.slots) l in
      let s = resolved_at p m in
      let kept = h.held p (get_or (x.queue).jobs p j) s.0 (slice_get-get_or (x.queue).jobs p j l) s.1 in
      let is : get_or (left_in (x.queue).stored) p None ≡ s.0 =
      get_or-map (λ (o : Option (Option (List ℕ × List ℕ))). unwrap_or o None) (x.queue).stored p None None m ∙ ap (λ (o : Option (Option (List ℕ × List ℕ))). unwrap_or o None) s.1 in
      record {
        opened = job_opened (x.version).instance (x.version).number (get_or (x.queue).jobs p j)
            (subst (λ (js : List Job). Contains js (get_or (x.queue).jobs p j)) h.jobs (p, l, get_or_default (x.queue).jobs p (get_or (x.queue).jobs p j) j l));
        remainder = subst (IsRemainder (x.version).instance (version_list (x.version).instance (x.version).number) (get_or (x.queue).jobs p j)) (sym is) kept.0;
        small = kept.1;
      }

  stored_remainders : AreRemainders (x.version).instance (version_list (x.version).instance (x.version).number) (opened_jobs (x.version).instance (x.version).number) (left_in (x.queue).stored)
  stored_remainders = record {
    count = length-map (x.queue).stored (λ (o : Option (Option (List ℕ × List ℕ))). unwrap_or o None) ∙ q.slots ∙ ap length h.jobs;
    each = λ p j l.
        let m : p < length (x.queue).jobs = subst (λ (js : List Job). p < length js) (sym h.jobs) l in
        subst (λ (js : List Job). IsRemainder (x.version).instance (version_list (x.version).instance (x.version).number) (get_or js p j) (get_or (left_in (x.queue).stored) p None)) h.jobs
        (left_at p j m).remainder;
  }

  are_moves : AreMoves (x.version).instance (version_list (x.version).instance (x.version).number)
  are_moves =
      test_list_moves (x.version).instance (last_opened (x.version).instance (x.version).number) (version_list (x.version).instance (x.version).number)
      (is_list_of (x.version).instance (h.edition).instance (x.version).number (last_opened (x.version).instance (x.version).number) (h.edition).version
      (let e : last_opened (x.version).instance (x.version).number ≤ last_opened (x.version).instance (x.version).number = omega arith in e)
      (covers_opened (x.version).instance (x.version).number (h.edition).version))

  pub small_points : All (IsSmallPoint (x.version).instance) (points_of (left_in (x.queue).stored))
  small_points =
      all_points (x.version).instance (left_in (x.queue).stored) (λ p o l.
      let m : p < length (x.queue).jobs = omega (arith, q.slots, length-map (x.queue).stored (λ (o : Option (Option (List ℕ × List ℕ))). unwrap_or o None)) in
      let a : IsResolvedAt p (Generator 0) = left_at p (Generator 0) m in
      subst (AreSmall (x.version).instance) (get_or_default (left_in (x.queue).stored) p None o l)
      (remainder_small (x.version).instance (h.edition).instance (version_list (x.version).instance (x.version).number) are_moves
      (get_or (x.queue).jobs p (Generator 0)) (a.opened).job a.small (get_or (left_in (x.queue).stored) p None) a.remainder))

  -- the grade has a job, whose remainder was stored, and so is within the grade of a walk
  pub grade_within : d ≤ GRADE_LIMIT
  grade_within =
      let some : 1 ≤ length (opened_jobs (x.version).instance (x.version).number) =
      subst (λ (js : List Job). 1 ≤ length js) (sym (opened_is (x.version).instance (x.version).number d (r.ready).opened))
      (opened_has_job (x.version).instance (x.version).number d (h.edition).version (r.ready).opened) in
      let here : 0 < length (x.queue).jobs = omega (arith, ap length h.jobs, some) in
      let a : IsResolvedAt 0 (Generator 0) = left_at 0 (Generator 0) here in
      let same : d ≡ (a.opened).grade = same_Some d (a.opened).grade (sym (r.ready).opened ∙ (a.opened).opened) in
      omega (arith, a.small, (a.opened).same)

  pub next_version_is : IsVersion (x.version).instance (suc (x.version).number)
  next_version_is = (r.level, r.same)

  pub next_moves : (new : List Binomial) → ((m : Binomial) → Contains new m ↔ IsGroupMove (x.version).instance (points_of (left_in (x.queue).stored)) m) →
      AllPairs (λ m n. ComesBefore (x.version).instance m.head n.head) new →
      version_list (x.version).instance (x.version).number ++ new ≡ version_list (x.version).instance (suc (x.version).number)
  next_moves new exact ordered =
      next_list_is (x.version).instance (h.edition).instance (x.version).number next_version_is (left_in (x.queue).stored) stored_remainders new exact ordered

  pub next_length : (new : List Binomial) → version_list (x.version).instance (x.version).number ++ new ≡ version_list (x.version).instance (suc (x.version).number) →
      length (test_list (x.version).instance d) ≡ length (version_list (x.version).instance (x.version).number) + length new
  next_length new e =
      ap (λ (g : ℕ). length (test_list (x.version).instance g)) (sym r.above) ∙ ap length (sym (list_next (x.version).instance (x.version).number r.level r.same)) ∙
      ap length (sym e) ∙ length-append (version_list (x.version).instance (x.version).number) new

  -- ---- the mark

  pub marked_kept : (by : ℕ) (g : LogSeen) → g.entries ≡ (x.log).entries ++ entry_by (book_in x) by (MarkedFull d) ∷ [] → g.passes ≡ (x.log).passes →
      x.limit < length (test_list (x.version).instance d) →
      IsBook (inside_of x.version x.limit true x.levels x.jobs x.queue g) ×
      Steps (book_in x) marks_full (entry_by (book_in x) by (MarkedFull d) ∷ []) (book_in (inside_of x.version x.limit true x.levels x.jobs x.queue g))
  marked_kept by g written passes more =
      let y : Insides = inside_of x.version x.limit true x.levels x.jobs x.queue g in
      let step : CompletionStep (x.version).instance x.limit (state_in x) marks_full (state_in y) =
      (d, r.ready, more, ap (λ (js : List Job). state_with (x.version).number js true) (r.ready).resolved) in
      let acts : MarkedFull d ∷ [] ≡ acts_of (x.version).instance (x.version).number (marks_full ∷ []) = rw (r.ready).opened refl in (
        record {
          edition = h.edition;
          opened = h.opened;
          limit = h.limit;
          levels = h.levels;
          buckets = h.buckets;
          jobs = h.jobs;
          held = h.held;
          replay = subst (λ (es : List Entry). IsReplay (x.version).instance x.limit es (state_in y)) (sym written)
              (journal_grows (x.version).instance x.limit (x.log).entries (state_in x) h.replay marks_full (state_in y) step (entry_by (book_in x) by (MarkedFull d) ∷ []) acts);
          room = λ e o u. absurd (true≢false u);
        },
        record { step = step; kept = ap₂ (seen_with (x.version).instance x.limit (state_in y)) passes written },
      )

  -- ---- the next version

  pub published_kept : (by : ℕ) (new : List Binomial) → version_list (x.version).instance (x.version).number ++ new ≡ version_list (x.version).instance (suc (x.version).number) →
      length (version_list (x.version).instance (x.version).number) + length new ≤ x.limit →
      (v : Edition) → v ≡ record { instance = (x.version).instance; number = suc (x.version).number } → IsEdition v →
      (levels : List Finished) (f : Finished) → levels ≡ x.levels ++ f ∷ [] → level_seen f ≡ level_of v.instance v.number →
      (js : List GradedJob) → AreJobsOf (x.version).instance (version_list (x.version).instance (suc (x.version).number)) js →
      (p : QueueSeen) → p ≡ fresh (opened_jobs (x.version).instance (suc (x.version).number)) →
      (g : LogSeen) → g.entries ≡ (x.log).entries ++ entry_by (book_in x) by (ActPublished (suc (x.version).number)) ∷ [] → g.passes ≡ (x.log).passes →
      length (x.log).entries + (length p.jobs + 2) ≤ g.room →
      IsBook (inside_of v x.limit x.full levels js p g) ×
      Steps (book_in x) publishes (entry_by (book_in x) by (ActPublished (suc (x.version).number)) ∷ []) (book_in (inside_of v x.limit x.full levels js p g))
  published_kept by new list most v is edition levels f longer level js are p queue g written passes room =
      let i : Problem = (x.version).instance in
      let k : ℕ = (x.version).number in
      let y : Insides = inside_of v x.limit x.full levels js p g in
      let few : length (test_list i d) ≤ x.limit = omega (arith, next_length new list, most) in
      let opened : last_opened v.instance v.number ≡ d = ap (λ (w : Edition). last_opened w.instance w.number) is ∙ last_opened_next i k r.level r.same ∙ r.above in
      let reached : level_seen f ≡ level_of i (suc k) = level ∙ ap (λ (w : Edition). level_of w.instance w.number) is in
      let so_far : map level_seen levels ≡ map (level_of i) (up_to (suc k)) =
      ap (map level_seen) longer ∙ map-append level_seen x.levels (f ∷ []) ∙ ap₂ (λ (ls : List Level) (l : Level). ls ++ l ∷ []) h.levels reached ∙
      sym (map-append (level_of i) (up_to k) (suc k ∷ [])) in
      let own : p ≡ fresh (opened_jobs v.instance v.number) = queue ∙ ap (λ (w : Edition). fresh (opened_jobs w.instance w.number)) (sym is) in
      let jobs : length p.jobs ≡ length (opened_jobs v.instance v.number) = ap (λ (u : QueueSeen). length u.jobs) own in
      let entries : length g.entries ≡ length (x.log).entries + 1 =
      ap length written ∙ length_push (x.log).entries (entry_by (book_in x) by (ActPublished (suc k))) in
      let replay : IsReplay i x.limit g.entries (just_opened i (suc k)) =
      subst (λ (es : List Entry). IsReplay i x.limit es (just_opened i (suc k))) (sym written)
      (journal_grows i x.limit (x.log).entries (state_in x) h.replay publishes (just_opened i (suc k)) (d, r.ready, few, refl) (entry_by (book_in x) by (ActPublished (suc k)) ∷ []) refl) in
      let state : state_in y ≡ just_opened i (suc k) = fresh_state y own (r.ready).unmarked ∙ ap (λ (w : Edition). just_opened w.instance w.number) is in (
        fresh_book y edition (omega (arith, opened, grade_within)) h.limit
            (subst (λ (w : Edition). AreLevels w.instance w.number (map level_seen levels)) (sym is) so_far)
            (subst (λ (w : Edition). AreJobsOf w.instance (version_list w.instance w.number) js) (sym is) are)
            own (r.ready).unmarked (subst (λ (w : Edition). IsReplay w.instance x.limit g.entries (just_opened w.instance w.number)) (sym is) replay)
            (omega (arith, room, jobs, entries)),
        record {
          step = (d, r.ready, few, state);
          kept = ap (λ (w : Edition). seen_with w.instance x.limit (state_in y) g.passes g.entries) is ∙ ap₂ (seen_with i x.limit (state_in y)) passes written;
        },
      )

-- more room, and the jobs in another order, change nothing
pub roomier : (x : Insides) → IsBook x → (levels : List Finished) → levels ≡ x.levels → (js : List GradedJob) → IsPermutation x.jobs js →
    (g : LogSeen) → g.entries ≡ (x.log).entries → (x.log).room ≤ g.room → IsBook (inside_of x.version x.limit x.full levels js x.queue g)
roomier x h levels same js turned g written room = record {
  edition = h.edition;
  opened = h.opened;
  limit = h.limit;
  levels = subst (λ (ls : List Finished). AreLevels (x.version).instance (x.version).number (map level_seen ls)) (sym same) h.levels;
  buckets = IsPermutation-trans (graded_jobs (x.version).instance (version_list (x.version).instance (x.version).number)) x.jobs js h.buckets turned;
  jobs = h.jobs;
  held = h.held;
  replay = subst (λ (es : List Entry). IsReplay (x.version).instance x.limit es (state_in x)) (sym written) h.replay;
  room = λ d o u. let most : length (x.log).entries + length (waiting_jobs x.queue) + 1 ≤ (x.log).room = h.room d o u in omega (arith, ap length written);
}

-- the jobs of the next list, once its new pairs are taken in
pub taken_in : (i : Problem) (ms : List Binomial) (js more ks all : List GradedJob) → AreJobsOf i ms (js ++ more) → IsPermutation js ks → IsPermutation (ks ++ more) all → AreJobsOf i ms all
taken_in i ms js more ks all are turned absorbed =
    IsPermutation-trans (graded_jobs i ms) (js ++ more) all are
    (IsPermutation-trans (js ++ more) (ks ++ more) all (IsPermutation-append js ks more more turned (IsPermutation-refl more)) absorbed)

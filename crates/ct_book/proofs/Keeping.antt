-- What a book keeps, over each step.
use Rattle.std.proofs.Common.{◌≡◌, ℕ, ◌+◌, ◌-◌, ◌≤◌, ◌<◌, Bool, true, false, true≢false, Option, Some, None, List, [], ◌∷◌, ◌++◌, length, map, get_or, set, Contains, ◌↔◌, ◌⊎◌, append-nil, ⊎_elim, sym, ap, ap₂, subst, subst₂, ◌∙◌, refl, arith, zero, suc}
use Rattle.std.specs.Prelude.{slice_get}
use Rattle.std.proofs.lemmas.Bool.{cases_eq}
use Rattle.std.proofs.lemmas.Grind.{get_or-set_at}
use Rattle.std.proofs.lemmas.List.{get_or_default, length_push, length-map, get_or-set_other, map-append}
use Rattle.std.proofs.lemmas.Option.{get_or_from_slice_get, same_Some}
use Rattle.ct_instance.proofs.Lists.{map_gives}
use Rattle.ct_vectors.specs.declared.limits.TheConstants.{GRADE_LIMIT}
use Rattle.ct_instance.specs.declared.jobs.Job.{Job}
use Rattle.ct_instance.specs.declared.jobs.Job.TheVariants.{Generator}
use Rattle.ct_instance.specs.Instance.{Problem}
use Rattle.ct_instance.specs.Jobs.{job_grade_of}
use Rattle.ct_instance.specs.Versions.{upto, level_of, version_list, IsRemainder, Covers, IsFullGrade}
use Rattle.ct_instance.specs.Reach.{grade_after, opened_grade, first_level_from}
use Rattle.ct_completion.specs.declared.journals.Act.TheVariants.{Stored as ActStored}
use Rattle.ct_completion.specs.declared.journals.Entry.{Entry}
use Rattle.ct_completion.specs.Machine.{CompletionState, CompletionStep, IsResolved, hands_out, stores, already, opened_jobs}
use Rattle.ct_completion.specs.Journal.{IsReplay}
use Rattle.ct_completion.specs.Laws.{IsReached}
use Rattle.ct_completion.proofs.Replay.{journal_grows, replay_reached}
use Rattle.ct_jobs.specs.declared.graded.GradedJob.{GradedJob}
use Rattle.ct_handing.proofs.Short.{IsShortOf}
use Rattle.ct_version.specs.declared.finished.Finished.{Finished}
use Rattle.ct_version.specs.Editions.{Edition, level_seen}
use Rattle.std.specs.Arc.{arc_value}
use Rattle.ct_levels.proofs.Full.{full_some, no_full_within}
use Rattle.ct_version.specs.declared.pins.Helped.{Helped}
use Rattle.ct_version.specs.declared.pins.FullMark.{FullMark}
use Rattle.ct_version.specs.Desks.{IsOfPlace, IsHelp, IsFullMark}
use Rattle.ct_book.specs.Logs.{LogSeen}
use Rattle.ct_book.specs.Queues.{QueueSeen, IsQueue, waits_at, waiting_jobs, without}
use Rattle.ct_book.specs.Tasks.{RemainderSeen, IsTask, IsHeld}
use Rattle.ct_book.specs.Books.{BookSeen, place_of, IsReadyBook, Steps, entry_by}
use Rattle.ct_book.specs.Insides.{Insides, state_in, book_in, AreHeld, IsBook}
use Rattle.ct_book.proofs.Queues.{waiting_within, IsSplit, split_at, length-without}
use Rattle.ct_book.proofs.OpenedJobs.{IsOpened, job_opened, one_place}

-- what a book has, part by part
abbrev pub inside_of : Edition → ℕ → Bool → List Finished → List GradedJob → QueueSeen → LogSeen → Insides
inside_of v l f ls js q g = record { version = v; limit = l; full = f; levels = ls; jobs = js; queue = q; log = g }

-- the version of a book is of its place
pub of_place : (x : Insides) → IsBook x → IsOfPlace (place_of (book_in x)) x.version
of_place x h =
    let r : IsReached (x.version).instance x.limit (state_in x) = replay_reached (x.version).instance (h.edition).instance x.limit (x.log).entries (state_in x) h.replay in
    record { instance = refl; version = r.version; most = r.most }

-- no job waits where the queue is empty
empty_order : (q : QueueSeen) → length q.order ≡ 0 → waiting_jobs q ≡ []
empty_order q e = none q.order e
  where
    none : (o : List ℕ) → length o ≡ 0 → map (λ p. get_or q.jobs p (Generator 0)) o ≡ []
    none [] e = refl
    none (p ∷ o) e = absurd (omega arith)

order_empty : (q : QueueSeen) → waiting_jobs q ≡ [] → length q.order ≡ 0
order_empty q e = none q.order e
  where
    none : (o : List ℕ) → map (λ p. get_or q.jobs p (Generator 0)) o ≡ [] → length o ≡ 0
    none [] e = refl
    none (p ∷ o) e = let l : suc (length (map (λ p. get_or q.jobs p (Generator 0)) o)) ≡ 0 = ap length e in omega arith

pub ready_iff : (x : Insides) (l n : ℕ) → level_of (x.version).instance (x.version).number ≡ upto l → x.full ≡ false → n ≡ length (x.queue).order →
    (n ≡ 0) ↔ IsReadyBook (book_in x)
ready_iff x l n level unmarked left = (
  λ e. (l + 1, record { opened = rw level refl; resolved = empty_order x.queue (sym left ∙ e); unmarked = unmarked }),
  λ r. left ∙ order_empty x.queue (r.1).resolved,
)

-- ---- a remainder that comes

-- a remainder of the book's own version
pub record IsOwn (x : Insides) (r : RemainderSeen) : Type 0 where
  pub version : r.version ≡ x.version
  pub at : slice_get (x.queue).jobs r.place ≡ Some r.job
  pub within : r.place < length (x.queue).jobs

at_within : {X : Type 0} (xs : List X) (p : ℕ) (y : X) → slice_get xs p ≡ Some y → p < length xs
at_within [] p y e = absurd (cc)
at_within (x ∷ xs) zero y e = omega arith
at_within (x ∷ xs) (suc p) y e = let rest : p < length xs = at_within xs p y e in omega arith

pub own : (x : Insides) → IsBook x → (r : RemainderSeen) → IsHeld r → (r.version).instance ≡ (x.version).instance → (r.version).number ≡ (x.version).number → IsOwn x r
own x h r held i k =
    let same : r.version ≡ x.version = ap₂ (λ (j : Problem) (n : ℕ). edition j n) i k in
    let listed : slice_get (opened_jobs (x.version).instance (x.version).number) r.place ≡ Some r.job =
    subst (λ (v : Edition). slice_get (opened_jobs v.instance v.number) r.place ≡ Some r.job) same (held.task).at in
    let at : slice_get (x.queue).jobs r.place ≡ Some r.job = subst (λ (js : List Job). slice_get js r.place ≡ Some r.job) (sym h.jobs) listed in
    record { version = same; at = at; within = at_within (x.queue).jobs r.place r.job at }
  where
    edition : Problem → ℕ → Edition
    edition j n = record { instance = j; number = n }

abbrev job_at : Insides → ℕ → Job
job_at x p = get_or (x.queue).jobs p (Generator 0)

-- the job at a place is one of the opened grade
opened_at : (x : Insides) → IsBook x → (p : ℕ) → p < length (x.queue).jobs → Contains (opened_jobs (x.version).instance (x.version).number) (job_at x p)
opened_at x h p within =
    subst (λ (js : List Job). Contains js (job_at x p)) h.jobs
    (p, within, get_or_default (x.queue).jobs p (job_at x p) (Generator 0) within)

-- a job whose place doesn't wait is resolved
pub resolved_job : (x : Insides) → IsBook x → IsQueue x.queue → (r : RemainderSeen) → IsOwn x r → waits_at (x.queue).stored r.place ≡ false →
    IsResolved (x.version).instance (state_in x) r.job
resolved_job x h q r o done = record {
  job = subst (λ (js : List Job). Contains js r.job) h.jobs (r.place, o.within, get_or_from_slice_get (x.queue).jobs r.place r.job r.job o.at);
  done = λ c.
      let m = map_gives (λ (p : ℕ). job_at x p) (x.queue).order r.job c in
      let waiting : waits_at (x.queue).stored m.0 ≡ true = (q.waiting m.0).0 m.1 in
      let within : m.0 < length (x.queue).jobs = subst (λ (n : ℕ). m.0 < n) q.slots (waiting_within (x.queue).stored m.0 waiting) in
      let here : get_or (x.queue).jobs m.0 r.job ≡ r.job = get_or_default (x.queue).jobs m.0 r.job (Generator 0) within ∙ m.2 in
      let there : get_or (x.queue).jobs r.place r.job ≡ r.job = get_or_from_slice_get (x.queue).jobs r.place r.job r.job o.at in
      let same : m.0 ≡ r.place = one_place (x.version).instance (x.version).number m.0 r.place r.job
      (subst (λ (js : List Job). m.0 < length js) h.jobs within) (subst (λ (js : List Job). r.place < length js) h.jobs o.within)
      (subst (λ (js : List Job). get_or js m.0 r.job ≡ r.job) h.jobs here) (subst (λ (js : List Job). get_or js r.place r.job ≡ r.job) h.jobs there) in
      true≢false (sym waiting ∙ ap (waits_at (x.queue).stored) same ∙ done);
}

no_jobs : (x : Insides) → length (x.queue).order ≡ length (waiting_jobs x.queue)
no_jobs x = sym (length-map (x.queue).order (λ (p : ℕ). job_at x p))

-- where a job waits a grade is open, the book isn't marked, and there is room
pub unmarked_where : (x : Insides) → IsBook x → 1 ≤ length (x.queue).order → x.full ≡ false
unmarked_where x h some = go x.full refl
  where
    go : (b : Bool) → x.full ≡ b → x.full ≡ false
    go false e = e
    go true e =
        let r : IsReached (x.version).instance x.limit (state_in x) = replay_reached (x.version).instance (h.edition).instance x.limit (x.log).entries (state_in x) h.replay in
        let none : waiting_jobs x.queue ≡ [] = (r.marked e).0 in
        let zero_left : length (waiting_jobs x.queue) ≡ 0 = ap length none in
        absurd (omega (arith, no_jobs x))

pub room_left : (x : Insides) → IsBook x → IsQueue x.queue → (p : ℕ) → waits_at (x.queue).stored p ≡ true →
    length (x.log).entries + length (x.queue).order + 1 ≤ (x.log).room
room_left x h q p waiting =
    let within : p < length (x.queue).jobs = subst (λ (n : ℕ). p < n) q.slots (waiting_within (x.queue).stored p waiting) in
    let o : IsOpened (x.version).instance (x.version).number (job_at x p) = job_opened (x.version).instance (x.version).number (job_at x p) (opened_at x h p within) in
    let listed : Contains (x.queue).order p = (q.waiting p).1 waiting in
    let some : 1 ≤ length (x.queue).order = omega (arith, listed.1) in
    let most : length (x.log).entries + length (waiting_jobs x.queue) + 1 ≤ (x.log).room = h.room o.grade o.opened (unmarked_where x h some) in
    omega (arith, no_jobs x)

abbrev pub after_store : Insides → ℕ → ℕ → Job → Option (List ℕ × List ℕ) → Insides
after_store x by place j points = record x {
  queue = record x.queue { stored = set (x.queue).stored place (Some points); order = without place (x.queue).order };
  log = record x.log { entries = (x.log).entries ++ entry_by (book_in x) by (ActStored j) ∷ [] };
}

store_step : (x : Insides) → IsQueue x.queue → (r : RemainderSeen) → IsOwn x r → waits_at (x.queue).stored r.place ≡ true → (by : ℕ) →
    CompletionStep (x.version).instance x.limit (state_in x) (stores r.job) (state_in (after_store x by r.place r.job r.points))
store_step x q r o waiting by =
    let s : IsSplit r.place (x.queue).order = split_at r.place (x.queue).order q.once ((q.waiting r.place).1 waiting) in
    let f : ℕ → Job = λ p. job_at x p in
    let its : f r.place ≡ r.job = get_or_from_slice_get (x.queue).jobs r.place r.job (Generator 0) o.at in (
      map f s.before,
      map f s.after,
      ap (map f) s.whole ∙ map-append f s.before (r.place ∷ s.after) ∙ ap (λ (j : Job). map f s.before ++ j ∷ map f s.after) its,
      ap (λ (js : List Job). state_with (x.version).number js x.full) (ap (map f) s.rest ∙ map-append f s.before s.after),
    )
  where
    state_with : ℕ → List Job → Bool → CompletionState
    state_with n js b = record { number = n; queue = js; full = b }

stored_held : (x : Insides) → IsBook x → IsQueue x.queue → (r : RemainderSeen) → IsHeld r → IsOwn x r → (by : ℕ) → AreHeld x.version (after_store x by r.place r.job r.points).queue
stored_held x h q r held o by p j s at kept = ⊎_elim its other (cases_eq p r.place)
  where
    its : p ≡ r.place → IsRemainder (x.version).instance (version_list (x.version).instance (x.version).number) j s ×
        (job_grade_of (x.version).instance (version_list (x.version).instance (x.version).number) j ≤ GRADE_LIMIT)
    its e =
        let job : j ≡ r.job = same_Some j r.job (sym (subst (λ (n : ℕ). slice_get (x.queue).jobs n ≡ Some j) e at) ∙ o.at) in
        let within : r.place < length (x.queue).stored = subst (λ (n : ℕ). r.place < n) (sym q.slots) o.within in
        let points : s ≡ r.points = same_Some s r.points (sym kept ∙ get_or-set_at (x.queue).stored r.place p (Some r.points) None e within) in
        subst₂ (λ (k : Job) (t : Option (List ℕ × List ℕ)). IsRemainder (x.version).instance (version_list (x.version).instance (x.version).number) k t ×
        (job_grade_of (x.version).instance (version_list (x.version).instance (x.version).number) k ≤ GRADE_LIMIT)) (sym job) (sym points)
        (subst (λ (v : Edition). IsRemainder v.instance (version_list v.instance v.number) r.job r.points × (job_grade_of v.instance (version_list v.instance v.number) r.job ≤ GRADE_LIMIT))
        o.version (held.remainder, (held.task).grade))

    other : (p ≡ r.place → ⊥) → IsRemainder (x.version).instance (version_list (x.version).instance (x.version).number) j s ×
        (job_grade_of (x.version).instance (version_list (x.version).instance (x.version).number) j ≤ GRADE_LIMIT)
    other ne = h.held p j s at (sym (get_or-set_other (x.queue).stored r.place p (Some r.points) None ne) ∙ kept)

pub stored_kept : (x : Insides) → IsBook x → IsQueue x.queue → (r : RemainderSeen) → IsHeld r → IsOwn x r → waits_at (x.queue).stored r.place ≡ true → (by : ℕ) →
    IsBook (after_store x by r.place r.job r.points) ×
    Steps (book_in x) (stores r.job) (entry_by (book_in x) by (ActStored r.job) ∷ []) (book_in (after_store x by r.place r.job r.points))
stored_kept x h q r held o waiting by =
    let step = store_step x q r o waiting by in
    let fewer : length (without r.place (x.queue).order) + 1 ≡ length (x.queue).order = length-without r.place (x.queue).order q.once ((q.waiting r.place).1 waiting) in
    let room = room_left x h q r.place waiting in
    let longer : length ((x.log).entries ++ entry_by (book_in x) by (ActStored r.job) ∷ []) ≡ length (x.log).entries + 1 = length_push (x.log).entries (entry_by (book_in x) by (ActStored r.job)) in
    let left : length (map (λ (p : ℕ). job_at x p) (without r.place (x.queue).order)) ≡ length (without r.place (x.queue).order) =
    length-map (without r.place (x.queue).order) (λ (p : ℕ). job_at x p) in (
      record {
        edition = h.edition;
        opened = h.opened;
        limit = h.limit;
        levels = h.levels;
        buckets = h.buckets;
        jobs = h.jobs;
        held = stored_held x h q r held o by;
        replay = journal_grows (x.version).instance x.limit (x.log).entries (state_in x) h.replay (stores r.job) (state_in (after_store x by r.place r.job r.points)) step
            (entry_by (book_in x) by (ActStored r.job) ∷ []) refl;
        room = λ d opened unmarked. omega (arith, room, fewer, longer, left);
      },
      record { step = step; kept = refl },
    )

pub not_false : (b : Bool) → (b ≡ false → ⊥) → b ≡ true
not_false true h = refl
not_false false h = absurd (h refl)

-- nothing changes where a remainder isn't needed
pub already_steps : (x : Insides) (r : RemainderSeen) → ((r.version).number ≡ (x.version).number → ⊥) ⊎ IsResolved (x.version).instance (state_in x) r.job →
    Steps (book_in x) (already (r.version).number r.job) [] (book_in x)
already_steps x r why = record { step = (why, refl); kept = ap (λ (es : List Entry). with_journal es) (sym (append-nil (x.log).entries)) }
  where
    with_journal : List Entry → BookSeen
    with_journal es = record { instance = (x.version).instance; limit = x.limit; passes = (x.log).passes; state = state_in x; journal = es }

-- ---- handing out

pub opens_at_most : (v : Edition) (g d : ℕ) → IsShortOf v g → opened_grade v.instance v.number ≡ Some d → d ≤ g
opens_at_most v g d s e =
    let same : s.level + 1 ≡ d = same_Some (s.level + 1) d (sym (ap grade_after s.same) ∙ e) in
    omega (arith, s.below)

pub is_task : (x : Insides) → IsBook x → (g place : ℕ) (job : Job) → g ≤ GRADE_LIMIT → IsShortOf x.version g → slice_get (x.queue).jobs place ≡ Some job →
    IsTask (record { version = x.version; place = place; job = job })
is_task x h g place job most short at =
    let within : place < length (x.queue).jobs = at_within (x.queue).jobs place job at in
    let listed : Contains (opened_jobs (x.version).instance (x.version).number) job =
    subst (λ (js : List Job). Contains js job) h.jobs (place, within, get_or_from_slice_get (x.queue).jobs place job job at) in
    let o : IsOpened (x.version).instance (x.version).number job = job_opened (x.version).instance (x.version).number job listed in
    record {
      edition = h.edition;
      at = subst (λ (js : List Job). slice_get js place ≡ Some job) h.jobs at;
      job = o.job;
      grade = let d : o.grade ≤ g = opens_at_most x.version g o.grade short o.opened in omega (arith, o.same);
    }

abbrev pub after_turn : Insides → List ℕ → Insides
after_turn x order = record x { queue = record x.queue { order = order } }

pub handed_kept : (x : Insides) → IsBook x → (place : ℕ) (job : Job) (rest : List ℕ) → (x.queue).order ≡ place ∷ rest → slice_get (x.queue).jobs place ≡ Some job →
    IsBook (after_turn x (rest ++ place ∷ [])) × Steps (book_in x) (hands_out job) [] (book_in (after_turn x (rest ++ place ∷ [])))
handed_kept x h place job rest first at =
    let f : ℕ → Job = λ p. job_at x p in
    let its : f place ≡ job = get_or_from_slice_get (x.queue).jobs place job (Generator 0) at in
    let before : map f (x.queue).order ≡ job ∷ map f rest = ap (map f) first ∙ ap (λ (j : Job). j ∷ map f rest) its in
    let after : map f (rest ++ place ∷ []) ≡ map f rest ++ job ∷ [] = map-append f rest (place ∷ []) ∙ ap (λ (j : Job). map f rest ++ j ∷ []) its in
    let step : CompletionStep (x.version).instance x.limit (state_in x) (hands_out job) (state_in (after_turn x (rest ++ place ∷ []))) =
    (map f rest, before, ap (λ (js : List Job). state_with (x.version).number js x.full) after) in
    let same : length (map f (rest ++ place ∷ [])) ≡ length (map f (x.queue).order) =
    length-map (rest ++ place ∷ []) f ∙ length_push rest place ∙ (let e : length rest + 1 ≡ length (place ∷ rest) = omega arith in e) ∙ ap length (sym first) ∙ sym (length-map (x.queue).order f) in
    let written : (x.log).entries ++ [] ≡ (x.log).entries = append-nil (x.log).entries in (
      record {
        edition = h.edition;
        opened = h.opened;
        limit = h.limit;
        levels = h.levels;
        buckets = h.buckets;
        jobs = h.jobs;
        held = h.held;
        replay = subst (λ (es : List Entry). IsReplay (x.version).instance x.limit es (state_in (after_turn x (rest ++ place ∷ [])))) written
            (journal_grows (x.version).instance x.limit (x.log).entries (state_in x) h.replay (hands_out job) (state_in (after_turn x (rest ++ place ∷ []))) step [] refl);
        room = λ d opened unmarked. omega (arith, h.room d opened unmarked, same);
      },
      record { step = step; kept = ap (λ (es : List Entry). with_journal es) (sym written) },
    )
  where
    state_with : ℕ → List Job → Bool → CompletionState
    state_with n js b = record { number = n; queue = js; full = b }

    with_journal : List Entry → BookSeen
    with_journal es = record { instance = (x.version).instance; limit = x.limit; passes = (x.log).passes; state = state_in (after_turn x (rest ++ place ∷ [])); journal = es }

-- ---- handing on the version

pub reached_help : (x : Insides) → IsBook x → (g : ℕ) (p : Helped) → Covers (level_of (x.version).instance (x.version).number) g → arc_value p.version ≡ x.version →
    level_seen p.level ≡ first_level_from (x.version).instance g → IsHelp (place_of (book_in x)) g p
reached_help x h g p covers version level =
    let o : IsOfPlace (place_of (book_in x)) x.version = of_place x h in
    record {
      version = subst (IsOfPlace (place_of (book_in x))) (sym version) o;
      covers = subst (λ (v : Edition). Covers (level_of (x.version).instance v.number) g) (sym version) covers;
      level = level;
      open_to = no_full_within (x.version).instance (h.edition).instance x.limit (x.version).number g o.version o.most covers;
    }

pub full_mark : (x : Insides) → IsBook x → (g : ℕ) (m : FullMark) (d : ℕ) → IsShortOf x.version g → IsFullGrade (x.version).instance x.limit d →
    opened_grade (x.version).instance (x.version).number ≡ Some d → m.grade ≡ d → arc_value m.version ≡ x.version → IsFullMark (place_of (book_in x)) g m
full_mark x h g m d short full opened same version =
    let above : short.level + 1 ≡ d = same_Some (short.level + 1) d (sym (ap grade_after short.same) ∙ opened) in
    let most : d ≤ g = opens_at_most x.version g d short opened in
    record {
      version = subst (IsOfPlace (place_of (book_in x))) (sym version) (of_place x h);
      grade = (full_some (x.version).instance x.limit g d).1 (full, most) ∙ ap Some (sym same);
      finished = ap (λ (v : Edition). level_of (x.version).instance v.number) version ∙ short.same ∙ ap upto (let e : short.level ≡ m.grade - 1 = omega (arith, above, same) in e);
    }

pub marked_mark : (x : Insides) → IsBook x → (g : ℕ) (m : FullMark) → x.full ≡ true → IsShortOf x.version g →
    opened_grade (x.version).instance (x.version).number ≡ Some m.grade → arc_value m.version ≡ x.version → IsFullMark (place_of (book_in x)) g m
marked_mark x h g m marked short opened version =
    let r : IsReached (x.version).instance x.limit (state_in x) = replay_reached (x.version).instance (h.edition).instance x.limit (x.log).entries (state_in x) h.replay in
    let f = (r.marked marked).1 in
    full_mark x h g m f.0 short f.2 f.1 (same_Some m.grade f.0 (sym opened ∙ f.1)) version

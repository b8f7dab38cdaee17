-- Jobs that are handed out, reduced and taken in together.
use Rattle.std.proofs.Common.{◌≡◌, ℕ, ◌+◌, ◌<◌, false, List, [], ◌∷◌, ◌++◌, map, reverse, length, All, sym, ap, ap₂, subst, ◌∙◌, refl, arith, append_assoc, append-nil}
use Rattle.std.proofs.lemmas.List.{map-append, reverse-append, length_push, get_or_push, get_or_append_left}
use Rattle.std.proofs.lemmas.List.Elements.{All-push}
use Rattle.ct_instance.specs.declared.jobs.Job.{Job}
use Rattle.ct_instance.specs.Versions.{Covers, level_of}
use Rattle.ct_completion.specs.Machine.{CompletionState, hands_out}
use Rattle.ct_version.specs.Editions.{Edition}
use Rattle.ct_book.specs.declared.outcomes.Committed.{Committed}
use Rattle.ct_book.specs.declared.outcomes.Committed.TheVariants.{Stored, Already}
use Rattle.ct_book.specs.declared.tasks.PlacedJob.{PlacedJob}
use Rattle.ct_book.specs.declared.remainders.Left.{Left}
use Rattle.ct_book.specs.Tasks.{TaskSeen, RemainderSeen, IsTask, IsHeld, task_of, placed, left_at}
use Rattle.ct_book.specs.Books.{BookSeen, edition_of, IsCovered, IsHandedOut, IsCommitted, Steps, CountsRise, rise_of}
use Rattle.ct_book.specs.Batches.{AreHandedOut, AreCommitted}

-- ---- handing out

-- what handing out a job keeps: the version, the mark, and how many jobs wait
pub handed_keeps : (b c : BookSeen) (j : Job) → Steps b (hands_out j) [] c →
    (edition_of c ≡ edition_of b) × ((c.state).full ≡ (b.state).full) × (length (c.state).queue ≡ length (b.state).queue)
handed_keeps b c j s =
    let step = s.step in
    let queue : (c.state).queue ≡ step.0 ++ j ∷ [] = ap (λ (t : CompletionState). t.queue) step.2 in
    let long : length (step.0 ++ j ∷ []) ≡ length (j ∷ step.0) = length_push step.0 j ∙ (let e : length step.0 + 1 ≡ length (j ∷ step.0) = omega arith in e) in
    let instance : c.instance ≡ b.instance = ap (λ (x : BookSeen). x.instance) s.kept in
    let number : (c.state).number ≡ (b.state).number = ap (λ (t : CompletionState). t.number) step.2 in (
      (λ k. record { instance = instance k; number = number k }),
      ap (λ (t : CompletionState). t.full) step.2,
      ap length queue ∙ long ∙ ap length (sym step.1),
    )

-- the job that was handed out waits still
pub handed_waits : (b c : BookSeen) (j : Job) → Steps b (hands_out j) [] c → 0 < length (c.state).queue
handed_waits b c j s =
    let step = s.step in
    let queue : length (c.state).queue ≡ length (step.0 ++ j ∷ []) = ap (λ (t : CompletionState). length t.queue) step.2 in
    omega (arith, queue, length_push step.0 j)

-- a version that doesn't cover a grade, by another book of the same version
pub still_beyond : (b c : BookSeen) (g : ℕ) → edition_of c ≡ edition_of b → (IsCovered b g → ⊥) → IsCovered c g → ⊥
still_beyond b c g same beyond = subst (λ (e : Edition). Covers (level_of e.instance e.number) g → ⊥) (sym same) beyond

-- one job more is handed out
pub handed_more : (b m c : BookSeen) (g : ℕ) (ts : List TaskSeen) (t : TaskSeen) → AreHandedOut b g ts m → IsHandedOut m g t c → AreHandedOut b g (ts ++ t ∷ []) c
handed_more b m c g [] t h k = (c, subst (λ (x : BookSeen). IsHandedOut x g t c) h k, refl)
handed_more b m c g (u ∷ ts) t h k = (h.0, h.1, handed_more h.0 m c g ts t h.2 k)

-- handing out writes nothing down
pub handed_journal : (b c : BookSeen) (g : ℕ) (ts : List TaskSeen) → AreHandedOut b g ts c → c.journal ≡ b.journal
handed_journal b c g [] h = ap (λ (x : BookSeen). x.journal) h
handed_journal b c g (t ∷ ts) h =
    handed_journal h.0 c g ts h.2 ∙ ap (λ (x : BookSeen). x.journal) ((h.1).steps).kept ∙ append-nil b.journal

-- what holds after these jobs are handed out
pub record HasHandedOut (b : BookSeen) (ps : List PlacedJob) (c : BookSeen) : Type 0 where
  pub handed : (g : ℕ) → (IsCovered b g → ⊥) → (b.state).full ≡ false → AreHandedOut b g (map (placed (edition_of b)) ps) c
  pub tasks : All (λ (p : PlacedJob). IsTask (placed (edition_of b) p)) ps
  pub same : edition_of c ≡ edition_of b
  pub full : (c.state).full ≡ (b.state).full
  pub waits : length (c.state).queue ≡ length (b.state).queue

pub handing_starts : (b : BookSeen) → HasHandedOut b [] b
handing_starts b = record { handed = λ g beyond unmarked. refl; tasks = λ k d l. absurd (omega (arith, l)); same = refl; full = refl; waits = refl }

pub handing_more : (b m c : BookSeen) (ps : List PlacedJob) (p : PlacedJob) → HasHandedOut b ps m → IsTask (placed (edition_of m) p) → Steps m (hands_out p.job) [] c → HasHandedOut b (ps ++ p ∷ []) c
handing_more b m c ps p h task steps =
    let kept = handed_keeps m c p.job steps in
    record {
      handed = λ g beyond unmarked.
          subst (λ (ts : List TaskSeen). AreHandedOut b g ts c) (sym (map-append (placed (edition_of b)) ps (p ∷ [])))
          (handed_more b m c g (map (placed (edition_of b)) ps) (placed (edition_of b) p) (h.handed g beyond unmarked)
          (record { beyond = still_beyond b m g h.same beyond; unmarked = h.full ∙ unmarked; version = sym h.same; steps = steps }));
      tasks = All-push (λ (q : PlacedJob). IsTask (placed (edition_of b) q)) ps p h.tasks (subst (λ (e : Edition). IsTask (placed e p)) h.same task);
      same = kept.0 ∙ h.same;
      full = kept.1 ∙ h.full;
      waits = kept.2 ∙ h.waits;
    }

-- jobs that are handed out beside a first one are against its version
pub beside_first : (b m c : BookSeen) (g : ℕ) (t : TaskSeen) (ps : List PlacedJob) → IsHandedOut b g t m →
    ((h : ℕ) → (IsCovered m h → ⊥) → (m.state).full ≡ false → AreHandedOut m h (map (placed (edition_of m)) ps) c) →
    AreHandedOut b g (t ∷ map (placed t.version) ps) c
beside_first b m c g t ps first others =
    let kept = handed_keeps b m t.job first.steps in
    let same : edition_of m ≡ t.version = kept.0 ∙ sym first.version in
    (m, first, subst (λ (e : Edition). AreHandedOut m g (map (placed e) ps) c) same (others g (still_beyond b m g kept.0 first.beyond) (kept.1 ∙ first.unmarked)))

pub tasks_beside : (b m : BookSeen) (g : ℕ) (t : TaskSeen) (ps : List PlacedJob) → IsHandedOut b g t m →
    All (λ (p : PlacedJob). IsTask (placed (edition_of m) p)) ps → All (λ (p : PlacedJob). IsTask (placed t.version p)) ps
tasks_beside b m g t ps first h =
    subst (λ (e : Edition). All (λ (p : PlacedJob). IsTask (placed e p)) ps) ((handed_keeps b m t.job first.steps).0 ∙ sym first.version) h

-- ---- taking in

-- what a commit keeps
pub committed_kept : (b : BookSeen) (by : ℕ) (r : RemainderSeen) (c : BookSeen) (done : Committed) → IsCommitted b by r c done →
    (c.instance ≡ b.instance) × (c.passes ≡ b.passes)
committed_kept b by r c (Stored place) h = (ap (λ (x : BookSeen). x.instance) (h.2).kept, ap (λ (x : BookSeen). x.passes) (h.2).kept)
committed_kept b by r c (Already number) h = (ap (λ (x : BookSeen). x.instance) h.1, ap (λ (x : BookSeen). x.passes) h.1)

-- ---- what is kept of a list of remainders from its end on

pub record HasCommitted (b : BookSeen) (by : ℕ) (all left : List RemainderSeen) (c : BookSeen) : Type 0 where
  pub taken : List RemainderSeen
  pub rise : ℕ
  pub parts : all ≡ left ++ taken
  pub committed : AreCommitted b by taken c rise
  pub counts : CountsRise by rise b c
  pub instance : c.instance ≡ b.instance
  pub passes : c.passes ≡ b.passes

pub commits_start : (b : BookSeen) (by : ℕ) (all : List RemainderSeen) → HasCommitted b by all all b
commits_start b by all = record {
  taken = [];
  rise = 0;
  parts = sym (append-nil all);
  committed = (refl, refl);
  counts = (omega arith, λ pass ne. refl);
  instance = refl;
  passes = refl;
}

pub commits_more : (b : BookSeen) (by : ℕ) (all left rest : List RemainderSeen) (m : BookSeen) (r : RemainderSeen) (done : Committed) (c : BookSeen) →
    HasCommitted b by all left m → left ≡ rest ++ r ∷ [] → IsCommitted m by r c done → CountsRise by (rise_of done) m c → HasCommitted b by all rest c
commits_more b by all left rest m r done c h e k n =
    let kept = committed_kept m by r c done k in
    record {
      taken = r ∷ h.taken;
      rise = h.rise + rise_of done;
      parts = h.parts ∙ ap (λ (l : List RemainderSeen). l ++ h.taken) e ∙ append_assoc rest (r ∷ []) h.taken;
      committed = (m, h.rise, h.committed, (done, k, refl));
      counts = (omega (arith, n.0, h.counts.0), λ pass ne. n.1 pass ne ∙ h.counts.1 pass ne);
      instance = kept.0 ∙ h.instance;
      passes = kept.1 ∙ h.passes;
    }

pub commits_end : (b : BookSeen) (by : ℕ) (all left : List RemainderSeen) (c : BookSeen) → HasCommitted b by all left c → left ≡ [] →
    (rise : ℕ) × AreCommitted b by all c rise × CountsRise by rise b c
commits_end b by all left c h e =
    let same : all ≡ h.taken = h.parts ∙ ap (λ (l : List RemainderSeen). l ++ h.taken) e in
    (h.rise, subst (λ (rs : List RemainderSeen). AreCommitted b by rs c h.rise) (sym same) h.committed, h.counts)

-- ---- reducing from the last job to the first

pub all_before : {X : Type 0} (P : X → Type 0) (xs : List X) (x : X) → All P (xs ++ x ∷ []) → All P xs
all_before P xs x h k d l = subst P (get_or_append_left xs (x ∷ []) d k l) (h k d (omega (arith, l, length_push xs x)))

pub all_last : {X : Type 0} (P : X → Type 0) (xs : List X) (x : X) → All P (xs ++ x ∷ []) → P x
all_last P xs x h = subst P (get_or_push xs x x (length xs) refl) (h (length xs) x (omega (arith, length_push xs x)))

-- these jobs are left, and the others are reduced
pub record HasReduced (v : Edition) (all left : List PlacedJob) (ls : List Left) : Type 0 where
  pub taken : List PlacedJob
  pub parts : all ≡ left ++ taken
  pub waiting : All (λ (p : PlacedJob). IsTask (placed v p)) left
  pub held : All (λ (l : Left). IsHeld (left_at v l)) ls
  pub reduced : map task_of (map (left_at v) ls) ≡ reverse (map (placed v) taken)

left_more : (v : Edition) (ls : List Left) (l : Left) (p : PlacedJob) (ts : List TaskSeen) → map task_of (map (left_at v) ls) ≡ reverse ts → task_of (left_at v l) ≡ placed v p →
    map task_of (map (left_at v) (ls ++ l ∷ [])) ≡ reverse (placed v p ∷ ts)
left_more v ls l p ts h e =
    ap (map task_of) (map-append (left_at v) ls (l ∷ [])) ∙ map-append task_of (map (left_at v) ls) (left_at v l ∷ []) ∙
    ap₂ (λ (xs : List TaskSeen) (t : TaskSeen). xs ++ t ∷ []) h e ∙ sym (reverse-append (placed v p ∷ []) ts)

pub reduces_more : (v : Edition) (all left rest : List PlacedJob) (p : PlacedJob) (ls more : List Left) (l : Left) → HasReduced v all left ls → left ≡ rest ++ p ∷ [] →
    more ≡ ls ++ l ∷ [] → IsHeld (left_at v l) → task_of (left_at v l) ≡ placed v p → HasReduced v all rest more
reduces_more v all left rest p ls more l h e m held same =
    let waiting : All (λ (q : PlacedJob). IsTask (placed v q)) (rest ++ p ∷ []) = subst (All (λ (q : PlacedJob). IsTask (placed v q))) e h.waiting in
    subst (HasReduced v all rest) (sym m)
    (record {
      taken = p ∷ h.taken;
      parts = h.parts ∙ ap (λ (x : List PlacedJob). x ++ h.taken) e ∙ append_assoc rest (p ∷ []) h.taken;
      waiting = all_before (λ (q : PlacedJob). IsTask (placed v q)) rest p waiting;
      held = All-push (λ (x : Left). IsHeld (left_at v x)) ls l h.held held;
      reduced = left_more v ls l p (map (placed v) h.taken) h.reduced same;
    })

pub reduces_end : (v : Edition) (all left : List PlacedJob) (first : PlacedJob) (ls more : List Left) (l : Left) → HasReduced v all left ls → left ≡ [] → more ≡ ls ++ l ∷ [] →
    task_of (left_at v l) ≡ placed v first → map task_of (map (left_at v) more) ≡ reverse (placed v first ∷ map (placed v) all)
reduces_end v all left first ls more l h e m same =
    let whole : all ≡ h.taken = h.parts ∙ ap (λ (x : List PlacedJob). x ++ h.taken) e in
    ap (λ (x : List Left). map task_of (map (left_at v) x)) m ∙ left_more v ls l first (map (placed v) h.taken) h.reduced same ∙
    ap (λ (x : List PlacedJob). reverse (placed v first ∷ map (placed v) x)) (sym whole)

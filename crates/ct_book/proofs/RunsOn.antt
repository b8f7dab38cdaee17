-- Runs of a book, step by step.
use Rattle.std.proofs.Common.{◌≡◌, ℕ, ◌+◌, ◌≤◌, ◌<◌, List, [], ◌∷◌, ◌++◌, length, map, count_by, Contains, ⊎_elim, sym, ap, ap₂, subst, subst₂, ◌∙◌, refl, arith, append-nil, append_assoc, suc}
use Rattle.std.proofs.lemmas.Bool.{cases_lt}
use Rattle.std.proofs.lemmas.List.{map-append, length_push, length-append}
use Rattle.std.proofs.lemmas.List.Elements.{Contains-push}
use Rattle.ct_instance.specs.declared.jobs.Job.{Job}
use Rattle.ct_instance.specs.Instance.{Problem}
use Rattle.ct_instance.specs.Versions.{Covers, level_of}
use Rattle.ct_levels.proofs.Levels.{Covers-le, covers_number, levels_rise}
use Rattle.ct_completion.specs.declared.journals.Act.{Act}
use Rattle.ct_completion.specs.declared.journals.Act.TheVariants.{Published as ActPublished, MarkedFull}
use Rattle.ct_completion.specs.declared.journals.Entry.{Entry}
use Rattle.ct_completion.specs.Machine.{CompletionState, CompletionEvent, CompletionStep, CompletionRun, starts, goes_on, stores, publishes, marks_full}
use Rattle.ct_completion.specs.Journal.{acts_of, is_publishing}
use Rattle.ct_completion.proofs.Replay.{acts_push, run_number}
use Rattle.ct_version.specs.declared.pins.Helped.{Helped}
use Rattle.ct_version.specs.declared.pins.FullMark.{FullMark}
use Rattle.ct_version.specs.Editions.{Edition, IsEdition}
use Rattle.ct_version.specs.Desks.{Place, IsOfPlace, IsHelp, IsFullMark}
use Rattle.ct_book.specs.declared.outcomes.Published.TheVariants.{Full}
use Rattle.ct_book.specs.Tasks.{TaskSeen}
use Rattle.ct_book.specs.Books.{BookSeen, edition_of, place_of, IsCovered, Steps, Runs, IsReached, IsMarked, IsHandedOut, IsPublished, IsCompleted, IsStopped, entry_by}
use Rattle.ct_book.proofs.StepAnswers.{published_mark}

abbrev seen : Problem → ℕ → ℕ → CompletionState → List Entry → BookSeen
seen i limit passes s es = record { instance = i; limit = limit; passes = passes; state = s; journal = es }

pub run_none : (b : BookSeen) → Runs b b
run_none b = record {
  events = [];
  more = [];
  run = starts;
  acts = refl;
  kept = ap (seen b.instance b.limit b.passes b.state) (sym (append-nil b.journal));
}

pub run_more : (b c d : BookSeen) (event : CompletionEvent) (more : List Entry) → Runs b c → Steps c event more d →
    map (λ e. e.act) more ≡ acts_of c.instance (c.state).number (event ∷ []) → Runs b d
run_more b c d event more r s acts =
    let instance : c.instance ≡ b.instance = ap (λ (x : BookSeen). x.instance) r.kept in
    let limit : c.limit ≡ b.limit = ap (λ (x : BookSeen). x.limit) r.kept in
    let number : (c.state).number ≡ (b.state).number + count_by is_publishing r.events = run_number b.instance b.limit b.state r.events c.state r.run in
    let written : map (λ (e : Entry). e.act) more ≡ acts_of b.instance ((b.state).number + count_by is_publishing r.events) (event ∷ []) =
    acts ∙ ap₂ (λ (i : Problem) (k : ℕ). acts_of i k (event ∷ [])) instance number in
    record {
      events = r.events ++ event ∷ [];
      more = r.more ++ more;
      run = goes_on r.events c.state event d.state r.run (subst₂ (λ (i : Problem) (l : ℕ). CompletionStep i l c.state event d.state) instance limit s.step);
      acts = map-append (λ (e : Entry). e.act) r.more more ∙ ap₂ ◌++◌ r.acts written ∙ sym (acts_push b.instance (b.state).number r.events event);
      kept = s.kept ∙ ap (λ (x : BookSeen). seen x.instance x.limit x.passes d.state (x.journal ++ more)) r.kept ∙
          ap (seen b.instance b.limit b.passes d.state) (append_assoc b.journal r.more more);
    }

-- ---- one job

-- what handing out leaves: the job stands last in the queue
pub record IsTurned (b : BookSeen) (t : TaskSeen) (c : BookSeen) : Type 0 where
  pub version : t.version ≡ edition_of c
  pub listed : Contains (c.state).queue t.job
  pub length : length (c.state).queue ≡ length (b.state).queue
  pub number : (c.state).number ≡ (b.state).number

pub turned : (b : BookSeen) (g : ℕ) (t : TaskSeen) (c : BookSeen) → IsHandedOut b g t c → IsTurned b t c
turned b g t c h =
    let step = (h.steps).step in
    let queue : (c.state).queue ≡ step.0 ++ t.job ∷ [] = ap (λ (s : CompletionState). s.queue) step.2 in
    let number : (c.state).number ≡ (b.state).number = ap (λ (s : CompletionState). s.number) step.2 in
    record {
      version = h.version ∙ ap₂ (λ (i : Problem) (k : ℕ). edition i k) (sym (ap (λ (x : BookSeen). x.instance) (h.steps).kept)) (sym number);
      listed = subst (λ (q : List Job). Contains q t.job) (sym queue) (Contains-push step.0 t.job);
      length = ap length queue ∙ length_push step.0 t.job ∙ (let e : length step.0 + 1 ≡ length (t.job ∷ step.0) = omega arith in e) ∙ ap length (sym step.1);
      number = number;
    }
  where
    edition : Problem → ℕ → Edition
    edition i k = record { instance = i; number = k }

-- storing makes the queue shorter by one job
pub stored_shorter : (b : BookSeen) (j : Job) (more : List Entry) (c : BookSeen) → Steps b (stores j) more c →
    (length (c.state).queue + 1 ≡ length (b.state).queue) × ((c.state).number ≡ (b.state).number)
stored_shorter b j more c s =
    let step = s.step in
    let queue : (c.state).queue ≡ step.0 ++ step.1 = ap (λ (t : CompletionState). t.queue) step.3 in
    let before : length (b.state).queue ≡ length step.0 + length (j ∷ step.1) = ap length step.2 ∙ length-append step.0 (j ∷ step.1) in
    let after : length (c.state).queue ≡ length step.0 + length step.1 = ap length queue ∙ length-append step.0 step.1 in
    (omega (arith, before, after), ap (λ (t : CompletionState). t.number) step.3)

-- ---- covering

-- a version that doesn't cover g has a smaller number
pub number_below : (b : BookSeen) (g : ℕ) → (IsCovered b g → ⊥) → (b.state).number < g
number_below b g beyond =
    ⊎_elim (λ l. l) (λ l. absurd (beyond (Covers-le (level_of b.instance (b.state).number) g (b.state).number l (covers_number b.instance (b.state).number))))
    (cases_lt (b.state).number g)

-- ---- runs one after another

runs_joined : (i : Problem) (l : ℕ) (s t : CompletionState) (es : List CompletionEvent) → CompletionRun i l s es t →
    (fs : List CompletionEvent) (u : CompletionState) → CompletionRun i l t fs u → CompletionRun i l s (es ++ fs) u
runs_joined i l s t es first fs u starts = subst (λ (events : List CompletionEvent). CompletionRun i l s events t) (sym (append-nil es)) first
runs_joined i l s t es first fs u (goes_on before v event w run step) =
    subst (λ (events : List CompletionEvent). CompletionRun i l s events w) (append_assoc es before (event ∷ []))
    (goes_on (es ++ before) v event w (runs_joined i l s t es first before v run) step)

acts_joined : (i : Problem) (l : ℕ) (s t : CompletionState) (es : List CompletionEvent) → CompletionRun i l s es t →
    (fs : List CompletionEvent) (u : CompletionState) → CompletionRun i l t fs u → acts_of i s.number (es ++ fs) ≡ acts_of i s.number es ++ acts_of i t.number fs
acts_joined i l s t es first fs u starts = ap (acts_of i s.number) (append-nil es) ∙ sym (append-nil (acts_of i s.number es))
acts_joined i l s t es first fs u (goes_on before v event w run step) =
    let whole : v.number ≡ s.number + count_by is_publishing (es ++ before) = run_number i l s (es ++ before) v (runs_joined i l s t es first before v run) in
    let part : v.number ≡ t.number + count_by is_publishing before = run_number i l t before v run in
    ap (acts_of i s.number) (sym (append_assoc es before (event ∷ []))) ∙ acts_push i s.number (es ++ before) event ∙
    ap₂ (λ (xs : List Act) (n : ℕ). xs ++ acts_of i n (event ∷ [])) (acts_joined i l s t es first before v run) (sym whole ∙ part) ∙
    append_assoc (acts_of i s.number es) (acts_of i t.number before) (acts_of i (t.number + count_by is_publishing before) (event ∷ [])) ∙
    ap (λ (xs : List Act). acts_of i s.number es ++ xs) (sym (acts_push i t.number before event))

pub run_join : (b c d : BookSeen) → Runs b c → Runs c d → Runs b d
run_join b c d r q =
    let instance : c.instance ≡ b.instance = ap (λ (x : BookSeen). x.instance) r.kept in
    let limit : c.limit ≡ b.limit = ap (λ (x : BookSeen). x.limit) r.kept in
    let on : CompletionRun b.instance b.limit c.state q.events d.state = subst₂ (λ (i : Problem) (l : ℕ). CompletionRun i l c.state q.events d.state) instance limit q.run in
    let written : map (λ (e : Entry). e.act) q.more ≡ acts_of b.instance (c.state).number q.events =
    q.acts ∙ ap (λ (i : Problem). acts_of i (c.state).number q.events) instance in
    record {
      events = r.events ++ q.events;
      more = r.more ++ q.more;
      run = runs_joined b.instance b.limit b.state c.state r.events r.run q.events d.state on;
      acts = map-append (λ (e : Entry). e.act) r.more q.more ∙ ap₂ ◌++◌ r.acts written ∙
          sym (acts_joined b.instance b.limit b.state c.state r.events r.run q.events d.state on);
      kept = q.kept ∙ ap (λ (x : BookSeen). seen x.instance x.limit x.passes d.state (x.journal ++ q.more)) r.kept ∙
          ap (seen b.instance b.limit b.passes d.state) (append_assoc b.journal r.more q.more);
    }

-- ---- completing, from the book at its start over the book before the last grade to the book at the end

-- what is kept as long as the work goes on
pub record IsUnderWay (b : BookSeen) (g : ℕ) (m : BookSeen) : Type 0 where
  pub runs : Runs b m
  pub unchanged : IsCovered b g → m ≡ b
  pub first : (j : ℕ) → (b.state).number ≤ j → j < (m.state).number → Covers (level_of b.instance j) g → ⊥

pub same_place : (b c : BookSeen) → Runs b c → place_of c ≡ place_of b
same_place b c r = ap (λ (x : BookSeen). place_of x) r.kept

pub completed : (b m c : BookSeen) (g : ℕ) (h : Helped) → IsUnderWay b g m → Runs m c → (c.state).number ≡ (m.state).number → (IsCovered m g → c ≡ m) →
    IsReached c g h → IsCompleted b g c h
completed b m c g h w r number still reached =
    let runs : Runs b c = run_join b m c w.runs r in
    let instance : c.instance ≡ b.instance = ap (λ (x : BookSeen). x.instance) runs.kept in
    record {
      runs = runs;
      help = subst (λ (p : Place). IsHelp p g h) (same_place b c runs) reached.help;
      version = reached.version;
      unchanged = λ covers. still (subst (λ (x : BookSeen). IsCovered x g) (sym (w.unchanged covers)) covers) ∙ w.unchanged covers;
      first = λ beyond. record {
        covered = subst (λ (i : Problem). Covers (level_of i (c.state).number) g) instance reached.covers;
        first = λ j below covers.
            ⊎_elim (λ l. beyond (levels_rise b.instance j (b.state).number g (omega (arith, l)) covers))
            (λ l. w.first j l (omega (arith, below, number)) covers) (cases_lt j (b.state).number);
      };
    }

pub marked_at : (b m c : BookSeen) (g : ℕ) (k : FullMark) → IsUnderWay b g m → Runs m c → IsMarked c g k → IsStopped b g c k
marked_at b m c g k w r marked =
    let runs : Runs b c = run_join b m c w.runs r in
    record { runs = runs; mark = subst (λ (p : Place). IsFullMark p g k) (same_place b c runs) marked.mark; version = marked.version }

-- the version after publishing is one more, and no earlier one covers g
pub published_under_way : (b m c d : BookSeen) (by g : ℕ) → IsUnderWay b g m → Runs m c → (c.state).number ≡ (m.state).number → (IsCovered m g → c ≡ m) → (IsCovered c g → ⊥) →
    Steps c publishes (entry_by c by (ActPublished (suc (c.state).number)) ∷ []) d → IsUnderWay b g d × ((d.state).number ≡ suc (c.state).number)
published_under_way b m c d by g w r number still beyond s =
    let runs : Runs b c = run_join b m c w.runs r in
    let instance : c.instance ≡ b.instance = ap (λ (x : BookSeen). x.instance) runs.kept in
    let step = s.step in
    let next : (d.state).number ≡ suc (c.state).number = ap (λ (t : CompletionState). t.number) step.3 in (
      record {
        runs = run_more b c d publishes (entry_by c by (ActPublished (suc (c.state).number)) ∷ []) runs s refl;
        unchanged = λ covers.
            let at : IsCovered m g = subst (λ (x : BookSeen). IsCovered x g) (sym (w.unchanged covers)) covers in
            absurd (beyond (subst (λ (x : BookSeen). IsCovered x g) (sym (still at)) at));
        first = λ j low below covers.
            ⊎_elim (λ l. w.first j low (omega (arith, l, number)) covers)
            (λ l. beyond (subst₂ (λ (i : Problem) (n : ℕ). Covers (level_of i n) g) (sym instance) (let e : j ≡ (c.state).number = omega (arith, l, below, next) in e) covers))
            (cases_lt j (c.state).number);
      },
      next,
    )

-- where publishing finds the mark
pub stopped_at : (b m c d : BookSeen) (by g : ℕ) (k : FullMark) → IsUnderWay b g m → Runs m c → (c.state).number ≡ (m.state).number → (IsCovered c g → ⊥) →
    IsEdition (edition_of m) → IsOfPlace (place_of m) (edition_of m) → IsPublished c by d (Full k) → IsStopped b g d k
stopped_at b m c d by g k w r number beyond edition place p =
    let runs : Runs b c = run_join b m c w.runs r in
    let same : edition_of c ≡ edition_of m = ap₂ edition_with (ap (λ (x : BookSeen). x.instance) r.kept) number in
    let here : IsOfPlace (place_of c) (edition_of c) =
    subst₂ IsOfPlace (sym (same_place m c r)) (sym same) place in
    let mark : IsFullMark (place_of c) g k = published_mark c (subst IsEdition (sym same) edition) here by g beyond d k p in
    let acts : MarkedFull k.grade ∷ [] ≡ acts_of c.instance (c.state).number (marks_full ∷ []) = rw p.1 refl in
    record {
      runs = run_more b c d marks_full (entry_by c by (MarkedFull k.grade) ∷ []) runs p.2 acts;
      mark = subst (λ (q : Place). IsFullMark q g k) (same_place b c runs) mark;
      version = p.0 ∙ ap₂ edition_with (sym (ap (λ (x : BookSeen). x.instance) (p.2).kept)) (sym (ap (λ (t : CompletionState). t.number) ((p.2).step).3));
    }
  where
    edition_with : Problem → ℕ → Edition
    edition_with i n = record { instance = i; number = n }

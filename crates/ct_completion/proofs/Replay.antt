-- The state of a completion is the replay of its journal.
use Rattle.std.proofs.Common.{ℕ, take, get_or, ◌+◌, ◌≤◌, ◌<◌, ◌≡◌, ◌⊎◌, inl, inr, ⊎_elim, true, true≢false, cond, Option, Some, None, List, [], ◌∷◌, ◌++◌, length, map, count_by, Contains, refl, sym, subst, subst₂, ap, ap₂, ◌∙◌, arith, suc, append_assoc, append-nil, length-append}
use Rattle.std.specs.List.Sorted.{IsPermutation}
use Rattle.std.specs.Option.{option_map, option_to_list}
use Rattle.std.proofs.lemmas.Bool.{cases_lt}
use Rattle.std.proofs.Math.Seq.{take-append_seam}
use Rattle.std.proofs.lemmas.List.{same_from_push, take-append-le, get_or_append_left, get_or_push}
use Rattle.std.proofs.lemmas.List.Sorted.{IsPermutation-refl, IsPermutation-sym, IsPermutation-trans, IsPermutation-to_front, length_permutation, Contains-permutation}
use Rattle.std.proofs.lemmas.List.Elements.{Contains-append_left, Contains-append_right, Contains-append_cases}
use Rattle.ct_instance.specs.declared.jobs.Job.{Job}
use Rattle.ct_instance.specs.Instance.{Problem, IsInstance}
use Rattle.ct_instance.specs.TestSet.{test_list}
use Rattle.ct_instance.specs.Versions.{Level, upto, everything, level_of, version_list, IsVersion, IsFullGrade}
use Rattle.ct_instance.specs.Reach.{grade_after, opened_grade}
use Rattle.ct_instance.specs.Jobs.{is_same_job}
use Rattle.ct_instance.proofs.SameJobs.{same_job_test}
use Rattle.ct_instance.proofs.Lists.{Contains-here, Contains-there, Contains-nil, count_by-cons}
use Rattle.ct_levels.proofs.Levels.{list_zero, list_next}
use Rattle.ct_levels.proofs.Full.{opened_is_full}
use Rattle.ct_completion.specs.declared.journals.Act.{Act}
use Rattle.ct_completion.specs.declared.journals.Act.TheVariants.{Stored, Published, MarkedFull}
use Rattle.ct_completion.specs.declared.journals.Entry.{Entry}
use Rattle.ct_completion.specs.Machine.{CompletionState, CompletionEvent, hands_out, stores, already, publishes, marks_full, refuses, CompletionStep, CompletionRun, starts, goes_on, IsReady, just_opened, opened_jobs}
use Rattle.ct_completion.specs.Journal.{act_of, acts_of, number_after, is_publishing, Replays, opens, acts, AreAlike, IsReplay, AreSerials, entries_of}
use Rattle.ct_completion.specs.Laws.{IsReached}
use Rattle.ct_completion.proofs.Permutations.{split_at, take_from_both}

-- ---- states that are alike

alike_itself : (s : CompletionState) → AreAlike s s
alike_itself s = record { number = refl; queue = IsPermutation-refl s.queue; full = refl }

alike_back : (s t : CompletionState) → AreAlike s t → AreAlike t s
alike_back s t a = record { number = sym a.number; queue = IsPermutation-sym s.queue t.queue a.queue; full = sym a.full }

alike_chain : (s t u : CompletionState) → AreAlike s t → AreAlike t u → AreAlike s u
alike_chain s t u a b = record { number = a.number ∙ b.number; queue = IsPermutation-trans s.queue t.queue u.queue a.queue b.queue; full = a.full ∙ b.full }

alike_from_same : (s t : CompletionState) → s ≡ t → AreAlike s t
alike_from_same s t e = subst (AreAlike s) e (alike_itself s)

no_more : {X : Type 0} (xs ys : List X) → IsPermutation xs ys → xs ≡ [] → ys ≡ []
no_more {X} xs ys p e = none ys (length_permutation xs ys p ∙ ap length e)
  where
    none : (ys : List X) → length ys ≡ 0 → ys ≡ []
    none [] l = refl
    none (y ∷ ys) l = absurd (omega arith)

ready_alike : (i : Problem) (s r : CompletionState) (d : ℕ) → AreAlike s r → IsReady i s d → IsReady i r d
ready_alike i s r d a u = record {
  opened = ap (opened_grade i) (sym a.number) ∙ u.opened;
  resolved = no_more s.queue r.queue a.queue u.resolved;
  unmarked = sym a.full ∙ u.unmarked;
}

-- one event takes states that are alike to states that are alike
alike_steps : (i : Problem) (limit : ℕ) (s r : CompletionState) (event : CompletionEvent) (t u : CompletionState) → AreAlike s r →
    CompletionStep i limit s event t → CompletionStep i limit r event u → AreAlike t u
alike_steps i limit s r (hands_out j) t u a p q =
    alike_chain t (record { number = s.number; queue = p.0 ++ j ∷ []; full = s.full }) u (alike_from_same t (record { number = s.number; queue = p.0 ++ j ∷ []; full = s.full }) p.2)
    (alike_chain (record { number = s.number; queue = p.0 ++ j ∷ []; full = s.full }) s u
    (record { number = refl; queue = subst (IsPermutation (p.0 ++ j ∷ [])) (sym p.1) (IsPermutation-to_front p.0 j); full = refl })
    (alike_chain s r u a
    (alike_chain r (record { number = r.number; queue = q.0 ++ j ∷ []; full = r.full }) u
    (record {
      number = refl;
      queue = IsPermutation-sym (q.0 ++ j ∷ []) r.queue (subst (IsPermutation (q.0 ++ j ∷ [])) (sym q.1) (IsPermutation-to_front q.0 j));
      full = refl;
    })
    (alike_from_same (record { number = r.number; queue = q.0 ++ j ∷ []; full = r.full }) u (sym q.2)))))
alike_steps i limit s r (stores j) t u a p q =
    subst₂ AreAlike (sym p.3) (sym q.3)
    (record {
      number = a.number;
      queue = take_from_both is_same_job same_job_test j p.0 p.1 q.0 q.1 (subst₂ IsPermutation p.2 q.2 a.queue);
      full = a.full;
    })
alike_steps i limit s r (already n j) t u a p q = subst₂ AreAlike (sym p.1) (sym q.1) a
alike_steps i limit s r publishes t u a p q =
    alike_from_same t u (p.3 ∙ ap (λ (k : ℕ). just_opened i (suc k)) a.number ∙ sym q.3)
alike_steps i limit s r marks_full t u a p q =
    subst₂ AreAlike (sym p.3) (sym q.3) (record { number = a.number; queue = IsPermutation-refl []; full = refl })
alike_steps i limit s r refuses t u a p q = subst₂ AreAlike (sym p) (sym q) a

-- an event that is written down may happen in a state that is alike
alike_step : (i : Problem) (limit : ℕ) (s r : CompletionState) (event : CompletionEvent) (t : CompletionState) (act : Act) → AreAlike s r →
    act_of i s.number event ≡ Some act → CompletionStep i limit s event t → (u : CompletionState) × CompletionStep i limit r event u
alike_step i limit s r (stores j) t act a e p =
    let listed : Contains s.queue j = subst (λ (q : List Job). Contains q j) (sym p.2) (Contains-append_right p.0 (j ∷ p.1) j (Contains-here j p.1)) in
    let parts = split_at r.queue j (Contains-permutation s.queue r.queue j a.queue listed) in
    (record { number = r.number; queue = parts.0 ++ parts.1; full = r.full }, (parts.0, parts.1, parts.2, refl))
alike_step i limit s r publishes t act a e p = (just_opened i (suc r.number), (p.0, ready_alike i s r p.0 a p.1, p.2, refl))
alike_step i limit s r marks_full t act a e p =
    (record { number = r.number; queue = []; full = true }, (p.0, ready_alike i s r p.0 a p.1, p.2, refl))
alike_step i limit s r (hands_out j) t act a e p = absurd (cc)
alike_step i limit s r (already n j) t act a e p = absurd (cc)
alike_step i limit s r refuses t act a e p = absurd (cc)

-- ---- numbers

step_number : (i : Problem) (limit : ℕ) (s : CompletionState) (event : CompletionEvent) (t : CompletionState) → CompletionStep i limit s event t → t.number ≡ number_after s.number event
step_number i limit s (hands_out j) t p = ap (λ (x : CompletionState). x.number) p.2
step_number i limit s (stores j) t p = ap (λ (x : CompletionState). x.number) p.3
step_number i limit s (already n j) t p = ap (λ (x : CompletionState). x.number) p.1
step_number i limit s publishes t p = ap (λ (x : CompletionState). x.number) p.3
step_number i limit s marks_full t p = ap (λ (x : CompletionState). x.number) p.3
step_number i limit s refuses t p = ap (λ (x : CompletionState). x.number) p

number_counts : (k : ℕ) (event : CompletionEvent) → number_after k event ≡ k + cond (is_publishing event) 1 0
number_counts k (hands_out j) = omega arith
number_counts k (stores j) = omega arith
number_counts k (already n j) = omega arith
number_counts k publishes = omega arith
number_counts k marks_full = omega arith
number_counts k refuses = omega arith

count_push : (events : List CompletionEvent) (event : CompletionEvent) → count_by is_publishing (events ++ event ∷ []) ≡ count_by is_publishing events + cond (is_publishing event) 1 0
count_push [] event = omega (arith, count_by-cons is_publishing event [])
count_push (e ∷ events) event =
    omega (arith, count_by-cons is_publishing e (events ++ event ∷ []), count_by-cons is_publishing e events, count_push events event)

pub run_number : (i : Problem) (limit : ℕ) (s : CompletionState) (events : List CompletionEvent) (t : CompletionState) → CompletionRun i limit s events t →
    t.number ≡ s.number + count_by is_publishing events
run_number i limit s events t starts = omega arith
run_number i limit s events u (goes_on before t event v run step) =
    omega (arith, step_number i limit t event u step, number_counts t.number event, count_push before event, run_number i limit s before t run)

pub acts_push : (i : Problem) (k : ℕ) (events : List CompletionEvent) (event : CompletionEvent) →
    acts_of i k (events ++ event ∷ []) ≡ acts_of i k events ++ acts_of i (k + count_by is_publishing events) (event ∷ [])
acts_push i k [] event = ap (λ (n : ℕ). acts_of i n (event ∷ [])) (let e : k ≡ k + count_by is_publishing [] = omega arith in e)
acts_push i k (e ∷ events) event =
    ap (λ x. option_to_list (act_of i k e) ++ x) (acts_push i (number_after k e) events event ∙
    ap (λ (n : ℕ). acts_of i (number_after k e) events ++ acts_of i n (event ∷ []))
    (let same : number_after k e + count_by is_publishing events ≡ k + count_by is_publishing (e ∷ events) =
    omega (arith, number_counts k e, count_by-cons is_publishing e events) in same)) ∙
    sym (append_assoc (option_to_list (act_of i k e)) (acts_of i (number_after k e) events) (acts_of i (k + count_by is_publishing (e ∷ events)) (event ∷ [])))

-- ---- a journal grows by what is written down

module _ {X Y : Type 0} (f : X → Y) where
  map_none : (xs : List X) → map f xs ≡ [] → xs ≡ []
  map_none [] e = refl
  map_none (x ∷ xs) e = absurd (cc)

  map_one : (xs : List X) (y : Y) → map f xs ≡ y ∷ [] → (x : X) × (xs ≡ x ∷ []) × (f x ≡ y)
  map_one [] y e = absurd (cc)
  map_one (x ∷ xs) y e = (x, ap (λ r. x ∷ r) (map_none xs (let r : map f xs ≡ [] = cc in r)), (let r : f x ≡ y = cc in r))

  map_parts : (xs : List X) (ys zs : List Y) → map f xs ≡ ys ++ zs → (first : List X) × (last : List X) × (xs ≡ first ++ last) × (map f first ≡ ys) × (map f last ≡ zs)
  map_parts xs [] zs e = ([], xs, refl, refl, e)
  map_parts [] (y ∷ ys) zs e = absurd (cc)
  map_parts (x ∷ xs) (y ∷ ys) zs e =
      let r = map_parts xs ys zs (let g : map f xs ≡ ys ++ zs = cc in g) in
      let h : f x ≡ y = cc in
      (x ∷ r.0, r.1, ap (λ l. x ∷ l) r.2, ap₂ (λ a b. a ∷ b) h r.3, r.4)

written : (i : Problem) (limit : ℕ) (journal : List Entry) (s : CompletionState) → IsReplay i limit journal s → (event : CompletionEvent) (t : CompletionState) →
    CompletionStep i limit s event t → (more : List Entry) (act : Act) → act_of i s.number event ≡ Some act → map (λ e. e.act) more ≡ act ∷ [] → IsReplay i limit (journal ++ more) t
written i limit journal s r event t step more act e m =
    let entry = map_one (λ (x : Entry). x.act) more act m in
    let next = alike_step i limit s r.replayed event t act r.alike e step in
    subst (λ (x : List Entry). IsReplay i limit (journal ++ x) t) (sym entry.1)
    (record {
      replayed = next.0;
      replays = acts journal r.replayed event entry.0 next.0 r.replays
          (ap (λ (k : ℕ). act_of i k event) (sym (r.alike).number) ∙ e ∙ ap Some (sym entry.2)) next.1;
      alike = alike_steps i limit s r.replayed event t next.0 r.alike step next.1;
    })

unwritten : (i : Problem) (limit : ℕ) (journal : List Entry) (s t : CompletionState) → IsReplay i limit journal s → AreAlike t s → (more : List Entry) → map (λ e. e.act) more ≡ [] →
    IsReplay i limit (journal ++ more) t
unwritten i limit journal s t r a more m =
    subst (λ (x : List Entry). IsReplay i limit x t) (sym (ap (λ (x : List Entry). journal ++ x) (map_none (λ (x : Entry). x.act) more m) ∙ append-nil journal))
    (record { replayed = r.replayed; replays = r.replays; alike = alike_chain t s r.replayed a r.alike })

pub journal_grows : (i : Problem) (limit : ℕ) (journal : List Entry) (s : CompletionState) → IsReplay i limit journal s → (event : CompletionEvent) (t : CompletionState) →
    CompletionStep i limit s event t → (more : List Entry) → map (λ e. e.act) more ≡ acts_of i s.number (event ∷ []) → IsReplay i limit (journal ++ more) t
journal_grows i limit journal s r (hands_out j) t p more m =
    unwritten i limit journal s t r
    (alike_chain t (record { number = s.number; queue = p.0 ++ j ∷ []; full = s.full }) s (alike_from_same t (record { number = s.number; queue = p.0 ++ j ∷ []; full = s.full }) p.2)
    (record { number = refl; queue = subst (IsPermutation (p.0 ++ j ∷ [])) (sym p.1) (IsPermutation-to_front p.0 j); full = refl })) more m
journal_grows i limit journal s r (stores j) t p more m = written i limit journal s r (stores j) t p more (Stored j) refl m
journal_grows i limit journal s r (already n j) t p more m = unwritten i limit journal s t r (alike_from_same t s p.1) more m
journal_grows i limit journal s r publishes t p more m = written i limit journal s r publishes t p more (Published (suc s.number)) refl m
journal_grows i limit journal s r marks_full t p more m =
    let e : act_of i s.number marks_full ≡ Some (MarkedFull p.0) = ap (option_map MarkedFull) (p.1).opened in
    written i limit journal s r marks_full t p more (MarkedFull p.0) e (m ∙ ap (λ o. option_to_list o ++ []) e)
journal_grows i limit journal s r refuses t p more m = unwritten i limit journal s t r (alike_from_same t s p) more m

pub run_grows : (i : Problem) (limit : ℕ) (journal : List Entry) (s : CompletionState) → IsReplay i limit journal s →
    (events : List CompletionEvent) (t : CompletionState) → CompletionRun i limit s events t → (more : List Entry) → map (λ e. e.act) more ≡ acts_of i s.number events →
    IsReplay i limit (journal ++ more) t
run_grows i limit journal s r events t starts more m = unwritten i limit journal s s r (alike_itself s) more m
run_grows i limit journal s r events u (goes_on before t event v run step) more m =
    let parts = map_parts (λ (x : Entry). x.act) more (acts_of i s.number before) (acts_of i t.number (event ∷ []))
    (m ∙ acts_push i s.number before event ∙
    ap (λ (n : ℕ). acts_of i s.number before ++ acts_of i n (event ∷ [])) (sym (run_number i limit s before t run))) in
    subst (λ (x : List Entry). IsReplay i limit x u) (append_assoc journal parts.0 parts.1 ∙ ap (λ (x : List Entry). journal ++ x) (sym parts.2))
    (journal_grows i limit (journal ++ parts.0) t (run_grows i limit journal s r before t run parts.0 parts.3) event u step parts.1 parts.4)

pub state_is_replay : (i : Problem) (limit : ℕ) (events : List CompletionEvent) (s : CompletionState) → CompletionRun i limit (just_opened i 0) events s →
    (journal : List Entry) → map (λ e. e.act) journal ≡ acts_of i 0 events → IsReplay i limit journal s
state_is_replay i limit events s run journal m =
    run_grows i limit [] (just_opened i 0) (record { replayed = just_opened i 0; replays = opens; alike = alike_itself (just_opened i 0) }) events s run journal m

-- ---- a journal has one replay

abbrev event_of : Act → CompletionEvent
event_of (Stored j) = stores j
event_of (Published k) = publishes
event_of (MarkedFull d) = marks_full

event_is : (i : Problem) (k : ℕ) (event : CompletionEvent) (act : Act) → act_of i k event ≡ Some act → event ≡ event_of act
event_is i k (stores j) act e = let same : Stored j ≡ act = cc in ap event_of same
event_is i k publishes act e = let same : Published (suc k) ≡ act = cc in ap event_of same
event_is i k marks_full act e = go (opened_grade i k) e
  where
    go : (o : Option ℕ) → option_map MarkedFull o ≡ Some act → marks_full ≡ event_of act
    go None e = absurd (cc)
    go (Some d) e = let same : MarkedFull d ≡ act = cc in ap event_of same
event_is i k (hands_out j) act e = absurd (cc)
event_is i k (already n j) act e = absurd (cc)
event_is i k refuses act e = absurd (cc)

record IsActed (i : Problem) (limit : ℕ) (journal : List Entry) (t : CompletionState) : Type 0 where
  entries : List Entry
  state : CompletionState
  event : CompletionEvent
  entry : Entry
  whole : journal ≡ entries ++ entry ∷ []
  replays : Replays i limit entries state
  act : act_of i state.number event ≡ Some entry.act
  allowed : CompletionStep i limit state event t

replay_cases : (i : Problem) (limit : ℕ) (journal : List Entry) (t : CompletionState) → Replays i limit journal t →
    ((journal ≡ []) × (t ≡ just_opened i 0)) ⊎ IsActed i limit journal t
replay_cases i limit journal t opens = inl (refl, refl)
replay_cases i limit journal t (acts entries s event entry u r e step) =
    inr (record { entries = entries; state = s; event = event; entry = entry; whole = refl; replays = r; act = e; allowed = step })

not_empty : (entries : List Entry) (entry : Entry) → entries ++ entry ∷ [] ≡ [] → ⊥
not_empty entries entry e = let l : length (entries ++ entry ∷ []) ≡ 0 = ap length e in omega (arith, length-append entries (entry ∷ []))

replays_alike : (i : Problem) (limit : ℕ) (journal : List Entry) (s : CompletionState) → Replays i limit journal s → (t : CompletionState) → Replays i limit journal t → AreAlike s t
replays_alike i limit journal s opens t q =
    ⊎_elim (λ c. alike_from_same (just_opened i 0) t (sym c.1)) (λ c. absurd (not_empty c.entries c.entry (sym c.whole))) (replay_cases i limit [] t q)
replays_alike i limit journal s (acts entries r event entry u before e step) t q =
    ⊎_elim (λ c. absurd (not_empty entries entry c.0))
    (λ c.
    let same = same_from_push entries c.entries entry c.entry c.whole in
    let alike : AreAlike r c.state = replays_alike i limit entries r before c.state (subst (λ (x : List Entry). Replays i limit x c.state) (sym same.0) c.replays) in
    let events : c.event ≡ event =
    event_is i (c.state).number c.event (c.entry).act c.act ∙ ap (λ (x : Entry). event_of x.act) (sym same.1) ∙ sym (event_is i r.number event entry.act e) in
    alike_steps i limit r c.state event s t alike step (subst (λ (x : CompletionEvent). CompletionStep i limit c.state x t) events c.allowed))
    (replay_cases i limit (entries ++ entry ∷ []) t q)

pub replay_is_one : (i : Problem) (limit : ℕ) (journal : List Entry) (s t : CompletionState) → IsReplay i limit journal s → IsReplay i limit journal t → AreAlike s t
replay_is_one i limit journal s t p q =
    alike_chain s p.replayed t p.alike
    (alike_chain p.replayed q.replayed t (replays_alike i limit journal p.replayed p.replays q.replayed q.replays) (alike_back t q.replayed q.alike))

-- ---- what holds of each state that is reached

pub opened_level : (l : Level) (d : ℕ) → grade_after l ≡ Some d → (g : ℕ) × (l ≡ upto g) × (g + 1 ≡ d)
opened_level (upto g) d e = (g, refl, (let same : g + 1 ≡ d = cc in same))
opened_level everything d e = absurd (cc)

reached_at_first : (i : Problem) (limit : ℕ) → IsReached i limit (just_opened i 0)
reached_at_first i limit = record { version = tt; most = omega (arith, ap length (list_zero i)); queued = λ j c. c; marked = λ e. absurd (true≢false (sym e)) }

reached_next : (i : Problem) → IsInstance i → (limit : ℕ) (s : CompletionState) (event : CompletionEvent) (t : CompletionState) → IsReached i limit s → CompletionStep i limit s event t → IsReached i limit t
reached_next i h limit s (hands_out j) t r p =
    subst (IsReached i limit) (sym p.2)
    (record {
      version = r.version;
      most = r.most;
      queued = λ k c. r.queued k (subst (λ (q : List Job). Contains q k) (sym p.1) (Contains-permutation (p.0 ++ j ∷ []) (j ∷ p.0) k (IsPermutation-to_front p.0 j) c));
      marked = λ e. let none : j ∷ p.0 ≡ [] = sym p.1 ∙ (r.marked e).0 in absurd (cc);
    })
reached_next i h limit s (stores j) t r p =
    subst (IsReached i limit) (sym p.3)
    (record {
      version = r.version;
      most = r.most;
      queued = λ k c. r.queued k (subst (λ (q : List Job). Contains q k) (sym p.2)
          (⊎_elim (Contains-append_left p.0 (j ∷ p.1) k) (λ d. Contains-append_right p.0 (j ∷ p.1) k (Contains-there j p.1 k d)) (Contains-append_cases p.0 p.1 k c)));
      marked = λ e.
          let l : length (p.0 ++ j ∷ p.1) ≡ 0 = ap length (sym p.2 ∙ (r.marked e).0) in
          absurd (omega (arith, length-append p.0 (j ∷ p.1)));
    })
reached_next i h limit s (already n j) t r p = subst (IsReached i limit) (sym p.1) r
reached_next i h limit s publishes t r p =
    let o = opened_level (level_of i s.number) p.0 (p.1).opened in
    subst (IsReached i limit) (sym p.3)
    (record {
      version = (o.0, o.1);
      most = subst (λ ms. length ms ≤ limit) (sym (list_next i s.number o.0 o.1 ∙ ap (test_list i) o.2)) p.2;
      queued = λ k c. c;
      marked = λ e. absurd (true≢false (sym e));
    })
reached_next i h limit s marks_full t r p =
    let o = opened_level (level_of i s.number) p.0 (p.1).opened in
    let full : IsFullGrade i limit p.0 =
    subst (IsFullGrade i limit) o.2 (opened_is_full i h limit s.number o.0 r.version o.1 r.most (subst (λ (d : ℕ). limit < length (test_list i d)) (sym o.2) p.2)) in
    subst (IsReached i limit) (sym p.3)
    (record { version = r.version; most = r.most; queued = λ k c. absurd (Contains-nil k c); marked = λ e. (refl, (p.0, (p.1).opened, full)) })
reached_next i h limit s refuses t r p = subst (IsReached i limit) (sym p) r

replays_reached : (i : Problem) → IsInstance i → (limit : ℕ) (journal : List Entry) (s : CompletionState) → Replays i limit journal s → IsReached i limit s
replays_reached i h limit journal s opens = reached_at_first i limit
replays_reached i h limit journal s (acts entries r event entry t before e step) = reached_next i h limit r event s (replays_reached i h limit entries r before) step

pub replay_reached : (i : Problem) → IsInstance i → (limit : ℕ) (journal : List Entry) (s : CompletionState) → IsReplay i limit journal s → IsReached i limit s
replay_reached i h limit journal s p =
    let r = replays_reached i h limit journal p.replayed p.replays in
    record {
      version = subst (IsVersion i) (sym (p.alike).number) r.version;
      most = subst (λ (k : ℕ). length (version_list i k) ≤ limit) (sym (p.alike).number) r.most;
      queued = λ j c. subst (λ (k : ℕ). Contains (opened_jobs i k) j) (sym (p.alike).number) (r.queued j (Contains-permutation s.queue (p.replayed).queue j (p.alike).queue c));
      marked = λ e.
          let m = r.marked (sym (p.alike).full ∙ e) in
          (no_more (p.replayed).queue s.queue (IsPermutation-sym s.queue (p.replayed).queue (p.alike).queue) m.0, ((m.1).0, ap (opened_grade i) (p.alike).number ∙ (m.1).1, (m.1).2));
    }

-- ---- serials

abbrev counted : List Entry → Entry → Type 0
counted before x = x.serial ≡ entries_of x.pass before

pub serials_grow : (journal : List Entry) (entry : Entry) → AreSerials journal → entry.serial ≡ entries_of entry.pass journal → AreSerials (journal ++ entry ∷ [])
serials_grow journal entry a e k d l = ⊎_elim earlier last (cases_lt k (length journal))
  where
    earlier : k < length journal → counted (take k (journal ++ entry ∷ [])) (get_or (journal ++ entry ∷ []) k d)
    earlier m =
        subst₂ counted (sym (take-append-le k journal (entry ∷ []) (omega arith))) (sym (get_or_append_left journal (entry ∷ []) d k m)) (a k d m)

    last : length journal ≤ k → counted (take k (journal ++ entry ∷ [])) (get_or (journal ++ entry ∷ []) k d)
    last m =
        let same : k ≡ length journal = omega (arith, length-append journal (entry ∷ []), l) in
        subst₂ counted
        (sym (ap (λ (n : ℕ). take n (journal ++ entry ∷ [])) same ∙ take-append_seam journal (entry ∷ [])))
        (sym (get_or_push journal entry d k (sym same))) e

-- Versions on the way to a grade, told by the jobs of its whole test list.
use Rattle.std.proofs.Common.{◌≡◌, ℕ, ◌+◌, ◌-◌, ◌≤◌, ◌<◌, nat_eq, Option, None, Some, List, [], ◌∷◌, ◌++◌, length, map, take, ⊎_elim, sym, ap, ap₂, subst, ◌∙◌, refl, arith, suc, append-nil, append_assoc}
use Rattle.std.specs.Prelude.{slice_get, cond, IsPermutation}
use Rattle.std.proofs.lemmas.Bool.{cases_lt}
use Rattle.std.proofs.lemmas.List.{map-append, take_more}
use Rattle.std.proofs.lemmas.Option.{get_or_from_slice_get}
use Rattle.std.proofs.lemmas.List.Sorted.{IsPermutation-trans}
use Rattle.std.proofs.lemmas.List.Sums.{sum_by-append}
use Rattle.ct_vectors.specs.Vectors.{up_to}
use Rattle.ct_instance.specs.declared.jobs.Job.{Job}
use Rattle.ct_instance.specs.Instance.{Problem, IsInstance}
use Rattle.ct_instance.specs.TestSet.{Binomial, test_list}
use Rattle.ct_instance.specs.Versions.{Level, upto, everything, Covers, level_of}
use Rattle.ct_instance.specs.Reach.{grade_after, opened_grade, last_opened, first_version_from}
use Rattle.ct_levels.proofs.Covering.{first_version_is}
use Rattle.ct_levels.proofs.Levels.{last_opened_next, covers_number}
use Rattle.ct_levels.proofs.Whole.{opened_of_whole, level_below_first}
use Rattle.ct_jobs.specs.declared.graded.GradedJob.{GradedJob}
use Rattle.ct_jobs.specs.GradedJobs.{AreJobsOf, graded_jobs, graded_pairs_from, next_grade}
use Rattle.ct_jobs.proofs.Growing.{jobs_grow, next_grade_of_all}
use Rattle.ct_completion.specs.declared.journals.Act.{Act}
use Rattle.ct_completion.specs.declared.journals.Act.TheVariants.{Stored, Published}
use Rattle.ct_completion.specs.declared.journals.Entry.{Entry}
use Rattle.ct_completion.specs.Machine.{opened_jobs}
use Rattle.ct_completion.specs.Journal.{entries_of}
use Rattle.ct_completion.specs.OnePass.{acts_to, entries_by, journal_to}
use Rattle.ct_completion.proofs.OnePass.{opened_jobs_of_whole}
use Rattle.ct_version.specs.declared.finished.Finished.{Finished}
use Rattle.ct_version.specs.Editions.{level_seen, level_below}
use Rattle.ct_book.specs.Queues.{QueueSeen}
use Rattle.ct_book.specs.Insides.{fresh}
use Rattle.ct_book.specs.Openings.{jobs_by, ListsJobs}
use Rattle.ct_book.specs.Bringing.{IsBrought}
use Rattle.ct_book.proofs.OpenedJobs.{opened_none}
use Rattle.ct_book.proofs.ReadyBooks.{taken_in}

-- ---- buckets of a whole list

pub all_taken_in : (i : Problem) (ms : List Binomial) (none more ks all last : List GradedJob) → AreJobsOf i [] none → more ≡ graded_pairs_from i ms 1 →
    IsPermutation none ks → IsPermutation (ks ++ more) all → IsPermutation all last → AreJobsOf i ms last
all_taken_in i ms none more ks all last are e turned absorbed merged =
    IsPermutation-trans (graded_jobs i ms) all last
    (taken_in i ms none more ks all (subst (λ (l : List GradedJob). AreJobsOf i ms (none ++ l)) (sym e) (jobs_grow i [] ms none are)) turned absorbed) merged

pub beside_none : (i : Problem) (ms : List Binomial) (js none : List GradedJob) → AreJobsOf i ms js → none ≡ [] → AreJobsOf i ms (js ++ none)
beside_none i ms js none are e = subst (AreJobsOf i ms) (sym (ap (λ (l : List GradedJob). js ++ l) e ∙ append-nil js)) are

-- ---- what is written down

abbrev entry_at : ℕ → Act → Entry
entry_at n act = record { pass = 0; serial = n; act = act }

by-append : (n : ℕ) (xs ys : List Act) → entries_by 0 n (xs ++ ys) ≡ entries_by 0 n xs ++ entries_by 0 (n + length xs) ys
by-append n [] ys = ap (λ (m : ℕ). entries_by 0 m ys) (let e : n ≡ n + 0 = omega arith in e)
by-append n (x ∷ xs) ys =
    ap (λ (l : List Entry). entry_at n x ∷ l)
    (by-append (n + 1) xs ys ∙ ap (λ (m : ℕ). entries_by 0 (n + 1) xs ++ entries_by 0 m ys) (let e : (n + 1) + length xs ≡ n + suc (length xs) = omega arith in e))

count_by_one : (n : ℕ) (xs : List Act) → entries_of 0 (entries_by 0 n xs) ≡ length xs
count_by_one n [] = refl
count_by_one n (x ∷ xs) =
    sum_by-append (λ (e : Entry). cond (nat_eq e.pass 0) 1 0) (entry_at n x ∷ []) (entries_by 0 (n + 1) xs) ∙ ap (λ (m : ℕ). 1 + m) (count_by_one (n + 1) xs) ∙
    (let e : 1 + length xs ≡ suc (length xs) = omega arith in e)

-- so many entries that pass 0 made beside those that stood
abbrev pub IsWritten : List Entry → List Act → List Entry → Type 0
IsWritten old acts now = now ≡ old ++ entries_by 0 (entries_of 0 old) acts

pub nothing_written : (old : List Entry) → IsWritten old [] old
nothing_written old = sym (append-nil old)

pub written_more : (old : List Entry) (acts : List Act) (now : List Entry) (act : Act) (next : List Entry) → IsWritten old acts now →
    next ≡ now ++ entry_at (entries_of 0 now) act ∷ [] → IsWritten old (acts ++ act ∷ []) next
written_more old acts now act next w e =
    let n : ℕ = entries_of 0 old in
    let count : entries_of 0 now ≡ n + length acts =
    ap (entries_of 0) w ∙ sum_by-append (λ (x : Entry). cond (nat_eq x.pass 0) 1 0) old (entries_by 0 n acts) ∙ ap (λ (m : ℕ). n + m) (count_by_one n acts) in
    e ∙ ap₂ (λ (es : List Entry) (m : ℕ). es ++ entry_at m act ∷ []) w count ∙ append_assoc old (entries_by 0 n acts) (entry_at (n + length acts) act ∷ []) ∙
    ap (λ (es : List Entry). old ++ es) (sym (by-append n acts (act ∷ [])))

pub stored_more : (js : List Job) (k : ℕ) (j : Job) → slice_get js k ≡ Some j → k < length js → map Stored (take (k + 1) js) ≡ map Stored (take k js) ++ Stored j ∷ []
stored_more js k j at within =
    ap (map Stored) (take_more js k j within ∙ ap (λ (x : Job). take k js ++ x ∷ []) (get_or_from_slice_get js k j j at)) ∙ map-append Stored (take k js) (j ∷ [])

-- ---- the versions on the way

below_next : (l : Level) → l ≡ level_below (grade_after l)
below_next (upto l) = ap upto (let e : l ≡ (l + 1) - 1 = omega arith in e)
below_next everything = refl

-- what doesn't cover g yet stands before the first version that does
pub still_before : (i : Problem) (g k : ℕ) → k ≤ first_version_from i g → (Covers (level_of i k) g → ⊥) → k < first_version_from i g
still_before i g k early short =
    ⊎_elim (λ l. l)
    (λ l. absurd (short (subst (λ (n : ℕ). Covers (level_of i n) g) (let e : first_version_from i g ≡ k = omega arith in e) (first_version_is i g).covered)))
    (cases_lt k (first_version_from i g))

pub at_first : (i : Problem) (g k : ℕ) → k ≤ first_version_from i g → Covers (level_of i k) g → k ≡ first_version_from i g
at_first i g k early covers =
    ⊎_elim (λ l. absurd ((first_version_is i g).first k l covers)) (λ l. (let e : k ≡ first_version_from i g = omega arith in e)) (cases_lt k (first_version_from i g))

-- version k covers k
covers_more : (l : Level) (k g : ℕ) → Covers l k → (Covers l g → ⊥) → k < g
covers_more (upto l) k g c short = ⊎_elim (λ m. m) (λ m. absurd (short (let e : g ≤ l = omega arith in e))) (cases_lt k g)
covers_more everything k g c short = absurd (short tt)

pub number_short : (i : Problem) (g k : ℕ) → (Covers (level_of i k) g → ⊥) → k < g
number_short i g k short = covers_more (level_of i k) k g (covers_number i k) short

module _ (i : Problem) (s : IsInstance i) (g : ℕ) (js : List GradedJob) (are : AreJobsOf i (test_list i g) js) where
  whole_opens : (k : ℕ) → k ≤ first_version_from i g → opened_grade i k ≡ next_grade (last_opened i k) js
  whole_opens k l = opened_of_whole i s g k l ∙ sym (next_grade_of_all i (test_list i g) js (last_opened i k) are)

  whole_jobs : (k : ℕ) → k ≤ first_version_from i g → (o : Option ℕ) → opened_grade i k ≡ o → opened_jobs i k ≡ jobs_by i (test_list i g) o
  whole_jobs k l None e = opened_none i k e
  whole_jobs k l (Some d) e = opened_jobs_of_whole i s g k d l e

  whole_queue : (k : ℕ) → k ≤ first_version_from i g → (q : QueueSeen) → ListsJobs js (next_grade (last_opened i k) js) q → q ≡ fresh (opened_jobs i k)
  whole_queue k l q h =
      h i (test_list i g) are ∙ ap (λ (o : Option ℕ). fresh (jobs_by i (test_list i g) o)) (sym (whole_opens k l)) ∙ ap fresh (sym (whole_jobs k l (opened_grade i k) refl))

  whole_level : (k : ℕ) → k ≤ first_version_from i g → (l : Level) → l ≡ level_below (next_grade (last_opened i k) js) → l ≡ level_of i k
  whole_level k l x e = e ∙ ap level_below (sym (whole_opens k l)) ∙ sym (below_next (level_of i k))

  pub brought_first : (levels : List Finished) (level : Finished) (entries : List Entry) (q : QueueSeen) → levels ≡ level ∷ [] → entries ≡ [] →
      level_seen level ≡ level_below (next_grade 0 js) → ListsJobs js (next_grade 0 js) q → IsBrought i g 0 levels entries level q
  brought_first levels level entries q only none e h =
      let at : level_seen level ≡ level_of i 0 = whole_level 0 (omega arith) (level_seen level) e in
      record {
        early = omega arith;
        levels_are = ap (map level_seen) only ∙ ap (λ (l : Level). l ∷ []) at;
        journal = none;
        level_is = at;
        queue = whole_queue 0 (omega arith) q h;
      }

  pub brought_next : (k : ℕ) (levels : List Finished) (entries : List Entry) (level : Finished) (q : QueueSeen) → IsBrought i g k levels entries level q →
      (Covers (level_seen level) g → ⊥) → (n above : ℕ) → n ≡ k + 1 → level_seen level ≡ upto (above - 1) → 1 ≤ above →
      (more : List Finished) (next : Finished) (written : List Entry) (r : QueueSeen) → more ≡ levels ++ next ∷ [] →
      IsWritten entries (map Stored q.jobs ++ Published n ∷ []) written →
      level_seen next ≡ level_below (next_grade above js) → ListsJobs js (next_grade above js) r → IsBrought i g n more written next r
  brought_next k levels entries level q b short n above number behind some more next written r longer w e h =
      let before : k < first_version_from i g = still_before i g k b.early (λ c. short (subst (λ (l : Level). Covers l g) (sym b.level_is) c)) in
      let early : suc k ≤ first_version_from i g = omega arith in
      let last : last_opened i (suc k) ≡ above = last_opened_next i k (above - 1) (sym b.level_is ∙ behind) ∙ (let e : (above - 1) + 1 ≡ above = omega arith in e) in
      let same : suc k ≡ n = omega (arith, number) in
      let at : level_seen next ≡ level_of i (suc k) =
      whole_level (suc k) early (level_seen next) (subst (λ (d : ℕ). level_seen next ≡ level_below (next_grade d js)) (sym last) e) in
      let count : entries_of 0 (journal_to i k) ≡ 0 + length (acts_to i k) = count_by_one 0 (acts_to i k) ∙ (let e : length (acts_to i k) ≡ 0 + length (acts_to i k) = omega arith in e) in
      let jobs : q.jobs ≡ opened_jobs i k = ap (λ (x : QueueSeen). x.jobs) b.queue in
      let journal : written ≡ journal_to i (suc k) =
      w ∙ ap (λ (es : List Entry). es ++ entries_by 0 (entries_of 0 es) (map Stored q.jobs ++ Published n ∷ [])) b.journal ∙
      ap₂ (λ (m : ℕ) (x : List Job). journal_to i k ++ entries_by 0 m (map Stored x ++ Published n ∷ [])) count jobs ∙
      ap (λ (m : ℕ). journal_to i k ++ entries_by 0 (0 + length (acts_to i k)) (map Stored (opened_jobs i k) ++ Published m ∷ [])) (sym same) ∙
      sym (by-append 0 (acts_to i k) (map Stored (opened_jobs i k) ++ Published (suc k) ∷ [])) in
      let so_far : map level_seen more ≡ map (level_of i) (up_to (suc k)) =
      ap (map level_seen) longer ∙ map-append level_seen levels (next ∷ []) ∙ ap₂ (λ (ls : List Level) (l : Level). ls ++ l ∷ []) b.levels_are at ∙
      sym (map-append (level_of i) (up_to k) (suc k ∷ [])) in
      subst (λ (m : ℕ). IsBrought i g m more written next r) same
      (record {
        early = early;
        levels_are = so_far;
        journal = journal;
        level_is = at;
        queue = whole_queue (suc k) early r (subst (λ (d : ℕ). ListsJobs js (next_grade d js) r) (sym last) h);
      })

  -- the level of a version on the way is a grade below g
  pub level_short : (k : ℕ) (levels : List Finished) (entries : List Entry) (level : Finished) (q : QueueSeen) → IsBrought i g k levels entries level q →
      (Covers (level_seen level) g → ⊥) → (l : ℕ) × (level_seen level ≡ upto l) × (l < g)
  level_short k levels entries level q b short =
      let below = level_below_first i g k (still_before i g k b.early (λ c. short (subst (λ (l : Level). Covers l g) (sym b.level_is) c))) in
      (below.0, b.level_is ∙ below.1, below.2)

-- The journal in job order is replayed to the version that it ends with, just opened.
use Rattle.std.proofs.Common.{ℕ, ◌+◌, ◌≤◌, ◌≡◌, false, Some, List, [], ◌∷◌, ◌++◌, length, map, refl, sym, subst, ap, ◌∙◌, arith, zero, suc, append_assoc, append-nil}
use Rattle.ct_instance.specs.declared.jobs.Job.{Job}
use Rattle.ct_instance.specs.Instance.{Problem, IsInstance}
use Rattle.ct_instance.specs.TestSet.{test_list}
use Rattle.ct_instance.specs.Jobs.{jobs_at}
use Rattle.ct_instance.specs.Versions.{upto, level_of, version_list, IsVersion}
use Rattle.ct_instance.specs.Reach.{grade_after, opened_grade, first_version_from}
use Rattle.ct_levels.proofs.Levels.{list_next, version_before}
use Rattle.ct_levels.proofs.Full.{test_list_longer, list_at_level}
use Rattle.ct_levels.proofs.Whole.{jobs_of_whole}
use Rattle.ct_completion.specs.declared.journals.Act.{Act}
use Rattle.ct_completion.specs.declared.journals.Act.TheVariants.{Stored, Published}
use Rattle.ct_completion.specs.declared.journals.Entry.{Entry}
use Rattle.ct_completion.specs.Machine.{CompletionState, stores, publishes, starts, just_opened, opened_jobs}
use Rattle.ct_completion.specs.Journal.{IsReplay}
use Rattle.ct_completion.specs.OnePass.{acts_to, entries_by, journal_to}
use Rattle.ct_completion.proofs.Replay.{state_is_replay, journal_grows}
use Rattle.ct_completion.proofs.Remainders.{opened_is}

-- acts in two parts: the serials of the second go on where the first ends
entries-append : (pass n : ℕ) (xs ys : List Act) → entries_by pass n (xs ++ ys) ≡ entries_by pass n xs ++ entries_by pass (n + length xs) ys
entries-append pass n [] ys = ap (λ m. entries_by pass m ys) (let e : n ≡ n + 0 = omega arith in e)
entries-append pass n (x ∷ xs) ys =
    ap (λ l. record { pass = pass; serial = n; act = x } ∷ l)
    (entries-append pass (n + 1) xs ys ∙
    ap (λ m. entries_by pass (n + 1) xs ++ entries_by pass m ys) (let e : (n + 1) + length xs ≡ n + suc (length xs) = omega arith in e))

abbrev waiting : ℕ → List Job → CompletionState
waiting k jobs = record { number = k; queue = jobs; full = false }

module _ (i : Problem) (limit : ℕ) where
  -- storing the jobs of the queue from its front on empties it
  stored_in_turn : (k pass n : ℕ) (jobs : List Job) (journal : List Entry) → IsReplay i limit journal (waiting k jobs) →
      IsReplay i limit (journal ++ entries_by pass n (map Stored jobs)) (waiting k [])
  stored_in_turn k pass n [] journal r = subst (λ (x : List Entry). IsReplay i limit x (waiting k [])) (sym (append-nil journal)) r
  stored_in_turn k pass n (j ∷ jobs) journal r =
      let entry : Entry = record { pass = pass; serial = n; act = Stored j } in
      let one : IsReplay i limit (journal ++ entry ∷ []) (waiting k jobs) =
      journal_grows i limit journal (waiting k (j ∷ jobs)) r (stores j) (waiting k jobs) ([], jobs, refl, refl) (entry ∷ []) refl in
      subst (λ (x : List Entry). IsReplay i limit x (waiting k [])) (append_assoc journal (entry ∷ []) (entries_by pass (n + 1) (map Stored jobs)))
      (stored_in_turn k pass (n + 1) jobs (journal ++ entry ∷ []) one)

  -- a grade in job order, then its publishing
  grade_in_turn : (k l pass n : ℕ) (journal : List Entry) → level_of i k ≡ upto l → length (test_list i (l + 1)) ≤ limit → IsReplay i limit journal (just_opened i k) →
      IsReplay i limit (journal ++ entries_by pass n (map Stored (opened_jobs i k) ++ Published (suc k) ∷ [])) (just_opened i (suc k))
  grade_in_turn k l pass n journal e within r =
      let jobs : List Act = map Stored (opened_jobs i k) in
      let stored : List Entry = entries_by pass n jobs in
      let last : List Entry = entries_by pass (n + length jobs) (Published (suc k) ∷ []) in
      let next : IsReplay i limit ((journal ++ stored) ++ last) (just_opened i (suc k)) =
      journal_grows i limit (journal ++ stored) (waiting k []) (stored_in_turn k pass n (opened_jobs i k) journal r) publishes (just_opened i (suc k))
      (l + 1, record { opened = ap grade_after e; resolved = refl; unmarked = refl }, within, refl) last refl in
      subst (λ (x : List Entry). IsReplay i limit x (just_opened i (suc k)))
      (append_assoc journal stored last ∙ ap (λ x. journal ++ x) (sym (entries-append pass n jobs (Published (suc k) ∷ [])))) next

pub journal_to_is_replayed : (i : Problem) → IsInstance i → (limit k : ℕ) → IsVersion i k → length (version_list i k) ≤ limit →
    IsReplay i limit (journal_to i k) (just_opened i k)
journal_to_is_replayed i s limit zero v within = state_is_replay i limit [] (just_opened i 0) starts [] refl
journal_to_is_replayed i s limit (suc k) v within =
    let l : ℕ = v.0 in
    let before : IsVersion i k = version_before i k v in
    let new : length (test_list i (l + 1)) ≤ limit = subst (λ ms. length ms ≤ limit) (list_next i k l v.1) within in
    let same : length (version_list i k) ≡ length (test_list i l) = ap length (list_at_level i s k l before v.1) in
    let old : length (version_list i k) ≤ limit = omega (arith, test_list_longer i l (l + 1) (omega arith)) in
    subst (λ (x : List Entry). IsReplay i limit x (just_opened i (suc k)))
    (sym (entries-append 0 0 (acts_to i k) (map Stored (opened_jobs i k) ++ Published (suc k) ∷ [])))
    (grade_in_turn i limit k l 0 (0 + length (acts_to i k)) (journal_to i k) v.1 new (journal_to_is_replayed i s limit k before old))

-- ---- what is stored on the way, told by the whole list

pub opened_jobs_of_whole : (i : Problem) → IsInstance i → (g k d : ℕ) → k ≤ first_version_from i g → opened_grade i k ≡ Some d → opened_jobs i k ≡ jobs_at i (test_list i g) d
opened_jobs_of_whole i s g k d l e = opened_is i k d e ∙ jobs_of_whole i s g k d l e

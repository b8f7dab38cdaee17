-- What a call of a book does is a run of it.
use Rattle.std.proofs.Common.{◌≡◌, ℕ, ◌+◌, ◌≤◌, List, [], ◌∷◌, ◌++◌, map, count_by, inl, inr, refl, ap, sym, subst, arith}
use Rattle.ct_completion.specs.declared.journals.Act.TheVariants.{MarkedFull}
use Rattle.ct_completion.specs.declared.journals.Entry.{Entry}
use Rattle.ct_completion.specs.Machine.{CompletionEvent, hands_out, stores, publishes, marks_full}
use Rattle.ct_completion.specs.Journal.{acts_of, is_publishing}
use Rattle.ct_completion.proofs.Replay.{run_number}
use Rattle.ct_book.specs.declared.outcomes.Step.{Step}
use Rattle.ct_book.specs.declared.outcomes.Step.TheVariants.{Reduce, Published, Reached, Full}
use Rattle.ct_book.specs.declared.outcomes.Committed.{Committed}
use Rattle.ct_book.specs.declared.outcomes.Committed.TheVariants.{Stored, Already}
use Rattle.ct_book.specs.Tasks.{RemainderSeen}
use Rattle.ct_book.specs.Books.{BookSeen, Steps, Runs, IsStep, IsCommitted}
use Rattle.ct_book.proofs.RunsOn.{run_none, run_more}

-- one step
pub one_step : (b c : BookSeen) (event : CompletionEvent) (more : List Entry) → Steps b event more c →
    map (λ e. e.act) more ≡ acts_of b.instance (b.state).number (event ∷ []) → Runs b c
one_step b c event more s acts = run_more b b c event more (run_none b) s acts

-- none
pub no_step : (b c : BookSeen) → c ≡ b → Runs b c
no_step b c same = subst (Runs b) (sym same) (run_none b)

pub step_runs : (b : BookSeen) (by g : ℕ) (c : BookSeen) (s : Step) → IsStep b by g c s → Runs b c
step_runs b by g c (Reduce t) is = one_step b c (hands_out t.job) [] is.steps refl
step_runs b by g c (Published v) is = one_step b c publishes _ (is.2).1 refl
step_runs b by g c (Reached h) is = no_step b c is.1
step_runs b by g c (Full m) (inl is) = no_step b c is.1
step_runs b by g c (Full m) (inr is) =
    let acts : MarkedFull m.grade ∷ [] ≡ acts_of b.instance (b.state).number (marks_full ∷ []) = rw (is.2).1 refl in
    one_step b c marks_full _ (is.2).2 acts

pub commit_runs : (b : BookSeen) (by : ℕ) (r : RemainderSeen) (c : BookSeen) (done : Committed) → IsCommitted b by r c done → Runs b c
commit_runs b by r c (Stored place) is = one_step b c (stores r.job) _ is.2 refl
commit_runs b by r c (Already number) is = no_step b c is.1

-- ---- what a run leaves

pub same_instance : (b c : BookSeen) → Runs b c → c.instance ≡ b.instance
same_instance b c r = ap (λ (x : BookSeen). x.instance) r.kept

pub same_passes : (b c : BookSeen) → Runs b c → c.passes ≡ b.passes
same_passes b c r = ap (λ (x : BookSeen). x.passes) r.kept

pub number_rises : (b c : BookSeen) → Runs b c → (b.state).number ≤ (c.state).number
number_rises b c r =
    let more : (c.state).number ≡ (b.state).number + count_by is_publishing r.events = run_number b.instance b.limit b.state r.events c.state r.run in
    omega (arith, more)

pub journal_grows : (b c : BookSeen) → Runs b c → (more : List Entry) × (c.journal ≡ b.journal ++ more)
journal_grows b c r = (r.more, ap (λ (x : BookSeen). x.journal) r.kept)

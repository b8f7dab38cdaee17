-- What the loop over the grades of a box keeps.
use Rattle.std.proofs.Common.{ℕ, ◌+◌, ◌≤◌, ◌<◌, ◌≡◌, Some, None, List, [], ◌++◌, length, sym, ap, subst, ◌∙◌, arith}
use Rattle.std.proofs.lemmas.List.{length-append}
use Rattle.ct_vectors.specs.Vectors.{total}
use Rattle.ct_instance.specs.Instance.{Problem, IsInstance}
use Rattle.ct_instance.specs.TestSet.{Binomial}
use Rattle.ct_instance.proofs.Above.{least_above_some}
use Rattle.ct_walk.specs.Moves.{MoveList}
use Rattle.ct_levels.specs.Levels.{job_grades}
use Rattle.ct_jobs.specs.declared.graded.GradedJob.{GradedJob}
use Rattle.ct_jobs.specs.GradedJobs.{AreJobsOf, next_grade}
use Rattle.ct_jobs.proofs.Growing.{next_grade_of_all}
use Rattle.ct_box.specs.Brought.{AreBrought}
use Rattle.ct_box.specs.Completing.{IsBoxState, IsBoxStep, IsBeyond, IsBoxDone}
use Rattle.ct_box.proofs.Completions.{box_begins, box_steps, box_fills, box_ends}

-- the moves are those of a state, and these are their jobs
pub record IsBoxRun (i : Problem) (top : List ℕ) (limit last : ℕ) (l : MoveList) (js : List GradedJob) : Type 0 where
  pub instance : l.instance ≡ i
  pub state : IsBoxState i top limit last l.moves
  pub jobs : AreJobsOf i l.moves js

-- the next grade, and what the jobs within the bound bring
pub record IsNext (i : Problem) (top : List ℕ) (last d : ℕ) (ms new : List Binomial) (js : List GradedJob) : Type 0 where
  pub next : next_grade last js ≡ Some d
  pub within : d ≤ total top
  pub brought : AreBrought i top ms d new

module _ (i : Problem) (inst : IsInstance i) (top : List ℕ) (limit last : ℕ) (l : MoveList) (js : List GradedJob) (run : IsBoxRun i top limit last l js) where
  step_of : (d : ℕ) (new : List Binomial) → IsNext i top last d l.moves new js → IsBoxStep i top last d l.moves new
  step_of d new n = record {
    next = sym (next_grade_of_all i l.moves js last run.jobs) ∙ n.next;
    within = n.within;
    remainders = (n.brought).remainders;
    are = (n.brought).are;
    exact = (n.brought).exact;
    ordered = (n.brought).ordered;
  }

  pub run_steps : (d : ℕ) (new : List Binomial) → IsNext i top last d l.moves new js → length l.moves + length new ≤ limit → (m : MoveList) →
      m ≡ record l { moves = l.moves ++ new } → (all : List GradedJob) → AreJobsOf m.instance m.moves all → IsBoxRun i top limit d m all
  run_steps d new n few m is all jobs = record {
    instance = same;
    state = subst (IsBoxState i top limit d) (sym (ap (λ (x : MoveList). x.moves) is)) (box_steps i inst top limit last d l.moves new run.state (step_of d new n) (omega (arith, few, length-append l.moves new)));
    jobs = subst (λ (x : Problem). AreJobsOf x m.moves all) same jobs;
  }
    where
      same : m.instance ≡ i
      same = ap (λ (x : MoveList). x.instance) is ∙ run.instance

  pub run_fills : (d : ℕ) (new : List Binomial) → IsNext i top last d l.moves new js → limit < length l.moves + length new → IsBoxDone i top limit l.moves (Some d)
  run_fills d new n more = box_fills i inst top limit last d l.moves new run.state (step_of d new n) (omega (arith, more, length-append l.moves new))

  pub run_ends : IsBeyond (total top) (next_grade last js) → IsBoxDone i top limit l.moves None
  run_ends b = box_ends i inst top limit last l.moves run.state (subst (IsBeyond (total top)) (next_grade_of_all i l.moves js last run.jobs) b)

  pub run_rises : (d : ℕ) → next_grade last js ≡ Some d → last < d
  run_rises d e = (least_above_some last (job_grades i l.moves) d (sym (next_grade_of_all i l.moves js last run.jobs) ∙ e)).0

pub run_begins : (i : Problem) → IsInstance i → (top : List ℕ) (limit : ℕ) (l : MoveList) → l.instance ≡ i → l.moves ≡ [] → (js : List GradedJob) → AreJobsOf i [] js →
    IsBoxRun i top limit 0 l js
run_begins i inst top limit l same none js jobs = record {
  instance = same;
  state = subst (IsBoxState i top limit 0) (sym none) (box_begins i inst top limit);
  jobs = subst (λ (ms : List Binomial). AreJobsOf i ms js) (sym none) jobs;
}

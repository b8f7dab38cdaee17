-- The definitions on a worked example, by computation: two coins of 3 and 5 at cost 2 and 3.
use Rattle.std.proofs.Common.{ℕ, ◌<◌, pos, true, false, ◌≡◌, ⊎_elim, Option, Some, None, List, [], ◌∷◌, map, get_or, refl, sym, subst, arith, lit≤, zero, suc}
use Rattle.ct_vectors.proofs.Sums.{cons_head}
use Rattle.ct_vectors.specs.declared.limits.TheConstants.{MOVE_LIMIT}
use Rattle.ct_instance.specs.declared.jobs.Job.{Job}
use Rattle.ct_instance.specs.declared.jobs.Job.TheVariants.{Generator, Pair}
use Rattle.ct_instance.specs.Instance.{Problem}
use Rattle.ct_instance.specs.Made.{indices}
use Rattle.ct_instance.specs.Fiber.{fiber_of, least_of, IsBelow}
use Rattle.ct_instance.specs.TestSet.{lists_of, test_moves_at, test_list}
use Rattle.ct_instance.specs.Jobs.{all_jobs, jobs_at}
use Rattle.ct_instance.specs.Versions.{least_above, level_after, level_of, version_list, IsRemainder, differ}
use Rattle.ct_instance.specs.Reach.{last_opened}
use Rattle.ct_instance.specs.Walk.{ends}
use Rattle.ct_instance.proofs.Lists.{Contains-cons_cases, Contains-nil}
use Rattle.ct_levels.specs.Levels.{job_grades}
use Rattle.ct_completion.specs.declared.journals.Act.TheVariants.{Stored, Published}
use Rattle.ct_completion.specs.declared.journals.Entry.{Entry}
use Rattle.ct_completion.specs.Machine.{CompletionState, CompletionStep, opened_jobs, just_opened, stores, publishes, marks_full}
use Rattle.ct_completion.specs.Journal.{Replays, opens, acts}
use Rattle.ct_completion.specs.OnePass.{journal_to}
use Rattle.ct_completion.specs.Remainders.{AreRemainders, points_of, IsGroupMove}

abbrev coins : Problem
coins = record { rows = 1; columns = (3 ∷ []) ∷ (5 ∷ []) ∷ []; cost_rows = (pos 2 ∷ pos 3 ∷ []) ∷ [] }

jobs_opened : map (opened_jobs coins) (0 ∷ 1 ∷ 2 ∷ 3 ∷ 4 ∷ 5 ∷ []) ≡
    (Generator 1 ∷ []) ∷ (Generator 2 ∷ []) ∷ (Pair 1 2 ∷ []) ∷ (Pair 1 3 ∷ []) ∷ (Pair 2 3 ∷ []) ∷ (Pair 2 4 ∷ []) ∷ []
unfolding opened_jobs level_of level_after version_list test_list test_moves_at lists_of least_of fiber_of all_jobs jobs_at
jobs_opened = refl

abbrev journal : List Entry
journal = record { pass = 0; serial = 0; act = Stored (Generator 1) } ∷ record { pass = 1; serial = 0; act = Published 1 } ∷ []

-- one job stored and one version published: the state of version 1
first_version : Replays coins MOVE_LIMIT journal (just_opened coins 1)
unfolding opened_jobs level_of level_after version_list test_list test_moves_at lists_of least_of fiber_of all_jobs jobs_at
first_version =
    acts (record { pass = 0; serial = 0; act = Stored (Generator 1) } ∷ []) (record { number = 0; queue = []; full = false }) publishes
    (record { pass = 1; serial = 0; act = Published 1 }) (just_opened coins 1)
    (acts [] (just_opened coins 0) (stores (Generator 1)) (record { pass = 0; serial = 0; act = Stored (Generator 1) }) (record { number = 0; queue = []; full = false })
    opens refl ([], [], refl, refl))
    refl
    (3, record { opened = refl; resolved = refl; unmarked = refl }, lit≤ tt, refl)

-- the first grade has one job, x_1 and its column in artificials: the one end is above the other, which is least
abbrev remainders : List (Option (List ℕ × List ℕ))
remainders = Some (1 ∷ 0 ∷ 0 ∷ [], 0 ∷ 0 ∷ 3 ∷ []) ∷ []

are_remainders : AreRemainders coins [] (Generator 1 ∷ []) remainders
are_remainders = record { count = refl; each = left }
  where
    left : (k : ℕ) (j : Job) → k < 1 → IsRemainder coins [] (get_or (Generator 1 ∷ []) k j) (get_or remainders k None)
    left zero j l =
        differ (1 ∷ 0 ∷ 0 ∷ []) (0 ∷ 0 ∷ 3 ∷ []) (λ c. c) (record { steps = []; walk = ends (1 ∷ 0 ∷ 0 ∷ []) refl }) (record { steps = []; walk = ends (0 ∷ 0 ∷ 3 ∷ []) refl })
        (λ e. let first : 1 ≡ 0 = cons_head e in omega arith)
    left (suc k) j l = absurd (omega arith)

first_move : IsGroupMove coins (points_of remainders) (record { head = 0 ∷ 0 ∷ 3 ∷ []; tail = 1 ∷ 0 ∷ 0 ∷ [] })
first_move = record {
  head = (1, lit≤ tt, refl);
  tail = (0, lit≤ tt, refl);
  degree = refl;
  other = λ e. let first : 0 ≡ 1 = cons_head e in omega arith;
  least = λ p c d n.
      ⊎_elim (λ e. absurd (n (sym e)))
      (λ c. ⊎_elim (λ e. subst (IsBelow coins (1 ∷ 0 ∷ 0 ∷ [])) e refl) (λ c. absurd (Contains-nil p c)) (Contains-cons_cases (0 ∷ 0 ∷ 3 ∷ []) [] p c))
      (Contains-cons_cases (1 ∷ 0 ∷ 0 ∷ []) ((0 ∷ 0 ∷ 3 ∷ []) ∷ []) p c);
}

-- nothing is published while a job is out
not_yet : (t : CompletionState) → CompletionStep coins MOVE_LIMIT (just_opened coins 0) publishes t → ⊥
unfolding opened_jobs level_of level_after version_list test_list test_moves_at lists_of least_of fiber_of all_jobs jobs_at
not_yet t p = let none : Generator 1 ∷ [] ≡ [] = (p.1).resolved in absurd (cc)

-- and a limit of no move marks the first grade full
at_once : CompletionStep coins 0 (record { number = 0; queue = []; full = false }) marks_full (record { number = 0; queue = []; full = true })
unfolding opened_jobs level_of level_after version_list test_list test_moves_at lists_of least_of fiber_of all_jobs jobs_at
at_once = (3, record { opened = refl; resolved = refl; unmarked = refl }, lit≤ tt, refl)

-- the journal in job order up to version 8, which covers 15: each of the eight grades had one job
journal_to_eight : map (λ (e : Entry). e.act) (journal_to coins 8) ≡
    Stored (Generator 1) ∷ Published 1 ∷ Stored (Generator 2) ∷ Published 2 ∷ Stored (Pair 1 2) ∷ Published 3 ∷ Stored (Pair 1 3) ∷ Published 4 ∷
    Stored (Pair 2 3) ∷ Published 5 ∷ Stored (Pair 2 4) ∷ Published 6 ∷ Stored (Pair 1 4) ∷ Published 7 ∷ Stored (Pair 3 4) ∷ Published 8 ∷ []
unfolding opened_jobs level_of level_after version_list test_list test_moves_at lists_of least_of fiber_of all_jobs jobs_at
journal_to_eight = refl

serials_to_eight : map (λ (e : Entry). e.serial) (journal_to coins 8) ≡ indices 16
unfolding opened_jobs level_of level_after version_list test_list test_moves_at lists_of least_of fiber_of all_jobs jobs_at
serials_to_eight = refl

-- the test list of 15 tells what these versions open
whole_list_tells : map (λ k. least_above (last_opened coins k) (job_grades coins (test_list coins 15))) (indices 9) ≡
    map Some (3 ∷ 5 ∷ 6 ∷ 8 ∷ 10 ∷ 11 ∷ 12 ∷ 15 ∷ 16 ∷ [])
unfolding level_of level_after version_list test_list test_moves_at lists_of least_of fiber_of all_jobs
whole_list_tells = refl

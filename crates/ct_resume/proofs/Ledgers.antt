-- Reduced ledgers: what an accepted ledger knows of its moves, and what is made of a test list.
use Rattle.std.proofs.Common.{ℕ, ◌≡◌, ◌↔◌, List, map, length, Contains, sym, subst}
use Rattle.ct_instance.specs.declared.jobs.Job.{Job}
use Rattle.ct_instance.specs.Instance.{Problem, IsInstance}
use Rattle.ct_instance.specs.TestSet.{Binomial, IsTestList}
use Rattle.ct_instance.specs.Jobs.{job_grade_of}
use Rattle.ct_instance.specs.Reach.{first_version_from}
use Rattle.ct_levels.proofs.Counting.{grades_count}
use Rattle.ct_ledger.specs.Parts.{LedgerParts, IsLedger}
use Rattle.ct_checker.specs.Accepted.{moves_of, IsAccepted}
use Rattle.ct_checker.specs.Certified.{IsCertified}
use Rattle.ct_checker.proofs.Accepted.{ledger_moves, ledger_decides}
use Rattle.ct_resume.specs.Reduced.{IsReduced}
use Rattle.ct_resume.specs.Laws.{AreEntryGrades}
use Rattle.ct_resume.proofs.TestLists.{test_list_is_reduced, reduced_is_test_list}

pub accepted_is_test_list : (i : Problem) → IsInstance i → (l : LedgerParts) → IsLedger l → IsAccepted i l → IsTestList i l.grade (moves_of l) ↔ IsReduced i (moves_of l)
accepted_is_test_list i s l within a = (
  test_list_is_reduced i l.grade (moves_of l),
  reduced_is_test_list i s l.grade (moves_of l) (ledger_moves i s l within a) (λ k d h. (a.moves k d h).grade) (ledger_decides i s l within a),
)

pub certified_is_reduced : (i : Problem) → IsInstance i → (g : ℕ) (ms : List Binomial) → IsTestList i g ms → (l : LedgerParts) → IsCertified i ms g l → IsReduced i (moves_of l)
certified_is_reduced i s g ms t l c = subst (IsReduced i) (sym c.moves) (test_list_is_reduced i g ms t)

pub entries_count : (i : Problem) → IsInstance i → (l : LedgerParts) → IsLedger l → IsAccepted i l → IsReduced i (moves_of l) →
    (grades : List ℕ) → AreEntryGrades i l grades → length grades ≡ first_version_from i l.grade
entries_count i s l within a r grades e =
    grades_count i s l.grade (moves_of l) ((accepted_is_test_list i s l within a).1 r) grades
    (record {
      rising = e.rising;
      each = λ x. subst (λ (js : List Job). Contains grades x ↔ Contains (map (job_grade_of i (moves_of l)) js) x) a.jobs (e.each x);
    })

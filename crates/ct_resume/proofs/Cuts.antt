-- What an accepted and reduced ledger is resumed as, within a limit on the number of moves.
use Rattle.std.proofs.Common.{ℕ, ◌-◌, ◌≤◌, ◌<◌, ◌≡◌, ⊎_elim, None, Some, List, [], length, filter, refl, sym, subst, ap, ◌∙◌, arith, suc}
use Rattle.std.proofs.lemmas.Bool.{cases_lt}
use Rattle.ct_instance.specs.Instance.{Problem, IsInstance, grade_of}
use Rattle.ct_instance.specs.TestSet.{Binomial, test_list, IsTestList}
use Rattle.ct_instance.specs.Jobs.{the_move}
use Rattle.ct_instance.specs.Versions.{IsFullGrade}
use Rattle.ct_instance.specs.Reach.{full_grade_up_to}
use Rattle.ct_instance.proofs.TestList.{is_test_list, one_test_list, test_lists}
use Rattle.ct_walk.specs.Moves.{MoveList}
use Rattle.ct_walk.proofs.Openings.{empty_at_zero}
use Rattle.ct_levels.proofs.Full.{full_some, full_none}
use Rattle.ct_ledger.specs.Parts.{LedgerParts, IsLedger}
use Rattle.ct_checker.specs.Accepted.{moves_of, IsAccepted}
use Rattle.ct_checker.specs.Refusals.{first_refusal_of}
use Rattle.ct_checker.proofs.Refusals.{no_refusal}
use Rattle.ct_resume.specs.Reduced.{IsReduced, IsFirstUnreduced, first_unreduced_of}
use Rattle.ct_resume.specs.Resuming.{grade_before, is_under, IsResumed}
use Rattle.ct_resume.proofs.Cutting.{under_is_test_list, beyond_is_full}
use Rattle.ct_resume.proofs.Ledgers.{accepted_is_test_list}
use Rattle.ct_resume.proofs.Tests.{reduced_has_none, first_unreduced_is_found}

abbrev pub held : Problem → List Binomial → MoveList
held i ms = record { instance = i; moves = ms }

-- a full grade is at least 1: there is no move of the grade 0
some_full : (i : Problem) → IsInstance i → (limit f : ℕ) → IsFullGrade i limit f → 1 ≤ f
some_full i s limit f full =
    ⊎_elim (λ (none : f < 1).
    let zero : f ≡ 0 = omega (arith, none) in
    let empty : test_list i 0 ≡ [] = one_test_list i 0 (test_list i 0) [] (is_test_list i s 0) (empty_at_zero i s) in
    let many : limit < length (test_list i 0) = subst (λ (h : ℕ). limit < length (test_list i h)) zero full.more in
    let few : length (test_list i 0) ≡ 0 = ap (λ (ms : List Binomial). length ms) empty in
    absurd (omega (arith, many, few)))
    (λ (l : 1 ≤ f). l) (cases_lt f 1)

module _ (i : Problem) (s : IsInstance i) (l : LedgerParts) (is : IsLedger l) (m : MoveList) (are : m ≡ held i (moves_of l)) (none : first_refusal_of i l ≡ None) where
  accepted : IsAccepted i l
  accepted = (no_refusal i l).0 none

  pub found_unreduced : (k : ℕ) → first_unreduced_of m.instance m.moves ≡ Some k → IsAccepted i l × IsFirstUnreduced i (moves_of l) k
  found_unreduced k found =
      (accepted, subst (λ (x : MoveList). IsFirstUnreduced x.instance x.moves k) are ((first_unreduced_is_found m.instance m.moves k).0 found))

  module _ (found : first_unreduced_of m.instance m.moves ≡ None) (limit : ℕ) where
    reduced : IsReduced i (moves_of l)
    reduced = subst (λ (x : MoveList). IsReduced x.instance x.moves) are ((reduced_has_none m.instance m.moves).0 found)

    whole : IsTestList i l.grade (moves_of l)
    whole = (accepted_is_test_list i s l is accepted).1 reduced

    whole_list : moves_of l ≡ test_list i l.grade
    whole_list = one_test_list i l.grade (moves_of l) (test_list i l.grade) whole (is_test_list i s l.grade)

    pub resumed_whole : (grade : ℕ) → grade ≡ l.grade → length m.moves ≤ limit → IsResumed i l limit (record { moves = m; grade = grade })
    resumed_whole grade own few =
        let kept : length (moves_of l) ≤ limit = subst (λ (x : MoveList). length x.moves ≤ limit) are few in
        let short : length (test_list i l.grade) ≤ limit = subst (λ (ms : List Binomial). length ms ≤ limit) whole_list kept in
        record {
          accepted = accepted;
          reduced = reduced;
          grade = own ∙ sym (ap (grade_before l.grade) ((full_none i limit l.grade).1 short));
          instance = ap (λ (x : MoveList). x.instance) are;
          list = ap (λ (x : MoveList). x.moves) are ∙ whole_list ∙ ap (test_list i) (sym own);
          most = few;
        }

    module _ (long : limit < length m.moves) (f : ℕ) (at : f ≡ grade_of i.columns (the_move m.moves (suc limit)).head) where
      beyond : limit < length (test_list i l.grade)
      beyond = subst (λ (ms : List Binomial). limit < length ms) whole_list (subst (λ (x : MoveList). limit < length x.moves) are long)

      first : IsFullGrade i limit f × (f ≤ l.grade)
      first =
          let same : f ≡ grade_of i.columns (the_move (test_list i l.grade) (suc limit)).head =
          at ∙ ap (λ (ms : List Binomial). grade_of i.columns (the_move ms (suc limit)).head) (ap (λ (x : MoveList). x.moves) are ∙ whole_list) in
          subst (λ (h : ℕ). IsFullGrade i limit h × (h ≤ l.grade)) (sym same) (beyond_is_full i s limit l.grade beyond)

      pub some_beyond : 1 ≤ f
      some_beyond = some_full i s limit f first.0

      pub resumed_cut : (n : MoveList) → n ≡ held i (filter (is_under i f) m.moves) → IsResumed i l limit (record { moves = n; grade = f - 1 })
      resumed_cut n cut =
          let under : n ≡ held i (filter (is_under i f) (moves_of l)) = cut ∙ ap (λ (x : MoveList). held i (filter (is_under i f) x.moves)) are in
          let list : filter (is_under i f) (moves_of l) ≡ test_list i (f - 1) =
          one_test_list i (f - 1) (filter (is_under i f) (moves_of l)) (test_list i (f - 1)) (under_is_test_list i l.grade f (moves_of l) whole some_beyond first.1) (is_test_list i s (f - 1)) in
          let all : n.moves ≡ test_list i (f - 1) = ap (λ (x : MoveList). x.moves) under ∙ list in
          let some : 1 ≤ f = some_beyond in
          record {
            accepted = accepted;
            reduced = reduced;
            grade = sym (ap (grade_before l.grade) ((full_some i limit l.grade f).1 first));
            instance = ap (λ (x : MoveList). x.instance) under;
            list = all;
            most = subst (λ (ms : List Binomial). length ms ≤ limit) (sym all) ((first.0).first (f - 1) (omega (arith, some)));
          }

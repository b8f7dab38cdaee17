-- The moves of a test list by their numbers.
use Rattle.std.proofs.Common.{ℕ, ◌≤◌, ◌<◌, List, [], length, sym, subst₂, arith, zero, suc}
use Rattle.std.proofs.lemmas.Option.{unwrap_or-slice_get}
use Rattle.ct_instance.specs.Instance.{Problem, grade_of}
use Rattle.ct_instance.specs.TestSet.{Binomial, IsTestMove, ComesBefore, IsTestList}
use Rattle.ct_instance.specs.Jobs.{the_move}
use Rattle.ct_instance.proofs.TestList.{move_is_sound}
use Rattle.ct_walk.proofs.Ends.{the_move_at}
use Rattle.ct_walk.proofs.Steps.{move_at_listed}

-- the move with a number of the list is one of its test moves
pub the_test_move : (i : Problem) (g : ℕ) (ms : List Binomial) → IsTestList i g ms → (k : ℕ) → 1 ≤ k → k ≤ length ms →
    IsTestMove i (the_move ms k) × (grade_of i.columns (the_move ms k).head ≤ g)
the_test_move i g ms t k a b = move_is_sound i g ms t (the_move ms k) (move_at_listed ms k (the_move ms k) (the_move_at ms k a b))

-- the head with a smaller number comes before
pub heads_in_turn : (i : Problem) (g : ℕ) (ms : List Binomial) → IsTestList i g ms → (a b : ℕ) → 1 ≤ a → a < b → b ≤ length ms →
    ComesBefore i (the_move ms a).head (the_move ms b).head
heads_in_turn i g ms t zero b one l h = absurd (omega arith)
heads_in_turn i g ms t (suc a) zero one l h = absurd (omega arith)
heads_in_turn i g ms t (suc a) (suc b) one l h =
    let none : Binomial = record { head = []; tail = [] } in
    subst₂ (λ (m n : Binomial). ComesBefore i m.head n.head) (sym (unwrap_or-slice_get ms a none)) (sym (unwrap_or-slice_get ms b none))
    (t.ordered a b none (omega arith) (omega arith))

-- The definitions on worked examples, by computation: two coins of 3 and 5 at cost 2 and 3, and a tie.
use Rattle.std.proofs.Common.{Bool, false, filter, take, length, ap, ◌++◌, length-append, ℕ, Some, None, pos, nat_abs, ◌≤◌, ◌≡◌, List, [], ◌∷◌, map, refl, arith, lit≤}
use Rattle.std.proofs.lemmas.List.Elements.{All-from_recursion}
use Rattle.ct_vectors.specs.declared.limits.TheConstants.{ENTRY_LIMIT, COST_LIMIT}
use Rattle.ct_vectors.specs.Vectors.{disjoint}
use Rattle.ct_order.specs.Costs.{IsCostRow}
use Rattle.ct_instance.specs.declared.jobs.Job.{Job}
use Rattle.ct_instance.specs.declared.jobs.Job.TheVariants.{Generator, Pair}
use Rattle.ct_instance.specs.Instance.{grade_of, Problem, IsColumn, IsInstance}
use Rattle.ct_instance.specs.Fiber.{fiber_of, least_of}
use Rattle.ct_instance.specs.Answer.{optimum, infeasible, answer_of}
use Rattle.ct_instance.specs.TestSet.{Binomial, lists_of, test_moves_at, test_list}
use Rattle.ct_instance.specs.Jobs.{the_move, all_jobs, job_grade_of, jobs_at, jobs_up_to}
use Rattle.ct_instance.specs.Versions.{upto, everything, level_after, level_of, version_list, IsFullGrade}
use Rattle.ct_instance.proofs.TestList.{test_lists_grow}
use Rattle.ct_instance.specs.Reach.{opened_grade, last_opened, first_version_from, full_grade_up_to, reach_of}

abbrev coins : Problem
coins = record { rows = 1; columns = (3 ∷ []) ∷ (5 ∷ []) ∷ []; cost_rows = (pos 2 ∷ pos 3 ∷ []) ∷ [] }

abbrev tie : Problem
tie = record { rows = 1; columns = (1 ∷ []) ∷ (1 ∷ []) ∷ []; cost_rows = (pos 1 ∷ pos 1 ∷ []) ∷ [] }

least_seven : least_of coins (7 ∷ []) ≡ 2 ∷ 0 ∷ 1 ∷ []
unfolding least_of fiber_of
least_seven = refl

answer_seven : answer_of coins (7 ∷ []) ≡ infeasible 1
unfolding least_of fiber_of
answer_seven = refl

answer_eight : answer_of coins (8 ∷ []) ≡ optimum (1 ∷ 1 ∷ []) (pos 5 ∷ [])
unfolding least_of fiber_of
answer_eight = refl

answer_ten : answer_of coins (10 ∷ []) ≡ optimum (0 ∷ 2 ∷ []) (pos 6 ∷ [])
unfolding least_of fiber_of
answer_ten = refl

answer_fifteen : answer_of coins (15 ∷ []) ≡ optimum (0 ∷ 3 ∷ []) (pos 9 ∷ [])
unfolding least_of fiber_of
answer_fifteen = refl

tie_three : answer_of tie (3 ∷ []) ≡ optimum (0 ∷ 3 ∷ []) (pos 3 ∷ [])
unfolding least_of fiber_of
tie_three = refl

abbrev move_of : List ℕ → List ℕ → Binomial
move_of h t = record { head = h; tail = t }

abbrev five_moves : List Binomial
five_moves =
    move_of (0 ∷ 0 ∷ 3 ∷ []) (1 ∷ 0 ∷ 0 ∷ []) ∷ move_of (1 ∷ 0 ∷ 2 ∷ []) (0 ∷ 1 ∷ 0 ∷ []) ∷
    move_of (0 ∷ 1 ∷ 1 ∷ []) (2 ∷ 0 ∷ 0 ∷ []) ∷ move_of (3 ∷ 0 ∷ 1 ∷ []) (0 ∷ 2 ∷ 0 ∷ []) ∷
    move_of (5 ∷ 0 ∷ 0 ∷ []) (0 ∷ 3 ∷ 0 ∷ []) ∷ []

moves_to_fifteen : test_list coins 15 ≡ five_moves
unfolding test_list test_moves_at lists_of least_of fiber_of
moves_to_fifteen = refl

jobs_of_five : all_jobs coins five_moves ≡
    Generator 1 ∷ Generator 2 ∷ Pair 1 2 ∷ Pair 1 3 ∷ Pair 1 4 ∷ Pair 1 5 ∷ Pair 2 3 ∷ Pair 2 4 ∷ Pair 2 5 ∷ Pair 3 4 ∷ Pair 3 5 ∷ Pair 4 5 ∷ []
unfolding all_jobs
jobs_of_five = refl

grades_of_five : map (job_grade_of coins five_moves) (all_jobs coins five_moves) ≡
    3 ∷ 5 ∷ 6 ∷ 8 ∷ 12 ∷ 18 ∷ 10 ∷ 11 ∷ 17 ∷ 15 ∷ 21 ∷ 16 ∷ []
unfolding all_jobs
grades_of_five = refl

jobs_of_grade_ten : jobs_at coins five_moves 10 ≡ Pair 2 3 ∷ []
unfolding jobs_at all_jobs
jobs_of_grade_ten = refl

move_grades : map (λ m. grade_of coins.columns m.head) five_moves ≡ 3 ∷ 5 ∷ 6 ∷ 10 ∷ 15 ∷ []
move_grades = refl

-- whether it is a pair whose heads share no variable
abbrev shares_none : Job → Bool
shares_none (Generator j) = false
shares_none (Pair a b) = disjoint (the_move five_moves a).head (the_move five_moves b).head

coprime_pairs : filter shares_none (all_jobs coins five_moves) ≡ Pair 1 5 ∷ Pair 3 5 ∷ []
unfolding all_jobs
coprime_pairs = refl

jobs_by_grade : jobs_up_to coins five_moves 11 ≡ Generator 1 ∷ Generator 2 ∷ Pair 1 2 ∷ Pair 1 3 ∷ Pair 2 3 ∷ Pair 2 4 ∷ []
unfolding jobs_up_to jobs_at all_jobs
jobs_by_grade = refl

levels : map (level_of coins) (0 ∷ 1 ∷ 2 ∷ 3 ∷ 4 ∷ 5 ∷ 6 ∷ 7 ∷ 8 ∷ 9 ∷ 10 ∷ 11 ∷ 12 ∷ []) ≡
    upto 2 ∷ upto 4 ∷ upto 5 ∷ upto 7 ∷ upto 9 ∷ upto 10 ∷ upto 11 ∷ upto 14 ∷ upto 15 ∷ upto 16 ∷ upto 17 ∷ upto 20 ∷ everything ∷ []
unfolding level_of level_after test_list test_moves_at lists_of least_of fiber_of all_jobs
levels = refl

list_of_four : version_list coins 4 ≡ take 3 five_moves
unfolding version_list level_of level_after test_list test_moves_at lists_of least_of fiber_of all_jobs
list_of_four = refl

five_has_two : length (test_list coins 5) ≡ 2
unfolding test_list test_moves_at lists_of least_of fiber_of
five_has_two = refl

six_has_three : length (test_list coins 6) ≡ 3
unfolding test_list test_moves_at lists_of least_of fiber_of
six_has_three = refl

-- a limit of two moves is first exceeded by the test list of 6
full_grade_of_two : IsFullGrade coins 2 6
full_grade_of_two = record {
  more = omega (arith, six_has_three);
  first = λ h l.
      let t = test_lists_grow coins h 5 (omega arith) in
      let e : length (test_list coins 5) ≡ length (test_list coins h ++ t.0) = ap length t.1 in
      omega (arith, length-append (test_list coins h) t.0, five_has_two);
}

-- the first version for the grades 2, 3 and 5, and how far a limit of two moves lets them come
first_versions : map (first_version_from coins) (2 ∷ 3 ∷ 5 ∷ 8 ∷ []) ≡ 0 ∷ 1 ∷ 2 ∷ 4 ∷ []
unfolding first_version_from level_of level_after test_list test_moves_at lists_of least_of fiber_of all_jobs
first_versions = refl

opened : map (opened_grade coins) (0 ∷ 3 ∷ 12 ∷ []) ≡ Some 3 ∷ Some 8 ∷ None ∷ []
unfolding level_of level_after test_list test_moves_at lists_of least_of fiber_of all_jobs
opened = refl

opened_last : map (last_opened coins) (0 ∷ 1 ∷ 4 ∷ []) ≡ 0 ∷ 3 ∷ 8 ∷ []
unfolding level_of level_after test_list test_moves_at lists_of least_of fiber_of all_jobs
opened_last = refl

full_of_two : map (full_grade_up_to coins 2) (5 ∷ 6 ∷ 9 ∷ []) ≡ None ∷ Some 6 ∷ Some 6 ∷ []
unfolding full_grade_up_to test_list test_moves_at lists_of least_of fiber_of
full_of_two = refl

reach_with_two : map (reach_of coins 2) (0 ∷ 3 ∷ 5 ∷ 6 ∷ 9 ∷ []) ≡ upto 2 ∷ upto 4 ∷ upto 5 ∷ upto 5 ∷ upto 5 ∷ []
unfolding reach_of full_grade_up_to first_version_from level_of level_after test_list test_moves_at lists_of least_of fiber_of all_jobs
reach_with_two = refl

-- the premises of the laws are met
coins_is_instance : IsInstance coins
coins_is_instance = record {
  some_row = lit≤ tt;
  row_limit = lit≤ tt;
  some_column = lit≤ tt;
  column_limit = lit≤ tt;
  is_column = All-from_recursion (IsColumn 1) coins.columns (column 3 (lit≤ tt) (lit≤ tt), (column 5 (lit≤ tt) (lit≤ tt), tt));
  some_cost_row = lit≤ tt;
  cost_row_limit = lit≤ tt;
  is_cost_row = All-from_recursion (IsCostRow 2) coins.cost_rows
      (record { entries = refl; limit = All-from_recursion (λ c. nat_abs c ≤ COST_LIMIT) (pos 2 ∷ pos 3 ∷ []) (lit≤ tt, (lit≤ tt, tt)) }, tt);
}
  where
    column : (a : ℕ) → a ≤ ENTRY_LIMIT → 1 ≤ a → IsColumn 1 (a ∷ [])
    column a l k = record { entries = refl; limit = All-from_recursion (λ c. c ≤ ENTRY_LIMIT) (a ∷ []) (l, tt); positive = omega arith }

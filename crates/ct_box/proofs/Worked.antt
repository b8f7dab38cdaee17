-- The definitions on worked examples, by computation.
use Rattle.std.proofs.Common.{ℕ, pos, ◌≡◌, Some, None, List, [], ◌∷◌, refl}
use Rattle.ct_instance.specs.declared.jobs.Job.TheVariants.{Generator}
use Rattle.ct_instance.specs.Instance.{Problem, start_of}
use Rattle.ct_instance.specs.Fiber.{fiber_of, least_of}
use Rattle.ct_instance.specs.TestSet.{Binomial, lists_of, test_moves_at, test_list}
use Rattle.ct_instance.specs.Walk.{first_dividing}
use Rattle.ct_instance.specs.Jobs.{all_jobs, jobs_at}
use Rattle.ct_instance.specs.Reach.{full_grade_up_to}
use Rattle.ct_box.specs.Box.{box_list, box_list_to, box_jobs_at, box_full_grade}

abbrev move_of : List ℕ → List ℕ → Binomial
move_of h t = record { head = h; tail = t }

-- ---- two rows; the second column serves both, in place of the first and the third

abbrev shared : Problem
shared = record { rows = 2; columns = (1 ∷ 0 ∷ []) ∷ (1 ∷ 1 ∷ []) ∷ (0 ∷ 1 ∷ []) ∷ []; cost_rows = (pos 1 ∷ pos 1 ∷ pos 1 ∷ []) ∷ [] }

abbrev first_row : Binomial
first_row = move_of (0 ∷ 0 ∷ 0 ∷ 1 ∷ 0 ∷ []) (1 ∷ 0 ∷ 0 ∷ 0 ∷ 0 ∷ [])

abbrev second_row : Binomial
second_row = move_of (0 ∷ 0 ∷ 0 ∷ 0 ∷ 1 ∷ []) (0 ∷ 0 ∷ 1 ∷ 0 ∷ 0 ∷ [])

abbrev both_rows : Binomial
both_rows = move_of (1 ∷ 0 ∷ 1 ∷ 0 ∷ 0 ∷ []) (0 ∷ 1 ∷ 0 ∷ 0 ∷ 0 ∷ [])

-- the box of (2, 0) has one move, where the test list of its sum has three
moves_of_two : test_list shared 2 ≡ second_row ∷ first_row ∷ both_rows ∷ []
unfolding test_list test_moves_at lists_of least_of fiber_of
moves_of_two = refl

box_of_first : box_list shared (2 ∷ 0 ∷ []) ≡ first_row ∷ []
unfolding box_list test_list test_moves_at lists_of least_of fiber_of
box_of_first = refl

box_of_both : box_list shared (1 ∷ 1 ∷ []) ≡ second_row ∷ first_row ∷ both_rows ∷ []
unfolding box_list test_list test_moves_at lists_of least_of fiber_of
box_of_both = refl

-- so the one step of the walk of (0, 2, 0) has the number 1 in the box and 2 in the test list
number_in_box : first_dividing (box_list shared (2 ∷ 0 ∷ [])) (start_of shared (2 ∷ 0 ∷ [])) ≡ Some 1
unfolding box_list test_list test_moves_at lists_of least_of fiber_of
number_in_box = refl

number_in_list : first_dividing (test_list shared 2) (start_of shared (2 ∷ 0 ∷ [])) ≡ Some 2
unfolding test_list test_moves_at lists_of least_of fiber_of
number_in_list = refl

-- and a limit of one move holds the box, where the test list is full at grade 1
not_full : box_full_grade shared (2 ∷ 0 ∷ []) 1 ≡ None
unfolding box_full_grade box_list_to box_list test_list test_moves_at lists_of least_of fiber_of
not_full = refl

list_is_full : full_grade_up_to shared 1 2 ≡ Some 1
unfolding full_grade_up_to test_list test_moves_at lists_of least_of fiber_of
list_is_full = refl

-- with two moves the box of (1, 1) is full at its sum, with one already at grade 1
full_at_sum : box_full_grade shared (1 ∷ 1 ∷ []) 2 ≡ Some 2
unfolding box_full_grade box_list_to box_list test_list test_moves_at lists_of least_of fiber_of
full_at_sum = refl

full_before : box_full_grade shared (1 ∷ 1 ∷ []) 1 ≡ Some 1
unfolding box_full_grade box_list_to box_list test_list test_moves_at lists_of least_of fiber_of
full_before = refl

-- of the jobs of grade 1 within (2, 0) one is left, and none of grade 2 between the moves that the test list has beside
jobs_within : box_jobs_at shared (2 ∷ 0 ∷ []) [] 1 ≡ Generator 1 ∷ []
unfolding box_jobs_at jobs_at all_jobs
jobs_within = refl

jobs_of_one : jobs_at shared [] 1 ≡ Generator 1 ∷ Generator 3 ∷ []
unfolding jobs_at all_jobs
jobs_of_one = refl

pairs_within : box_jobs_at shared (2 ∷ 0 ∷ []) (second_row ∷ first_row ∷ []) 2 ≡ []
unfolding box_jobs_at jobs_at all_jobs
pairs_within = refl

-- ---- one row: the box is the test list of its bound

abbrev coins : Problem
coins = record { rows = 1; columns = (3 ∷ []) ∷ (5 ∷ []) ∷ []; cost_rows = (pos 2 ∷ pos 3 ∷ []) ∷ [] }

box_of_ten : box_list coins (10 ∷ []) ≡ test_list coins 10
unfolding box_list test_list test_moves_at lists_of least_of fiber_of
box_of_ten = refl

up_to_five : box_list_to coins (10 ∷ []) 5 ≡ move_of (0 ∷ 0 ∷ 3 ∷ []) (1 ∷ 0 ∷ 0 ∷ []) ∷ move_of (1 ∷ 0 ∷ 2 ∷ []) (0 ∷ 1 ∷ 0 ∷ []) ∷ []
unfolding box_list_to box_list test_list test_moves_at lists_of least_of fiber_of
up_to_five = refl

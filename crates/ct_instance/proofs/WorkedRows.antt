-- The definitions on instances of two rows of costs, by computation, and more of the two coins of 3 and 5.
use Rattle.std.proofs.Common.{ℕ, pos, ◌≡◌, Bool, true, false, List, [], ◌∷◌, map, refl}
use Rattle.ct_vectors.specs.Vectors.{disjoint}
use Rattle.ct_instance.specs.declared.jobs.Job.{Job}
use Rattle.ct_instance.specs.declared.jobs.Job.TheVariants.{Generator, Pair}
use Rattle.ct_instance.specs.Instance.{Problem, grade_of}
use Rattle.ct_instance.specs.Fiber.{fiber_of, least_of}
use Rattle.ct_instance.specs.Answer.{optimum, answer_of}
use Rattle.ct_instance.specs.TestSet.{Binomial, lists_of, test_moves_at, test_list}
use Rattle.ct_instance.specs.Jobs.{all_jobs, the_move}
use Rattle.ct_instance.specs.Versions.{level_after, level_of, version_list}

-- two columns that the first row doesn't tell apart, and the second does
abbrev tied : Problem
tied = record { rows = 1; columns = (1 ∷ []) ∷ (1 ∷ []) ∷ []; cost_rows = (pos 1 ∷ pos 1 ∷ []) ∷ (pos 0 ∷ pos 1 ∷ []) ∷ [] }

tied_three : answer_of tied (3 ∷ []) ≡ optimum (3 ∷ 0 ∷ []) (pos 3 ∷ pos 0 ∷ [])
unfolding least_of fiber_of
tied_three = refl

abbrev move_of : List ℕ → List ℕ → Binomial
move_of h t = record { head = h; tail = t }

tied_moves : test_list tied 1 ≡ move_of (0 ∷ 0 ∷ 1 ∷ []) (1 ∷ 0 ∷ 0 ∷ []) ∷ move_of (0 ∷ 1 ∷ 0 ∷ []) (1 ∷ 0 ∷ 0 ∷ []) ∷ []
unfolding test_list test_moves_at lists_of least_of fiber_of
tied_moves = refl

-- coins whose first row is all 0, so that the second decides
abbrev coins_below : Problem
coins_below = record { rows = 1; columns = (3 ∷ []) ∷ (5 ∷ []) ∷ []; cost_rows = (pos 0 ∷ pos 0 ∷ []) ∷ (pos 2 ∷ pos 3 ∷ []) ∷ [] }

coins_below_fifteen : answer_of coins_below (15 ∷ []) ≡ optimum (0 ∷ 3 ∷ []) (pos 0 ∷ pos 9 ∷ [])
unfolding least_of fiber_of
coins_below_fifteen = refl

-- ---- the coins with one row of costs

abbrev coins : Problem
coins = record { rows = 1; columns = (3 ∷ []) ∷ (5 ∷ []) ∷ []; cost_rows = (pos 2 ∷ pos 3 ∷ []) ∷ [] }

grades_of_moves : map (λ m. grade_of coins.columns m.head) (test_list coins 15) ≡ 3 ∷ 5 ∷ 6 ∷ 10 ∷ 15 ∷ []
unfolding test_list test_moves_at lists_of least_of fiber_of
grades_of_moves = refl

third_version : version_list coins 3 ≡
    move_of (0 ∷ 0 ∷ 3 ∷ []) (1 ∷ 0 ∷ 0 ∷ []) ∷ move_of (1 ∷ 0 ∷ 2 ∷ []) (0 ∷ 1 ∷ 0 ∷ []) ∷ move_of (0 ∷ 1 ∷ 1 ∷ []) (2 ∷ 0 ∷ 0 ∷ []) ∷ []
unfolding version_list level_of level_after test_list test_moves_at lists_of least_of fiber_of all_jobs
third_version = refl

-- the pairs of five moves whose heads share no variable
abbrev shares_nothing : List Binomial → Job → Bool
shares_nothing ms (Generator j) = false
shares_nothing ms (Pair a b) = disjoint (the_move ms a).head (the_move ms b).head

coprime_pairs : map (shares_nothing (test_list coins 15)) (all_jobs coins (test_list coins 15)) ≡
    false ∷ false ∷ false ∷ false ∷ false ∷ true ∷ false ∷ false ∷ false ∷ false ∷ true ∷ false ∷ []
unfolding all_jobs test_list test_moves_at lists_of least_of fiber_of
coprime_pairs = refl

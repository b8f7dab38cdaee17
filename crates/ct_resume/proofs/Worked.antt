-- The test on a worked example, by computation: two coins of 3 and 5 at cost 2 and 3.
use Rattle.std.proofs.Common.{◌≡◌, Some, None, [], ◌∷◌, length, refl}
use Rattle.ct_instance.specs.Fiber.{fiber_of, least_of}
use Rattle.ct_instance.specs.TestSet.{Binomial, lists_of, test_moves_at, test_list}
use Rattle.ct_checker.specs.Coins.{coins}
use Rattle.ct_resume.specs.Reduced.{first_unreduced_of}

-- the test list of 15 has five moves and is reduced
five_moves : length (test_list coins 15) ≡ 5
unfolding test_list test_moves_at lists_of least_of fiber_of
five_moves = refl

test_list_of_coins : first_unreduced_of coins (test_list coins 15) ≡ None
unfolding first_unreduced_of test_list test_moves_at lists_of least_of fiber_of
test_list_of_coins = refl

-- three coins of 1 become one of 3; four become one of 3 and one of 1, whose head the first head divides
abbrev three : Binomial
three = record { head = 0 ∷ 0 ∷ 3 ∷ []; tail = 1 ∷ 0 ∷ 0 ∷ [] }

abbrev four : Binomial
four = record { head = 0 ∷ 0 ∷ 4 ∷ []; tail = 1 ∷ 0 ∷ 1 ∷ [] }

second_is_divided : first_unreduced_of coins (three ∷ four ∷ []) ≡ Some 2
unfolding first_unreduced_of
second_is_divided = refl

-- a later head counts as well as an earlier one
first_is_divided : first_unreduced_of coins (four ∷ three ∷ []) ≡ Some 1
unfolding first_unreduced_of
first_is_divided = refl

-- a head divides a tail, and two heads stand out of order
tail_is_divided : first_unreduced_of coins (three ∷ record { head = 0 ∷ 1 ∷ 1 ∷ []; tail = 1 ∷ 0 ∷ 3 ∷ [] } ∷ []) ≡ Some 2
unfolding first_unreduced_of
tail_is_divided = refl

out_of_order : first_unreduced_of coins (record { head = 0 ∷ 1 ∷ 1 ∷ []; tail = 2 ∷ 0 ∷ 0 ∷ [] } ∷ three ∷ []) ≡ Some 2
unfolding first_unreduced_of
out_of_order = refl

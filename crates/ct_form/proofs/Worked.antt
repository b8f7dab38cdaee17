-- The definitions on worked forms, by computation: a bounded knapsack, a bound that is too low, and a zero column with a bound.
use Rattle.std.proofs.Common.{pos, negsuc, ◌≡◌, [], ◌∷◌, Some, None, refl}
use Rattle.ct_instance.specs.Fiber.{fiber_of, least_of}
use Rattle.ct_instance.specs.Answer.{optimum, infeasible}
use Rattle.ct_form.specs.declared.relation.Relation.TheVariants.{Eq, Le}
use Rattle.ct_form.specs.Forms.{Form}
use Rattle.ct_form.specs.EqualityForms.{equal_of, right_for, form_answer_of}

-- 3 x + 5 y at most b, x at most 2, at cost -2 and -3
abbrev knapsack : Form
knapsack = record {
  rows = 1;
  columns = (3 ∷ []) ∷ (5 ∷ []) ∷ [];
  cost_rows = (negsuc 1 ∷ negsuc 2 ∷ []) ∷ [];
  relations = Le ∷ [];
  bounds = Some 2 ∷ None ∷ [];
}

equality_form : equal_of knapsack ≡ record {
  rows = 2;
  columns = (3 ∷ 1 ∷ []) ∷ (5 ∷ 0 ∷ []) ∷ (1 ∷ 0 ∷ []) ∷ (0 ∷ 1 ∷ []) ∷ [];
  cost_rows = (negsuc 1 ∷ negsuc 2 ∷ pos 0 ∷ pos 0 ∷ []) ∷ [];
}
equality_form = refl

right_eleven : right_for knapsack (11 ∷ []) ≡ 11 ∷ 2 ∷ []
right_eleven = refl

answer_eleven : form_answer_of knapsack (11 ∷ []) ≡ optimum (2 ∷ 1 ∷ []) (negsuc 6 ∷ [])
unfolding least_of fiber_of
answer_eleven = refl

-- 2 x equal to b, x at most 1
abbrev pair : Form
pair = record { rows = 1; columns = (2 ∷ []) ∷ []; cost_rows = (pos 1 ∷ []) ∷ []; relations = Eq ∷ []; bounds = Some 1 ∷ [] }

answer_four : form_answer_of pair (4 ∷ []) ≡ infeasible 2
unfolding least_of fiber_of
answer_four = refl

-- 0 x equal to b, x at most 3, at cost -1
abbrev free : Form
free = record { rows = 1; columns = (0 ∷ []) ∷ []; cost_rows = (negsuc 0 ∷ []) ∷ []; relations = Eq ∷ []; bounds = Some 3 ∷ [] }

answer_none : form_answer_of free (0 ∷ []) ≡ optimum (3 ∷ []) (negsuc 2 ∷ [])
unfolding least_of fiber_of
answer_none = refl

-- The k least solutions of a form for one right-hand side.
use Rattle.std.specs.Prelude.{ℕ, ◌≤◌, ◌≡◌, List, length, All, AllPairs, Contains}
use Rattle.std.specs.declared.cmp.Ordering.TheVariants.{Less}
use Rattle.ct_order.specs.Order.{cost_order}
use Rattle.ct_form.specs.Forms.{Form, IsFormSolution}

-- x is below z by the costs in turn and then by the first number that differs
abbrev pub IsFormSmaller : Form → List ℕ → List ℕ → Type 0
IsFormSmaller f x z = cost_order f.cost_rows x z ≡ Less

-- xs are solutions for b, each smaller than those after it, at most k; where some solution isn't one of them, they are k,
-- and each of them is smaller than it
pub record AreFormBest (f : Form) (k : ℕ) (b : List ℕ) (xs : List (List ℕ)) : Type 0 where
  pub solutions : All (IsFormSolution f b) xs
  pub ordered : AllPairs (IsFormSmaller f) xs
  pub most : length xs ≤ k
  pub left : (z : List ℕ) → IsFormSolution f b z → (Contains xs z → ⊥) → (length xs ≡ k) × All (λ x. IsFormSmaller f x z) xs

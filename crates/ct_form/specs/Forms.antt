-- A form: an integer program whose rows may be at most their right-hand side, and whose variables may have a bound.
use Rattle.std.specs.Prelude.{ℕ, ℤ, ◌≤◌, ◌≡◌, List, [], ◌∷◌, length, map, Option, Some, None}
use Rattle.ct_order.specs.Order.{cost_of}
use Rattle.ct_instance.specs.Answer.{weighted_sum}
use Rattle.ct_form.specs.declared.relation.Relation.{Relation}
use Rattle.ct_form.specs.declared.relation.Relation.TheVariants.{Eq, Le}

-- m, the columns of A (a list of m numbers each), the rows of costs, for each row its relation, for each column its bound
pub record Form : Type 0 where
  pub rows : ℕ
  pub columns : List (List ℕ)
  pub cost_rows : List (List ℤ)
  pub relations : List Relation
  pub bounds : List (Option ℕ)

-- the bounds that there are, in column order
abbrev pub given_in : List (Option ℕ) → List ℕ
given_in [] = []
given_in (None ∷ us) = given_in us
given_in (Some u ∷ us) = u ∷ given_in us

-- each sum stands to its right-hand side as its row says
abbrev pub AreHeld : List Relation → List ℕ → List ℕ → Type 0
AreHeld [] [] [] = Unit {0}
AreHeld (Eq ∷ rs) (a ∷ sums) (b ∷ right) = (a ≡ b) × AreHeld rs sums right
AreHeld (Le ∷ rs) (a ∷ sums) (b ∷ right) = (a ≤ b) × AreHeld rs sums right
AreHeld [] [] (b ∷ right) = ⊥
AreHeld [] (a ∷ sums) right = ⊥
AreHeld (r ∷ rs) [] right = ⊥
AreHeld (r ∷ rs) (a ∷ sums) [] = ⊥

-- each number is at most its bound, where there is one
abbrev pub AreBounded : List (Option ℕ) → List ℕ → Type 0
AreBounded [] [] = Unit {0}
AreBounded [] (x ∷ xs) = ⊥
AreBounded (u ∷ us) [] = ⊥
AreBounded (None ∷ us) (x ∷ xs) = AreBounded us xs
AreBounded (Some u ∷ us) (x ∷ xs) = (x ≤ u) × AreBounded us xs

-- x is a list of n natural numbers within the bounds, and each row of A x stands to b as it should
pub record IsFormSolution (f : Form) (b x : List ℕ) : Type 0 where
  pub numbers : length x ≡ length f.columns
  pub rows : AreHeld f.relations (weighted_sum f.rows f.columns x) b
  pub bounds : AreBounded f.bounds x

-- the cost of x by each row of costs
abbrev pub form_costs_of : Form → List ℕ → List ℤ
form_costs_of f x = map (λ row. cost_of row x) f.cost_rows

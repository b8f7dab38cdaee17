-- What holds of forms and their equality forms. Each statement is the contract of a function in the module `laws`.
use Rattle.std.specs.Prelude.{ℕ, ℤ, ◌≡◌, ◌↔◌, List, length, take, map, nat_eq, position}
use Rattle.std.specs.declared.cmp.Ordering.TheVariants.{Less}
use Rattle.ct_vectors.specs.Vectors.{total}
use Rattle.ct_order.specs.Order.{cost_order}
use Rattle.ct_instance.specs.Instance.{Problem, IsInstance}
use Rattle.ct_instance.specs.Answer.{IsSolution, optimum, infeasible}
use Rattle.ct_form.specs.Forms.{Form, IsFormSolution, form_costs_of}
use Rattle.ct_form.specs.EqualityForms.{equal_columns, equal_of, right_for, form_answer_of, IsForm, plain_form}
use Rattle.ct_form.specs.Kept.{form_in, free_zero_of}

-- ---- solutions

-- each solution of the equality form begins with a solution of the form
abbrev pub SolutionsAreCut : Type 0
SolutionsAreCut =
    (f : Form) → IsForm f → (b : List ℕ) → length b ≡ f.rows → (z : List ℕ) →
    IsSolution (equal_of f) (right_for f b) z → IsFormSolution f b (take (length f.columns) z)

-- z is the only solution of the equality form that begins with x
pub record IsExtension (f : Form) (b x z : List ℕ) : Type 0 where
  pub solution : IsSolution (equal_of f) (right_for f b) z
  pub front : take (length f.columns) z ≡ x
  pub only : (w : List ℕ) → IsSolution (equal_of f) (right_for f b) w → take (length f.columns) w ≡ x → w ≡ z

-- each solution of the form is the front of exactly one solution of the equality form
abbrev pub SolutionsAreExtended : Type 0
SolutionsAreExtended =
    (f : Form) → IsForm f → (b : List ℕ) → length b ≡ f.rows → (x : List ℕ) → IsFormSolution f b x → (z : List ℕ) × IsExtension f b x z

-- ---- answers

-- x is a solution that is below every other one, by the costs in turn and then by the first number that differs, and these
-- are its costs
pub record IsFormOptimum (f : Form) (b x : List ℕ) (costs : List ℤ) : Type 0 where
  pub solution : IsFormSolution f b x
  pub below : (z : List ℕ) → IsFormSolution f b z → (z ≡ x → ⊥) → cost_order f.cost_rows x z ≡ Less
  pub paid : costs ≡ form_costs_of f x

-- the answer is the unique least solution with its costs
abbrev pub AnswerIsLeastFormSolution : Type 0
AnswerIsLeastFormSolution =
    (f : Form) → IsForm f → (b : List ℕ) → length b ≡ f.rows → (x : List ℕ) (costs : List ℤ) → (form_answer_of f b ≡ optimum x costs) ↔ IsFormOptimum f b x costs

-- and it is none exactly where there is no solution
abbrev pub NoneIsInfeasible : Type 0
NoneIsInfeasible =
    (f : Form) → IsForm f → (b : List ℕ) → length b ≡ f.rows → ((s : ℕ) × (form_answer_of f b ≡ infeasible s)) ↔ ((x : List ℕ) → IsFormSolution f b x → ⊥)

-- ---- instances as forms

-- the form of an instance is a form, its equality form is the instance, and right-hand sides stay
pub record IsItself (i : Problem) : Type 0 where
  pub form : IsForm (plain_form i)
  pub equal : equal_of (plain_form i) ≡ i
  pub right : (b : List ℕ) → right_for (plain_form i) b ≡ b

abbrev pub PlainIsItself : Type 0
PlainIsItself = (i : Problem) → IsInstance i → IsItself i

-- ---- what is kept of a form

-- a form is read from its equality form
abbrev pub FormIsInEqual : Type 0
FormIsInEqual = (f : Form) → IsForm f → form_in f.rows (length f.columns) f.relations f.bounds (equal_of f) ≡ f

-- the first zero column of the equality form is the least column that is zero and whose variable has no bound
abbrev pub ZeroColumnIsFree : Type 0
ZeroColumnIsFree =
    (f : Form) → length f.bounds ≡ length f.columns → position (λ s. nat_eq s 0) (map total (equal_columns f)) ≡ free_zero_of f.columns f.bounds

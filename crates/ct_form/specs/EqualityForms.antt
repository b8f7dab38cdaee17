-- The equality form of a form: an instance with a slack column for each row `le`, and a row and a slack column for each bound.
use Rattle.std.specs.Prelude.{ℕ, pos, ◌+◌, ◌≤◌, ◌≡◌, List, [], ◌∷◌, ◌++◌, length, map, take, replicate, All, Option, Some, None, zero, suc}
use Rattle.ct_vectors.specs.Vectors.{zeros}
use Rattle.ct_vectors.specs.declared.limits.TheConstants.{RIGHT_LIMIT}
use Rattle.ct_instance.specs.Instance.{Problem, IsInstance}
use Rattle.ct_instance.specs.Answer.{Outcome, optimum, infeasible, answer_of}
use Rattle.ct_form.specs.declared.relation.Relation.{Relation}
use Rattle.ct_form.specs.declared.relation.Relation.TheVariants.{Eq, Le}
use Rattle.ct_form.specs.Forms.{Form, given_in}

-- ---- columns

-- each column with x above it
abbrev pub under : ℕ → List (List ℕ) → List (List ℕ)
under x cs = map (λ c. x ∷ c) cs

-- each column with the other of its place below it
abbrev pub over : List (List ℕ) → List (List ℕ) → List (List ℕ)
over [] ds = []
over (c ∷ cs) [] = c ∷ cs
over (c ∷ cs) (d ∷ ds) = (c ++ d) ∷ over cs ds

-- a column for each row `le`, which has 1 in that row
abbrev pub row_slacks : List Relation → List (List ℕ)
row_slacks [] = []
row_slacks (Eq ∷ rs) = under 0 (row_slacks rs)
row_slacks (Le ∷ rs) = (1 ∷ zeros (length rs)) ∷ under 0 (row_slacks rs)

-- what each column of A has in the rows of the bounds: 1 in that of its own bound
abbrev pub bound_parts : List (Option ℕ) → List (List ℕ)
bound_parts [] = []
bound_parts (None ∷ us) = zeros (length (given_in us)) ∷ bound_parts us
bound_parts (Some u ∷ us) = (1 ∷ zeros (length (given_in us))) ∷ under 0 (bound_parts us)

-- a column for each of so many bounds, which has 1 in that bound's row
abbrev pub bound_slacks : ℕ → List (List ℕ)
bound_slacks zero = []
bound_slacks (suc k) = (1 ∷ zeros k) ∷ under 0 (bound_slacks k)

abbrev pub bound_count : Form → ℕ
bound_count f = length (given_in f.bounds)

-- the slack columns: those of the rows `le` in row order, then those of the bounds in column order
abbrev pub slack_columns : Form → List (List ℕ)
slack_columns f =
    map (λ c. c ++ zeros (bound_count f)) (row_slacks f.relations) ++ map (λ c. zeros f.rows ++ c) (bound_slacks (bound_count f))

abbrev pub slack_count : Form → ℕ
slack_count f = length (row_slacks f.relations) + bound_count f

-- the columns of A with their parts in the rows of the bounds, then the slack columns
abbrev pub equal_columns : Form → List (List ℕ)
equal_columns f = over f.columns (bound_parts f.bounds) ++ slack_columns f

-- ---- the equality form

-- slack columns cost nothing
abbrev pub equal_of : Form → Problem
equal_of f =
    record { rows = f.rows + bound_count f; columns = equal_columns f; cost_rows = map (λ row. row ++ replicate (slack_count f) (pos 0)) f.cost_rows }

-- the right-hand side that the equality form has for b: b, then the bounds
abbrev pub right_for : Form → List ℕ → List ℕ
right_for f b = b ++ given_in f.bounds

-- an answer with the first n numbers of its point alone
abbrev pub cut_to : ℕ → Outcome → Outcome
cut_to n (optimum x costs) = optimum (take n x) costs
cut_to n (infeasible short) = infeasible short

-- what is told as the answer to b
abbrev pub form_answer_of : Form → List ℕ → Outcome
form_answer_of f b = cut_to (length f.columns) (answer_of (equal_of f) (right_for f b))

-- ---- what a form is

-- the lists are as long as they should be, the bounds are within the limit of a right-hand side, and the equality form is an
-- instance: that is, it is within the limits and has no zero column
pub record IsForm (f : Form) : Type 0 where
  pub some_row : 1 ≤ f.rows
  pub some_column : 1 ≤ length f.columns
  pub entries : All (λ c. length c ≡ f.rows) f.columns
  pub costs : All (λ row. length row ≡ length f.columns) f.cost_rows
  pub relation_count : length f.relations ≡ f.rows
  pub bound_for_each : length f.bounds ≡ length f.columns
  pub bound_limit : All (λ u. u ≤ RIGHT_LIMIT) (given_in f.bounds)
  pub equal : IsInstance (equal_of f)

-- the form of an instance: each row is equal to its right-hand side, and no variable has a bound
abbrev pub plain_form : Problem → Form
plain_form i =
    record { rows = i.rows; columns = i.columns; cost_rows = i.cost_rows; relations = replicate i.rows Eq; bounds = replicate (length i.columns) None }

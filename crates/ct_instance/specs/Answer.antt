-- Solutions, and the answer to one right-hand side.
use Rattle.std.specs.Prelude.{ℕ, ℤ, ◌≡◌, List, [], ◌∷◌, length, map, take, nat_eq, cond}
use Rattle.ct_vectors.specs.Vectors.{add, scale, zeros}
use Rattle.ct_order.specs.Order.{art_total_of, cost_of}
use Rattle.ct_instance.specs.Instance.{Problem, column_count}
use Rattle.ct_instance.specs.Fiber.{least_of}

-- the sum of x_j times column j, m numbers
abbrev pub weighted_sum : ℕ → List (List ℕ) → List ℕ → List ℕ
weighted_sum m [] x = zeros m
weighted_sum m (c ∷ cs) [] = zeros m
weighted_sum m (c ∷ cs) (x ∷ xs) = add (scale x c) (weighted_sum m cs xs)

-- x is a list of n natural numbers with A x = b
pub record IsSolution (i : Problem) (b x : List ℕ) : Type 0 where
  pub numbers : length x ≡ column_count i
  pub equal : weighted_sum i.rows i.columns x ≡ b

-- the cost of x by each row of costs
abbrev pub costs_of : Problem → List ℕ → List ℤ
costs_of i x = map (λ row. cost_of row x) i.cost_rows

-- an optimum with its costs, or how far from 0 the artificial total stays
pub data Outcome : Type 0 where
  optimum : (x : List ℕ) (costs : List ℤ) → Outcome
  infeasible : (short : ℕ) → Outcome

-- what a least point says
abbrev pub outcome_of : Problem → List ℕ → Outcome
outcome_of i p =
    cond (nat_eq (art_total_of (column_count i) p) 0)
    (optimum (take (column_count i) p) (costs_of i (take (column_count i) p)))
    (infeasible (art_total_of (column_count i) p))

abbrev pub answer_of : Problem → List ℕ → Outcome
answer_of i b = outcome_of i (least_of i b)

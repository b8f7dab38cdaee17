-- What a run is of.
use Rattle.std.specs.Prelude.{ℕ, Bool, List}
use Rattle.ct_vectors.specs.Vectors.{total}
use Rattle.ct_instance.specs.Instance.{Problem}
use Rattle.ct_instance.specs.Answer.{Outcome, answer_of}
use Rattle.ct_instance.specs.Versions.{Level}
use Rattle.ct_instance.specs.Reach.{reach_of}

pub record Case : Type 0 where
  -- the instance
  pub instance : Problem
  -- the right-hand side that the instance has for the numbers of a request
  pub right : List ℕ → List ℕ
  -- what is shown as the answer to the numbers of a request
  pub shown : List ℕ → Outcome
  -- the limit on the number of moves
  pub limit : ℕ
  -- whether walks and levels are asked for
  pub walks : Bool
  pub levels : Bool
  -- the grade up to which the run has its moves when it begins
  pub opened : ℕ

-- a run of an instance that is asked for its own right-hand sides, and begins with no moves
abbrev pub plain_case : Problem → ℕ → Bool → Bool → Case
plain_case i limit walks levels =
    record { instance = i; right = λ b. b; shown = answer_of i; limit = limit; walks = walks; levels = levels; opened = 0 }

-- the sum of the right-hand side of a request
abbrev pub sum_of : Case → List ℕ → ℕ
sum_of c b = total (c.right b)

-- how far a completion for the grade g comes
abbrev pub case_reach : Case → ℕ → Level
case_reach c g = reach_of c.instance c.limit g

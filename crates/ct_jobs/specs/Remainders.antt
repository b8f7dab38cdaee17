-- What is left of a job in two points.
use Rattle.std.specs.Prelude.{Bool, true, false, Option, Some, None, List, ℕ}

-- both points, if there are any
abbrev pub both_if : Bool → List ℕ → List ℕ → Option (List ℕ × List ℕ)
both_if false p q = None
both_if true p q = Some (p, q)

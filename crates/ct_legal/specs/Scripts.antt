-- Scripts: asks taken as solves, and the greatest grade that is worked for.
use Rattle.std.specs.Prelude.{ℕ, ◌≡◌, max, List, [], ◌∷◌, map}
use Rattle.std.specs.List.{flat_map}
use Rattle.ct_input.specs.declared.script.Request.{Request}
use Rattle.ct_input.specs.declared.script.Request.TheVariants.{Ask, Solve}
use Rattle.ct_input.specs.declared.script.Phase.{Phase}
use Rattle.ct_input.specs.declared.script.Script.{Script}
use Rattle.ct_legal.specs.Cases.{Case, sum_of}

-- ---- asks as solves

abbrev pub as_solve : Request → Request
as_solve (Ask b) = Solve b
as_solve (Solve b) = Solve b

abbrev pub phase_with_solves : Phase → Phase
phase_with_solves phase = record { target = phase.target; sessions = map (map as_solve) phase.sessions }

abbrev pub with_solves : Script → Script
with_solves script = record { phases = map phase_with_solves script.phases }

-- with its asks as solves it is the same script
abbrev pub HasNoAsks : Script → Type 0
HasNoAsks script = with_solves script ≡ script

-- ---- grades

-- the greatest of these, and 0 where there are none
abbrev pub greatest : List ℕ → ℕ
greatest [] = 0
greatest (x ∷ xs) = max x (greatest xs)

-- the grade that a solve works for; an ask works for none
abbrev pub solved_sum : Case → Request → ℕ
solved_sum c (Solve b) = sum_of c b
solved_sum c (Ask b) = 0

-- the greatest of the grade worked for so far, the phase's target and the sums of its solves
abbrev pub grade_after : Case → ℕ → Phase → ℕ
grade_after c grade phase = max grade (max phase.target (greatest (flat_map (λ requests. map (solved_sum c) requests) phase.sessions)))

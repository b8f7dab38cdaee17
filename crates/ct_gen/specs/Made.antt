-- The instance and the script that are made of a number.
use Rattle.std.specs.Prelude.{ℕ, ℤ, pos, ◌+◌, ◌*◌, ◌%◌, List, [], ◌∷◌, map}
use Rattle.ct_instance.specs.Instance.{Problem}
use Rattle.ct_instance.specs.Made.{problem_of}
use Rattle.ct_input.specs.declared.script.Request.{Request}
use Rattle.ct_input.specs.declared.script.Request.TheVariants.{Solve}
use Rattle.ct_input.specs.declared.script.Phase.{Phase}
use Rattle.ct_input.specs.declared.script.Script.{Script}
use Rattle.ct_gen.specs.declared.making.TheConstants.{MADE_COLUMNS, MADE_REQUESTS}
use Rattle.ct_gen.specs.Draws.{draws}

-- the first six draws are the entries, the next six the costs
abbrev pub made_entries : ℕ → List ℕ
made_entries number = map (λ d. 10 + d % 50) (draws number 0 MADE_COLUMNS)

abbrev pub made_costs : ℕ → List ℤ
made_costs number = map (λ d. pos (1 + d % 100)) (draws number MADE_COLUMNS MADE_COLUMNS)

abbrev pub made_instance : ℕ → Problem
made_instance number = problem_of 1 MADE_COLUMNS (made_entries number) (made_costs number)

abbrev pub made_request : ℕ → Request
made_request d = Solve (d % 100000 ∷ [])

-- the session with this index in the file, from 0: the next 250 draws
abbrev pub made_session : ℕ → ℕ → List Request
made_session number index = map made_request (draws number (2 * MADE_COLUMNS + index * MADE_REQUESTS) MADE_REQUESTS)

abbrev pub made_phase : ℕ → ℕ → Phase
made_phase number index = record { target = 0; sessions = made_session number index ∷ made_session number (index + 1) ∷ [] }

abbrev pub made_script : ℕ → Script
made_script number = record { phases = made_phase number 0 ∷ made_phase number 2 ∷ [] }

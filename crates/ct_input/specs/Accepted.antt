-- What an accepted text stands for. Each statement is the contract of a function in the module `laws`.
use Rattle.std.specs.Prelude.{ℕ, ◌≡◌, ◌≤◌, List, length, Ok}
use Rattle.ct_instance.specs.Instance.{Problem, IsInstance}
use Rattle.ct_input.specs.declared.limits.TheConstants.{PHASE_LIMIT}
use Rattle.ct_input.specs.declared.script.Script.{Script}
use Rattle.ct_input.specs.Script.{IsScript}
use Rattle.ct_input.specs.Files.{instance_file, session_file}

-- an instance text stands for an instance
abbrev pub TextIsInstance : Type 0
TextIsInstance = (bytes : List ℕ) (i : Problem) → instance_file bytes ≡ Ok i → IsInstance i

-- a script for m rows, with no more phases than a file may have
abbrev pub IsAcceptedScript : ℕ → Script → Type 0
IsAcceptedScript m script = IsScript m script × (length script.phases ≤ PHASE_LIMIT)

-- a session text stands for such a script
abbrev pub TextIsScript : Type 0
TextIsScript = (m : ℕ) (bytes : List ℕ) (script : Script) → session_file m bytes ≡ Ok script → IsAcceptedScript m script

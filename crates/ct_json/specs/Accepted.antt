-- What an accepted JSON file stands for. Each statement is the contract of a function in the module `laws`.
use Rattle.std.specs.Prelude.{ℕ, ◌≡◌, List, Ok}
use Rattle.ct_instance.specs.Instance.{Problem, IsInstance}
use Rattle.ct_input.specs.declared.script.Script.{Script}
use Rattle.ct_input.specs.Accepted.{IsAcceptedScript}
use Rattle.ct_json.specs.Files.{instance_json, sessions_json}

-- an instance file stands for an instance
abbrev pub JsonIsInstance : Type 0
JsonIsInstance = (bytes : List ℕ) (i : Problem) → instance_json bytes ≡ Ok i → IsInstance i

-- a session file stands for a script for so many rows, with no more phases than a file may have
abbrev pub JsonIsScript : Type 0
JsonIsScript = (m : ℕ) (bytes : List ℕ) (script : Script) → sessions_json m bytes ≡ Ok script → IsAcceptedScript m script

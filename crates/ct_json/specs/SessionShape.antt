-- The JSON form of the sessions of an instance with m rows.
use Rattle.std.specs.Prelude.{ℕ, nat_lt, true, if◌then◌else◌, List, [], ◌∷◌, length, Result, Ok}
use Rattle.serde_json.specs.Data.{Data}
use Rattle.ct_vectors.specs.declared.limits.TheConstants.{RIGHT_LIMIT, GRADE_LIMIT, SESSION_LIMIT}
use Rattle.ct_input.specs.declared.limits.TheConstants.{PHASE_LIMIT, REQUEST_LIMIT}
use Rattle.ct_input.specs.declared.script.Request.{Request}
use Rattle.ct_input.specs.declared.script.Request.TheVariants as requests
use Rattle.ct_input.specs.declared.script.Phase.{Phase}
use Rattle.ct_input.specs.declared.script.Script.{Script}
use Rattle.ct_input.specs.declared.fault.Fault.{Fault}
use Rattle.ct_input.specs.declared.path.PathStep.{PathStep}
use Rattle.ct_input.specs.declared.path.Name.{Name}
use Rattle.ct_input.specs.declared.path.Name.TheVariants.{Sessions, Phases, Target, Ask, Solve}
use Rattle.ct_input.specs.declared.path.JsonReason.TheVariants.{Missing, Limit}
use Rattle.ct_input.specs.Sheet.{◌>>=◌}
use Rattle.ct_input.specs.SessionText.{request_count}
use Rattle.ct_json.specs.Values.{refuse, only_if, array_at, object_at, has, no_others}
use Rattle.ct_json.specs.Shapes.{Shape, natural_at, form_at, each, list_of, naturals, member_as}

-- the m numbers of the one member of a request
abbrev pub right_in : ℕ → Name → List PathStep → Data → Result (List ℕ) Fault
right_in m name here d = member_as name ((naturals m m RIGHT_LIMIT).reads 0) here d >>= λ b. no_others (name ∷ []) here d >>= λ _. Ok b

-- `solve`, else `ask`
abbrev pub request_in : ℕ → List PathStep → Data → Result Request Fault
request_in m here d =
    if has Solve d then (right_in m Solve here d >>= λ b. Ok (requests.Solve b))
    else if has Ask d then (right_in m Ask here d >>= λ b. Ok (requests.Ask b))
    else refuse here Missing

-- a request, of which the file has this many to spare
unfoldable pub request_at : ℕ → ℕ → List PathStep → Data → Result Request Fault
request_at m spare here d = object_at here d >>= λ _. only_if (nat_lt 0 spare) here Limit true >>= λ _. request_in m here d

abbrev pub request : ℕ → Shape Request
request m = record { reads = request_at m; uses = λ r. 1 }

unfoldable pub session_at : ℕ → ℕ → List PathStep → Data → Result (List Request) Fault
session_at m spare here d = array_at here d >>= λ ds. each (request m) here 0 spare ds

abbrev pub session : ℕ → Shape (List Request)
session m = record { reads = session_at m; uses = λ rs. length rs }

unfoldable pub phase_at : ℕ → ℕ → List PathStep → Data → Result Phase Fault
phase_at m spare here d =
    object_at here d >>= λ _. member_as Target (natural_at GRADE_LIMIT) here d >>= λ target.
    member_as Sessions ((list_of 0 SESSION_LIMIT (session m)).reads spare) here d >>= λ sessions.
    no_others (Target ∷ Sessions ∷ []) here d >>= λ _. Ok (record { target = target; sessions = sessions })

abbrev pub phase : ℕ → Shape Phase
phase m = record { reads = phase_at m; uses = λ p. request_count p.sessions }

-- the script of a session object
unfoldable pub script_at : ℕ → List PathStep → Data → Result Script Fault
script_at m here d =
    object_at here d >>= λ _. member_as Sessions form_at here d >>= λ _.
    member_as Phases ((list_of 0 PHASE_LIMIT (phase m)).reads REQUEST_LIMIT) here d >>= λ phases.
    no_others (Sessions ∷ Phases ∷ []) here d >>= λ _. Ok (record { phases = phases })

-- The session text of an instance with m rows.
use Rattle.std.specs.Prelude.{ℕ, List, [], Option, Some, None, length, sum_by, codes}
use Rattle.ct_vectors.specs.declared.limits.TheConstants.{RIGHT_LIMIT, GRADE_LIMIT, SESSION_LIMIT}
use Rattle.ct_input.specs.declared.limits.TheConstants.{PHASE_LIMIT, REQUEST_LIMIT}
use Rattle.ct_input.specs.declared.script.Request.{Request}
use Rattle.ct_input.specs.declared.script.Request.TheVariants.{Ask, Solve}
use Rattle.ct_input.specs.declared.script.Phase.{Phase}
use Rattle.ct_input.specs.declared.script.Script.{Script}
use Rattle.ct_input.specs.Grammar.{Grammar, done, nothing, word, number, fork, barred, ◌then◌, part, numbers, upto}

-- a request, if one stands next
unfoldable pub request : ℕ → Grammar (Option Request)
request m =
    fork (codes "ask") (part (numbers m RIGHT_LIMIT) then λ b. done (Some (Ask b))) then
    fork (codes "solve") (part (numbers m RIGHT_LIMIT) then λ b. done (Some (Solve b))) then
    done None

abbrev pub no_request : Grammar (List Request)
no_request = barred (codes "ask") then barred (codes "solve") then done []

-- the requests of a session, as many as the file has to spare
abbrev pub requests : ℕ → ℕ → Grammar (List Request)
requests m spare = upto (λ _. request m) (λ _. 1) no_request spare spare

unfoldable pub session : ℕ → ℕ → Grammar (Option (List Request))
session m spare = fork (codes "session") (part (requests m spare) then λ rs. done (Some rs)) then done None

abbrev pub no_session : Grammar (List (List Request))
no_session = barred (codes "session") then done []

abbrev pub sessions_up_to : ℕ → ℕ → ℕ → Grammar (List (List Request))
sessions_up_to m count spare = upto (session m) length no_session count spare

-- the sessions of a phase, at most 16
abbrev pub sessions : ℕ → ℕ → Grammar (List (List Request))
sessions m spare = sessions_up_to m SESSION_LIMIT spare

-- how many requests stand in the sessions
abbrev pub request_count : List (List Request) → ℕ
request_count = sum_by length

unfoldable pub phase : ℕ → ℕ → Grammar (Option Phase)
phase m spare =
    fork (codes "phase") (number 0 GRADE_LIMIT then λ target. part (sessions m spare) then λ ss. done (Some (record { target = target; sessions = ss }))) then
    done None

abbrev pub no_phase : Grammar (List Phase)
no_phase = barred (codes "phase") then done []

abbrev pub phases_up_to : ℕ → ℕ → ℕ → Grammar (List Phase)
phases_up_to m count spare = upto (phase m) (λ p. request_count p.sessions) no_phase count spare

-- at most 64 phases, and at most 100,000 requests in the file
abbrev pub phases : ℕ → ℕ → Grammar (List Phase)
phases m spare = phases_up_to m PHASE_LIMIT spare

unfoldable pub session_text : ℕ → Grammar Script
session_text m =
    word (codes "sessions") then word (codes "1") then part (phases m REQUEST_LIMIT) then λ ps.
    word (codes "end") then nothing then done (record { phases = ps })

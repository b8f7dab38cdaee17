-- A script stays where there are no bounds, and a widened one is a script of the equality form.
use Rattle.std.proofs.Common.{◌≡◌, ◌≤◌, ◌+◌, List, [], ◌∷◌, All, length-append, map, refl, subst, sym, ap, ap₂, ◌∙◌, ℕ}
use Rattle.std.proofs.lemmas.List.{length-map}
use Rattle.std.proofs.lemmas.List.Elements.{All-append, All-map, All-weaker}
use Rattle.ct_vectors.specs.declared.limits.TheConstants.{RIGHT_LIMIT, SESSION_LIMIT}
use Rattle.ct_input.specs.Script.{IsRequest, IsPhase, IsScript}
use Rattle.ct_form.specs.Forms.{Form, given_in}
use Rattle.ct_form.specs.EqualityForms.{bound_count, equal_of, IsForm}
use Rattle.std.proofs.lemmas.List.{append-nil}
use Rattle.ct_input.specs.declared.script.Request.{Request}
use Rattle.ct_input.specs.declared.script.Request.TheVariants.{Ask, Solve}
use Rattle.ct_input.specs.declared.script.Phase.{Phase}
use Rattle.ct_input.specs.declared.script.Script.{Script}
use Rattle.ct_form_report.specs.FormCases.{request_with, phase_with, script_with, widened}

request_alone : (request : Request) → request_with [] request ≡ request
request_alone (Ask b) = ap Ask (append-nil b)
request_alone (Solve b) = ap Solve (append-nil b)

session_alone : (requests : List Request) → map (request_with []) requests ≡ requests
session_alone [] = refl
session_alone (request ∷ requests) = ap₂ ◌∷◌ (request_alone request) (session_alone requests)

sessions_alone : (sessions : List (List Request)) → map (map (request_with [])) sessions ≡ sessions
sessions_alone [] = refl
sessions_alone (requests ∷ sessions) = ap₂ ◌∷◌ (session_alone requests) (sessions_alone sessions)

abbrev phase_of : ℕ → List (List Request) → Phase
phase_of target sessions = record { target = target; sessions = sessions }

phases_alone : (phases : List Phase) → map (phase_with []) phases ≡ phases
phases_alone [] = refl
phases_alone (phase ∷ phases) = ap₂ ◌∷◌ (ap (phase_of phase.target) (sessions_alone phase.sessions)) (phases_alone phases)

abbrev script_of : List Phase → Script
script_of phases = record { phases = phases }

pub script_alone : (script : Script) → script_with [] script ≡ script
script_alone script = ap script_of (phases_alone script.phases)

-- ---- scripts of the equality form

request_wide : (f : Form) → IsForm f → (request : Request) → IsRequest f.rows request → IsRequest (f.rows + bound_count f) (request_with (given_in f.bounds) request)
request_wide f h (Ask b) r = record { right = length-append b (given_in f.bounds) ∙ ap (λ m. m + bound_count f) r.right; limit = All-append (λ x. x ≤ RIGHT_LIMIT) b (given_in f.bounds) r.limit h.bound_limit }
request_wide f h (Solve b) r = record { right = length-append b (given_in f.bounds) ∙ ap (λ m. m + bound_count f) r.right; limit = All-append (λ x. x ≤ RIGHT_LIMIT) b (given_in f.bounds) r.limit h.bound_limit }

requests_wide : (f : Form) → IsForm f → (requests : List Request) → All (IsRequest f.rows) requests → All (IsRequest (f.rows + bound_count f)) (map (request_with (given_in f.bounds)) requests)
requests_wide f h requests a =
    All-map (IsRequest (f.rows + bound_count f)) (request_with (given_in f.bounds)) requests
    (All-weaker (IsRequest f.rows) (λ r. IsRequest (f.rows + bound_count f) (request_with (given_in f.bounds) r)) (request_wide f h) requests a)

phase_wide : (f : Form) → IsForm f → (phase : Phase) → IsPhase f.rows phase → IsPhase (f.rows + bound_count f) (phase_with (given_in f.bounds) phase)
phase_wide f h phase p = record {
  target = p.target;
  few = subst (λ k. k ≤ SESSION_LIMIT) (sym (length-map phase.sessions (map (request_with (given_in f.bounds))))) p.few;
  sessions =
      All-map (λ requests. All (IsRequest (f.rows + bound_count f)) requests) (map (request_with (given_in f.bounds))) phase.sessions
      (All-weaker (λ requests. All (IsRequest f.rows) requests) (λ requests. All (IsRequest (f.rows + bound_count f)) (map (request_with (given_in f.bounds)) requests))
      (requests_wide f h) phase.sessions p.sessions);
}

pub widened_is_script : (f : Form) → IsForm f → (script : Script) → IsScript f.rows script → IsScript (equal_of f).rows (widened f script)
widened_is_script f h script s =
    All-map (IsPhase (f.rows + bound_count f)) (phase_with (given_in f.bounds)) script.phases
    (All-weaker (IsPhase f.rows) (λ p. IsPhase (f.rows + bound_count f) (phase_with (given_in f.bounds) p)) (phase_wide f h) script.phases s)

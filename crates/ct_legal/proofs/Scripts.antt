-- With its asks as solves a script is a script.
use Rattle.std.proofs.Common.{ℕ, ◌≤◌, List, map, All, sym, subst}
use Rattle.std.proofs.lemmas.List.{length-map}
use Rattle.std.proofs.lemmas.List.Elements.{All-map, All-weaker}
use Rattle.ct_vectors.specs.declared.limits.TheConstants.{SESSION_LIMIT}
use Rattle.ct_input.specs.declared.script.Request.{Request}
use Rattle.ct_input.specs.declared.script.Request.TheVariants.{Ask, Solve}
use Rattle.ct_input.specs.declared.script.Phase.{Phase}
use Rattle.ct_input.specs.declared.script.Script.{Script}
use Rattle.ct_input.specs.Script.{IsRequest, IsPhase, IsScript}
use Rattle.ct_legal.specs.Scripts.{as_solve, phase_with_solves, with_solves}

solve_is : (m : ℕ) (request : Request) → IsRequest m request → IsRequest m (as_solve request)
solve_is m (Ask b) is = record { right = is.right; limit = is.limit }
solve_is m (Solve b) is = is

solves_are : (m : ℕ) (rs : List Request) → All (IsRequest m) rs → All (IsRequest m) (map as_solve rs)
solves_are m rs are = All-map (IsRequest m) as_solve rs (All-weaker (IsRequest m) (λ r. IsRequest m (as_solve r)) (solve_is m) rs are)

phase_is : (m : ℕ) (phase : Phase) → IsPhase m phase → IsPhase m (phase_with_solves phase)
phase_is m phase is =
    let every : List Request → Type 0 = λ rs. All (IsRequest m) rs in
    record {
      target = is.target;
      few = subst (λ (n : ℕ). n ≤ SESSION_LIMIT) (sym (length-map phase.sessions (map as_solve))) is.few;
      sessions = All-map every (map as_solve) phase.sessions (All-weaker every (λ rs. every (map as_solve rs)) (solves_are m) phase.sessions is.sessions);
    }

pub solves_are_script : (m : ℕ) (script : Script) → IsScript m script → IsScript m (with_solves script)
solves_are_script m script is = All-map (IsPhase m) phase_with_solves script.phases (All-weaker (IsPhase m) (λ p. IsPhase m (phase_with_solves p)) (phase_is m) script.phases is)

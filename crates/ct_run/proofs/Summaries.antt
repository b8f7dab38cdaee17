-- The report of a made script can be tallied, and gives a summary.
use Rattle.std.proofs.Common.{◌≡◌, ℕ, ◌+◌, ◌*◌, ◌≤◌, false, List, [], ◌∷◌, ◌++◌, length, All, sym, subst, ap, ap₂, ◌∙◌, arith}
use Rattle.std.specs.List.{flat_map}
use Rattle.std.proofs.lemmas.List.{length-append, length-map}
use Rattle.std.proofs.lemmas.List.FromFn.{length-map-range_with_len}
use Rattle.ct_vectors.specs.declared.limits.TheConstants.{MOVE_LIMIT}
use Rattle.ct_instance.specs.Instance.{Problem, IsInstance}
use Rattle.ct_input.specs.declared.limits.TheConstants.{REQUEST_LIMIT}
use Rattle.ct_input.specs.declared.script.Request.{Request}
use Rattle.ct_input.specs.declared.script.Script.{Script}
use Rattle.ct_input.specs.Script.{IsScript}
use Rattle.ct_report.specs.declared.reports.Report.{Report}
use Rattle.ct_legal.specs.Cases.{plain_case}
use Rattle.ct_legal.specs.Legal.{IsLegalAnswered}
use Rattle.ct_answer.specs.declared.extent.Extent.{Extent}
use Rattle.ct_answer.specs.Extents.{last_grade, IsExtent}
use Rattle.ct_gen.specs.declared.making.TheConstants.{MADE_COLUMNS, MADE_REQUESTS}
use Rattle.ct_gen.specs.Draws.{draw_at, draws}
use Rattle.ct_gen.specs.Made.{made_request, made_session, made_instance, made_script}
use Rattle.ct_gen.specs.Tallies.{lines_of, HasCost}
use Rattle.ct_gen.specs.Laws.{requests_of, CanBeTallied}
use Rattle.ct_gen.proofs.LegalReports.{can_be_tallied}
use Rattle.ct_run.specs.Summarised.{made_case}

session_length : (number index : ℕ) → length (made_session number index) ≡ MADE_REQUESTS
session_length number index =
    let from : ℕ = 2 * MADE_COLUMNS + index * MADE_REQUESTS in
    length-map (draws number from MADE_REQUESTS) made_request ∙ length-map-range_with_len (draw_at number) from MADE_REQUESTS

two_sessions : (a b : List Request) → length (flat_map (λ rs. rs) (a ∷ b ∷ [])) ≡ length a + length b
two_sessions a b = length-append a (b ++ []) ∙ (let more : length (b ++ []) ≡ length b + 0 = length-append b [] in omega arith)

made_few : (number : ℕ) → length (requests_of (made_script number)) ≤ REQUEST_LIMIT
made_few number =
    let front : List Request = flat_map (λ rs. rs) (made_session number 0 ∷ made_session number 1 ∷ []) in
    let back : List Request = flat_map (λ rs. rs) (made_session number 2 ∷ made_session number 3 ∷ []) in
    let all : length (front ++ (back ++ [])) ≡ length front + length (back ++ []) = length-append front (back ++ []) in
    let rest : length (back ++ []) ≡ length back + 0 = length-append back [] in
    let one : length front ≡ MADE_REQUESTS + MADE_REQUESTS = two_sessions (made_session number 0) (made_session number 1) ∙ ap₂ (λ a b. a + b) (session_length number 0) (session_length number 1) in
    let two : length back ≡ MADE_REQUESTS + MADE_REQUESTS = two_sessions (made_session number 2) (made_session number 3) ∙ ap₂ (λ a b. a + b) (session_length number 2) (session_length number 3) in
    omega (arith, all, rest, one, two)

-- what is answered to what was made
module _ (number : ℕ) (i : Problem) (script : Script) (report : Report) (made : i ≡ made_instance number) (asked : script ≡ made_script number)
    (legal : IsLegalAnswered (plain_case i MOVE_LIMIT false false) script report) where
  pub made_legal : IsLegalAnswered (made_case number) (made_script number) report
  made_legal = subst (λ (p : Problem). IsLegalAnswered (plain_case p MOVE_LIMIT false false) (made_script number) report) made
      (subst (λ (s : Script). IsLegalAnswered (plain_case i MOVE_LIMIT false false) s report) asked legal)

  pub made_extent : (reached : Extent) → IsExtent i MOVE_LIMIT (last_grade (plain_case i MOVE_LIMIT false false) script) reached →
      IsExtent (made_instance number) MOVE_LIMIT (last_grade (made_case number) (made_script number)) reached
  made_extent reached extent = subst (λ (p : Problem). IsExtent p MOVE_LIMIT (last_grade (plain_case p MOVE_LIMIT false false) (made_script number)) reached) made
      (subst (λ (s : Script). IsExtent i MOVE_LIMIT (last_grade (plain_case i MOVE_LIMIT false false) s) reached) asked extent)

  module _ (inst : IsInstance i) (rows : IsScript i.rows script) where
    tallied : CanBeTallied script report
    tallied = can_be_tallied i inst MOVE_LIMIT false false script report rows legal

    pub made_lines : length (lines_of report) ≤ REQUEST_LIMIT
    made_lines =
        let few : length (requests_of script) ≤ REQUEST_LIMIT = subst (λ (s : Script). length (requests_of s) ≤ REQUEST_LIMIT) (sym asked) (made_few number) in
        omega (arith, tallied.count, few)

    pub made_costs : All HasCost (lines_of report)
    made_costs = tallied.costs

-- What holds of made inputs, and of the tallies of legal reports. Each statement is the contract of a function in the module `laws`.
use Rattle.std.specs.Prelude.{ℕ, ◌≡◌, Bool, List, All, length}
use Rattle.std.specs.List.{flat_map}
use Rattle.ct_instance.specs.Instance.{Problem, IsInstance}
use Rattle.ct_input.specs.declared.script.Request.{Request}
use Rattle.ct_input.specs.declared.script.Script.{Script}
use Rattle.ct_input.specs.Script.{IsScript}
use Rattle.ct_input.specs.Accepted.{IsAcceptedScript}
use Rattle.ct_report.specs.declared.reports.Report.{Report}
use Rattle.ct_legal.specs.Cases.{plain_case}
use Rattle.ct_legal.specs.Legal.{IsLegalAnswered}
use Rattle.ct_gen.specs.Made.{made_instance, made_script}
use Rattle.ct_gen.specs.Tallies.{lines_of, HasCost}

-- all requests of a script in order
abbrev pub requests_of : Script → List Request
requests_of script = flat_map (λ phase. flat_map (λ requests. requests) phase.sessions) script.phases

-- a legal report has as many lines as the script has requests, each with a cost that a tally takes
pub record CanBeTallied (script : Script) (report : Report) : Type 0 where
  pub count : length (lines_of report) ≡ length (requests_of script)
  pub costs : All HasCost (lines_of report)

abbrev pub LegalReportsCanBeTallied : Type 0
LegalReportsCanBeTallied =
    (i : Problem) → IsInstance i → (limit : ℕ) (walks levels : Bool) (script : Script) → IsScript i.rows script → (report : Report) →
    IsLegalAnswered (plain_case i limit walks levels) script report → CanBeTallied script report

-- what is made of a number is an instance
abbrev pub MadeIsInstance : Type 0
MadeIsInstance = (number : ℕ) → IsInstance (made_instance number)

-- and a script for it, as a file may hold one
abbrev pub MadeIsScript : Type 0
MadeIsScript = (number : ℕ) → IsAcceptedScript (made_instance number).rows (made_script number)

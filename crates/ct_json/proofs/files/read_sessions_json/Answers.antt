use Rattle.std.proofs.Common.{[]}
use Rattle.std.proofs.lemmas.Result.{IfOk-weaker}
use Rattle.serde_json.specs.View.{view}
use Rattle.ct_input.specs.declared.script.Script.{Script}
use Rattle.ct_input.specs.Script.{IsScript}
use Rattle.ct_input.specs.Accepted.{IsAcceptedScript}
use Rattle.ct_json.specs.SessionShape.{script_at}
use Rattle.ct_json.proofs.Counts.{says_read}
use Rattle.ct_json.proofs.Scripts.{script_says}
use Rattle.ct_json.proofs.files.read_sessions_json.Goals as goal

pub returns-clause-script : goal.returns-clause-script
returns-clause-script c =
    says_read (λ (s : Script). s) (IsScript c.args.rows) c.script.result (script_at c.args.rows [] (view c.in_ok-value.value))
    (IfOk-weaker (script_at c.args.rows [] (view c.in_ok-value.value)) (IsAcceptedScript c.args.rows) (IsScript c.args.rows) (λ s is. is.0) (script_says c.args.rows [] (view c.in_ok-value.value))) c.script.ensures

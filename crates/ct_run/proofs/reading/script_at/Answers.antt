use Rattle.std.proofs.Common.{◌∙◌, ap, sym, subst, Result, Ok, Err, IfErr}
use Rattle.ct_input.specs.declared.fault.Fault.{Fault}
use Rattle.ct_input.specs.declared.fault.InputStop.{InputStop}
use Rattle.ct_input.specs.declared.limits.TheConstants.{SESSION_FILE_LIMIT}
use Rattle.ct_input.specs.declared.script.Script.{Script}
use Rattle.ct_input.specs.Sheet.{Fails}
use Rattle.ct_run.specs.declared.stop.Stop.{Stop}
use Rattle.ct_run.specs.declared.stop.Stop.TheVariants.{Memory}
use Rattle.ct_run.specs.Forms.{session_file}
use Rattle.ct_run.specs.Outcome.{bad_sessions}
use Rattle.ct_run.specs.Plan.{Plan, by_value, script_plan}
use Rattle.ct_run.specs.Stopping.{Fits, Ran}
use Rattle.ct_run.proofs.TooLong.{sessions-front}
use Rattle.ct_run.proofs.Readings.{handed_up, not_read, read_leads, read_refused}
use Rattle.ct_run.proofs.reading.script_at.Goals as goal

pub returns-in_err-bytes-clause-stopped : goal.returns-in_err-bytes-clause-stopped
returns-in_err-bytes-clause-stopped g c =
    handed_up c.in_err-bytes.field-0.0 (λ (r : Result Script Stop). IfErr r (λ stop. (go : Script → Plan) → Ran (script_plan c.args.name.now c.args.rows go) (g.S.Shelf.told c.args.shelf.now) (g.S.Shelf.faults c.args.shelf.now) (g.S.Shelf.faults c.file_at.new.shelf) (Err stop)))
    c.from_residual.result c.from_residual.ensures.1
    (λ go. not_read (g.S.Shelf.told c.args.shelf.now) (g.S.Shelf.faults c.args.shelf.now) (g.S.Shelf.faults c.file_at.new.shelf) c.args.name.now c.in_err-bytes.ensures.shelf.others (λ bytes. by_value bad_sessions go (session_file c.args.rows bytes)) c.in_err-bytes.field-0.0 c.in_err-bytes.ensures.cause)

pub returns-in_err-bad_sessions_ending-in-Err-Fault-clause-stopped : goal.returns-in_err-bad_sessions_ending-in-Err-Fault-clause-stopped
returns-in_err-bad_sessions_ending-in-Err-Fault-clause-stopped g c =
    handed_up Memory (λ (r : Result Script Stop). IfErr r (λ stop. (go : Script → Plan) → Ran (script_plan c.args.name.now c.args.rows go) (g.S.Shelf.told c.args.shelf.now) (g.S.Shelf.faults c.args.shelf.now) (g.S.Shelf.faults c.file_at.new.shelf) (Err stop)))
    c.from_residual-in_err-bad_sessions_ending-in-Err-Fault.result c.from_residual-in_err-bad_sessions_ending-in-Err-Fault.ensures.1
    (λ go. not_read (g.S.Shelf.told c.args.shelf.now) (g.S.Shelf.faults c.args.shelf.now) (g.S.Shelf.faults c.file_at.new.shelf) c.args.name.now c.in_ok-bytes.ensures.shelf.others (λ bytes. by_value bad_sessions go (session_file c.args.rows bytes)) Memory tt)

pub returns-in-Ok-clause-read : goal.returns-in-Ok-clause-read
returns-in-Ok-clause-read g c = λ go.
    read_leads (g.S.Shelf.told c.args.shelf.now) (g.S.Shelf.faults c.args.shelf.now) (g.S.Shelf.faults c.file_at.new.shelf) c.args.name.now c.in_ok-bytes.ensures.shelf.others
    (session_file c.args.rows) bad_sessions go SESSION_FILE_LIMIT c.in_ok-bytes.bytes.items (sessions-front c.args.rows) c.in_ok-bytes.ensures.read c.in_ok-bytes.ensures.shelf.later
    c.in-Ok.script (ap (session_file c.args.rows) (sym c.deref.ensures.value) ∙ c.in-Ok.ensures.gives)

pub returns-in-Err-Fault-clause-stopped : goal.returns-in-Err-Fault-clause-stopped
returns-in-Err-Fault-clause-stopped g c = λ go.
    read_refused (g.S.Shelf.told c.args.shelf.now) (g.S.Shelf.faults c.args.shelf.now) (g.S.Shelf.faults c.file_at.new.shelf) c.args.name.now c.in_ok-bytes.ensures.shelf.others
    (session_file c.args.rows) bad_sessions go SESSION_FILE_LIMIT c.in_ok-bytes.bytes.items (sessions-front c.args.rows) c.in_ok-bytes.ensures.read
    c.in-Err-Fault.fault c.in_ok-bad_sessions_ending-in-Err-Fault.field-0
    (ap (session_file c.args.rows) (sym c.deref.ensures.value) ∙ subst (λ (s : InputStop). Fails s (session_file c.args.rows c.deref.result.now)) c.in-Err-Fault.field-0-is c.in-Err-Fault.ensures.gives)
    (subst (λ (f : Fault). Fits (bad_sessions f) c.in_ok-bad_sessions_ending-in-Err-Fault.field-0) c.in-Err-Fault.fault-is c.in_ok-bad_sessions_ending-in-Err-Fault.ensures)

use Rattle.serde_json.specs.View.{view}
use Rattle.ct_json.proofs.Arrays.{value_read, value_fails}
use Rattle.ct_json.proofs.files.value_of.Goals as goal

pub returns-in-Ok : goal.returns-in-Ok
returns-in-Ok c = value_read c.args.bytes.now (view c.in-Ok.value) c.in-Ok.ensures.ok.0 c.in-Ok.ensures.ok.1

pub returns-in-Err : goal.returns-in-Err
returns-in-Err c = value_fails c.args.bytes.now c.unread.result c.in-Err.error c.unread.ensures c.in-Err.ensures.err

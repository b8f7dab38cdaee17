use Rattle.ct_input.proofs.Yields.{script_read}
use Rattle.ct_input.proofs.sessions.read_sessions.Goals as goal

pub returns-clause-script : goal.returns-clause-script
returns-clause-script c = script_read c.args.rows c.new-reader.result c.script_in.new.reader c.script_in.result c.script_in.ensures

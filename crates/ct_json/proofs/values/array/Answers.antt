use Rattle.std.proofs.Common.{sym}
use Rattle.serde_json.specs.View.{view}
use Rattle.ct_json.proofs.Arrays.{array_read}
use Rattle.ct_json.proofs.values.array.Goals as goal

pub returns-in-Some : goal.returns-in-Some
returns-in-Some c = rw c.as_slice.ensures.value (array_read c.args.here.now (view c.args.value.now) c.in-Some.values.now.items (sym c.in-Some.ensures))

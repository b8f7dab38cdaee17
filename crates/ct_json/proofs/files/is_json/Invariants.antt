use Rattle.std.proofs.Common.{◌≡◌, drop}
use Rattle.ct_json.specs.Values.{is_json}
use Rattle.ct_json.proofs.files.is_json.Given as goal

abbrev pub invariant-loop-byte : goal.invariant-loop-byte
invariant-loop-byte l = is_json (drop l.byte-index l.bytes) ≡ is_json l.bytes

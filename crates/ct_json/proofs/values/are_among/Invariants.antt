use Rattle.std.proofs.Common.{◌≡◌}
use Rattle.serde_json.specs.View.{members_view}
use Rattle.ct_json.specs.Values.{are_among}
use Rattle.ct_json.proofs.values.are_among.Given as goal

abbrev pub invariant-loop-key : goal.invariant-loop-key
invariant-loop-key l = are_among l.names (members_view l.key-iterator) ≡ are_among l.names (members_view l.initial.key-iterator)

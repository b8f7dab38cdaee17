use Rattle.std.proofs.Common.{◌≡◌, []}
use Rattle.ct_host.specs.Steps.{Helps}
use Rattle.ct_host.proofs.helping.help.Given as goal

abbrev pub invariant-loop : goal.invariant-loop
invariant-loop g l = record {
  helps : Helps l.initial.pass l.pass;
  none : l.batch ≡ [];
}

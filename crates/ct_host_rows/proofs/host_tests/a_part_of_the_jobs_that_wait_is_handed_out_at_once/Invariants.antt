use Rattle.std.proofs.Common.{◌≡◌, []}
use Rattle.ct_host.specs.Hosts.{IsOfHost}
use Rattle.ct_host_rows.proofs.host_tests.a_part_of_the_jobs_that_wait_is_handed_out_at_once.Given as goal

abbrev pub invariant-loop-entries : goal.invariant-loop-entries
invariant-loop-entries g l = record {
  own : IsOfHost l.host l.pass;
  none : l.batch ≡ [];
}

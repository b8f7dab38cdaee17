use Rattle.std.proofs.Common.{◌≡◌, ◌≤◌, []}
use Rattle.ct_workers.proofs.working.work.Given as goal

abbrev pub invariant-loop : goal.invariant-loop
invariant-loop g l = record {
  home : g.B.Bench.home l.bench ≡ g.B.Bench.home l.initial.bench;
  loan : g.B.Bench.loan l.bench ≡ g.B.Bench.loan l.initial.bench;
  place : g.B.Bench.place l.bench ≡ g.B.Bench.place l.initial.bench;
  count : g.B.Bench.count l.initial.bench ≤ g.B.Bench.count l.bench;
  none : l.batch ≡ [];
}

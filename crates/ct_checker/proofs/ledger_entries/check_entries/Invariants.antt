use Rattle.std.proofs.Common.{◌≡◌, ◌≤◌, ◌+◌, length, map, drop}
use Rattle.ct_instance.specs.Instance.{IsPoint}
use Rattle.ct_jobs.specs.declared.graded.GradedJob.{GradedJob}
use Rattle.ct_checker.specs.Refusals.{refused_entry}
use Rattle.ct_checker.proofs.ledger_entries.check_entries.Given as goal

abbrev pub invariant-loop-k : goal.invariant-loop-k
invariant-loop-k l = record {
  first : IsPoint l.inst l.first;
  second : IsPoint l.inst l.second;
  within : l.k ≤ length l.jobs;
  left : refused_entry l.inst l.moves.moves (4 + length l.moves.moves) (map (λ (j : GradedJob). j.job) l.jobs) l.entries ≡
      refused_entry l.inst l.moves.moves (4 + length l.moves.moves + l.k) (map (λ (j : GradedJob). j.job) (drop l.k l.jobs)) (drop l.k l.entries);
}

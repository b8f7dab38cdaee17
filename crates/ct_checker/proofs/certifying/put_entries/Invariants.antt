use Rattle.std.proofs.Common.{◌≡◌, map, take, All}
use Rattle.ct_jobs.specs.declared.graded.GradedJob.{GradedJob}
use Rattle.ct_checker.specs.Accepted.{job_of}
use Rattle.ct_checker.specs.Certified.{IsCertifiedEntry}
use Rattle.ct_checker.proofs.certifying.put_entries.Given as goal

abbrev pub invariant-loop-k : goal.invariant-loop-k
invariant-loop-k l = record {
  kept : l.ledger ≡ record l.initial.ledger { entries = l.ledger.entries };
  jobs : map job_of l.ledger.entries ≡ map (λ (j : GradedJob). j.job) (take l.k l.jobs);
  entries : All (IsCertifiedEntry l.inst l.moves.moves) l.ledger.entries;
}

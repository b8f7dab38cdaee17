use Rattle.std.proofs.Common.{ℕ, ◌≡◌, ◌+◌, Some, length, sym, ap, ◌∙◌, arith}
use Rattle.ct_instance.specs.declared.jobs.Job.TheVariants.{Generator}
use Rattle.ct_jobs.specs.declared.graded.GradedJob.{GradedJob}
use Rattle.ct_ledger.specs.declared.entries.LedgerEntry.TheVariants as entry
use Rattle.ct_checker.specs.declared.verdicts.Reason.TheVariants.{Entry}
use Rattle.ct_checker.proofs.Entries.{entry_beyond, entry_missing}
use Rattle.ct_checker.proofs.ledger_entries.check_entries.Goals as goal

pub returns-then-k-jobs-clause-refused : goal.returns-then-k-jobs-clause-refused
returns-then-k-jobs-clause-refused c =
    let n : ℕ = length c.args.moves.now.moves in
    let k : ℕ = c.loop-k.k in
    c.loop-k.invariant.left ∙
    entry_beyond c.args.inst.now c.args.moves.now.moves c.args.jobs.now c.args.entries.now (4 + n + k) k (entry.Coprime (Generator 0)) c.if-k-jobs.true c.loop-k-test.true ∙
    ap (λ m. Some (4 + m + k, Entry)) (sym c.len.ensures.count)

pub returns-then-entries-jobs-clause-refused : goal.returns-then-entries-jobs-clause-refused
returns-then-entries-jobs-clause-refused c =
    let n : ℕ = length c.args.moves.now.moves in
    let k : ℕ = c.loop-k.k in
    let e : k ≡ length c.args.entries.now = omega arith in
    let some : GradedJob = record { grade = 0; job = Generator 0 } in
    c.loop-k.invariant.left ∙
    entry_missing c.args.inst.now c.args.moves.now.moves c.args.jobs.now c.args.entries.now (4 + n + k) k some (omega (arith, c.if-entries-jobs.true)) (omega arith) ∙
    ap (λ m. Some (m, Entry)) (omega (arith, c.len.ensures.count))

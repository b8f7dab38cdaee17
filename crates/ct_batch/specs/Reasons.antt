-- The first refused line, from what is wrong with each entry by itself.
use Rattle.std.specs.Prelude.{ℕ, ◌+◌, nat_eq, cond, Option, Some, None, List, [], ◌∷◌, length, get_or}
use Rattle.std.specs.Option.{option_or, option_map}
use Rattle.ct_instance.specs.declared.jobs.Job.TheVariants.{Generator}
use Rattle.ct_ledger.specs.declared.entries.LedgerEntry.{LedgerEntry}
use Rattle.ct_ledger.specs.declared.entries.LedgerEntry.TheVariants as entry
use Rattle.ct_checker.specs.declared.verdicts.Reason.{Reason}
use Rattle.ct_checker.specs.declared.verdicts.Reason.TheVariants.{Entry}
use Rattle.ct_checker.specs.Refusals.{entry_reason}
use Rattle.ct_checker.specs.Dockets.{DocketParts, job_at}

-- what is wrong with the entry in the place k, from 0
abbrev pub reason_at : DocketParts → List LedgerEntry → ℕ → Option Reason
reason_at d es k = entry_reason d.instance d.moves (job_at d k) (get_or es k (entry.Coprime (Generator 0)))

-- the first line with a reason, of those that begin in line n
abbrev pub first_with_reason : ℕ → List (Option Reason) → Option (ℕ × Reason)
first_with_reason n [] = None
first_with_reason n (r ∷ rs) = option_or (option_map (λ reason. (n, reason)) r) (first_with_reason (n + 1) rs)

-- the same where there are so many jobs and so many entries: with no reason, the line where one of both ends first
abbrev pub first_wrong : ℕ → List (Option Reason) → ℕ → ℕ → Option (ℕ × Reason)
first_wrong n rs jobs entries = option_or (first_with_reason n rs) (cond (nat_eq jobs entries) None (Some (n + length rs, Entry)))

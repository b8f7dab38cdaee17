-- What there is to check of the entries of a ledger, and what is refused before them.
use Rattle.std.specs.Prelude.{ℕ, Option, List, get_or}
use Rattle.std.specs.Option.{option_or}
use Rattle.ct_instance.specs.declared.jobs.Job.{Job}
use Rattle.ct_instance.specs.declared.jobs.Job.TheVariants.{Generator}
use Rattle.ct_instance.specs.Instance.{Problem}
use Rattle.ct_instance.specs.TestSet.{Binomial}
use Rattle.ct_instance.specs.Jobs.{jobs_up_to}
use Rattle.ct_ledger.specs.Parts.{LedgerParts}
use Rattle.ct_checker.specs.declared.verdicts.Reason.{Reason}
use Rattle.ct_checker.specs.Accepted.{moves_of}
use Rattle.ct_checker.specs.Refusals.{refused_size, refused_move}

-- what a docket is seen as: moves of an instance, and the jobs that entries have to speak of, in order
pub record DocketParts : Type 0 where
  pub instance : Problem
  pub moves : List Binomial
  pub jobs : List Job

-- of a ledger: its moves, and their jobs of at most its grade
abbrev pub docket_of : Problem → LedgerParts → DocketParts
docket_of i l = record { instance = i; moves = moves_of l; jobs = jobs_up_to i (moves_of l) l.grade }

-- the job that the entry with this index, from 0, has to speak of
abbrev pub job_at : DocketParts → ℕ → Job
job_at d k = get_or d.jobs k (Generator 0)

-- the first refused line before the entries: of the size, or of the moves
abbrev pub refused_before : Problem → LedgerParts → Option (ℕ × Reason)
refused_before i l = option_or (refused_size i l) (refused_move i l.grade 4 (moves_of l))

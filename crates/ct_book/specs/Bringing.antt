-- A version on the way to a grade, over the jobs of the grade's whole test list.
use Rattle.std.specs.Prelude.{ℕ, ◌≤◌, ◌≡◌, List, map}
use Rattle.ct_instance.specs.Instance.{Problem}
use Rattle.ct_instance.specs.Versions.{level_of}
use Rattle.ct_instance.specs.Reach.{first_version_from}
use Rattle.ct_completion.specs.declared.journals.Entry.{Entry}
use Rattle.ct_completion.specs.Machine.{opened_jobs}
use Rattle.ct_completion.specs.OnePass.{journal_to}
use Rattle.ct_completion.specs.Kept.{AreLevels}
use Rattle.ct_version.specs.declared.finished.Finished.{Finished}
use Rattle.ct_version.specs.Editions.{level_seen}
use Rattle.ct_book.specs.Queues.{QueueSeen}
use Rattle.ct_book.specs.Insides.{fresh}

-- version k, at most the first that covers g: the levels up to its own, the journal up to it, its level, and the jobs
-- that it opens
pub record IsBrought (i : Problem) (g k : ℕ) (levels : List Finished) (entries : List Entry) (level : Finished) (q : QueueSeen) : Type 0 where
  pub early : k ≤ first_version_from i g
  pub levels_are : AreLevels i k (map level_seen levels)
  pub journal : entries ≡ journal_to i k
  pub level_is : level_seen level ≡ level_of i k
  pub queue : q ≡ fresh (opened_jobs i k)

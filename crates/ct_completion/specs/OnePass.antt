-- The journal in job order: what one pass writes down that alone takes the jobs of each grade in job order.
use Rattle.std.specs.Prelude.{ℕ, ◌+◌, List, [], ◌∷◌, ◌++◌, map, zero, suc}
use Rattle.ct_instance.specs.Instance.{Problem}
use Rattle.ct_completion.specs.declared.journals.Act.{Act}
use Rattle.ct_completion.specs.declared.journals.Act.TheVariants.{Stored, Published}
use Rattle.ct_completion.specs.declared.journals.Entry.{Entry}
use Rattle.ct_completion.specs.Machine.{opened_jobs}

-- up to version k: each job of the opened grade in job order, then the next version
abbrev pub acts_to : Problem → ℕ → List Act
acts_to i zero = []
acts_to i (suc k) = acts_to i k ++ (map Stored (opened_jobs i k) ++ Published (suc k) ∷ [])

-- entries of one pass with these acts, whose serials go on from n
abbrev pub entries_by : ℕ → ℕ → List Act → List Entry
entries_by pass n [] = []
entries_by pass n (act ∷ acts) = record { pass = pass; serial = n; act = act } ∷ entries_by pass (n + 1) acts

-- the journal of a book that pass 0 alone brought to version k in job order
abbrev pub journal_to : Problem → ℕ → List Entry
journal_to i k = entries_by 0 0 (acts_to i k)

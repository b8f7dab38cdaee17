use Rattle.std.proofs.lemmas.List.Filters.{dedup_is}
use Rattle.std.proofs.lemmas.List.Kept.{IsStrictlySortedBy-dedup}
use Rattle.ct_groups.proofs.SortedPairs.{pair_total, pair_ties, sorted_same, sorted_graded}
use Rattle.ct_groups.proofs.pairs.sort_pairs.Goals as goal

pub returns-clause-sorted : goal.returns-clause-sorted
returns-clause-sorted c = rw (dedup_is _ _ _ c.dedup.ensures.filtered) (IsStrictlySortedBy-dedup pair_total pair_ties _ c.sort_unstable.ensures.sorted)

pub returns-clause-same : goal.returns-clause-same
returns-clause-same c = rw (dedup_is _ _ _ c.dedup.ensures.filtered) (sorted_same _ _ c.sort_unstable.ensures.permutation)

pub returns-clause-graded : goal.returns-clause-graded
returns-clause-graded c = λ n h. rw (dedup_is _ _ _ c.dedup.ensures.filtered) (sorted_graded n _ _ c.sort_unstable.ensures.permutation h)

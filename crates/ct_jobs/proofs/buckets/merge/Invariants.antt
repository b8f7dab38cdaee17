use Rattle.std.proofs.Common.{◌≤◌, ◌++◌, IsPermutation, length, map}
use Rattle.ct_jobs.specs.Kept.{pair_of}
use Rattle.ct_jobs.proofs.buckets.merge.Given as goal

abbrev pub invariant-loop-last : goal.invariant-loop-last
invariant-loop-last l = record {
  jobs : IsPermutation (l.initial.merged ++ map pair_of l.initial.parked.items) (l.merged ++ map pair_of l.parked.items);
  parked : length l.parked.items ≤ length l.initial.parked.items;
}

abbrev pub decreases-loop-last : goal.decreases-loop-last
decreases-loop-last l = length l.parked.items

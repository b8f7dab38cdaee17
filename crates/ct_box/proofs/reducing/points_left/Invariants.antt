use Rattle.std.proofs.Common.{take, filter}
use Rattle.ct_vectors.specs.Vectors.{divides}
use Rattle.ct_instance.specs.Instance.{IsPoint}
use Rattle.ct_instance.specs.Jobs.{job_degree_of}
use Rattle.ct_solo.specs.Leaving.{LeavesPoints}
use Rattle.ct_box.proofs.reducing.points_left.Given as goal

abbrev pub invariant-loop-job : goal.invariant-loop-job
invariant-loop-job l = record {
  left : LeavesPoints l.moves.instance l.moves.moves (filter (λ j. divides (job_degree_of l.moves.instance l.moves.moves j) l.top) (take l.job-index l.jobs)) l.points.items;
  first : IsPoint l.moves.instance l.first;
  second : IsPoint l.moves.instance l.second;
}

use Rattle.std.proofs.Common.{◌≡◌, ◌≤◌, take, map}
use Rattle.ct_vectors.specs.declared.limits.TheConstants.{GRADE_LIMIT}
use Rattle.ct_version.specs.Desks.{Place}
use Rattle.ct_legal.specs.Scripts.{phase_with_solves}
use Rattle.ct_answer.specs.declared.options.Options.{Options}
use Rattle.ct_answer.specs.Told.{case_at}
use Rattle.ct_answer.specs.Extents.{grade_upto}
use Rattle.ct_answer.proofs.grades.grade_of.Given as goal

abbrev pub invariant-loop-phase : goal.invariant-loop-phase
invariant-loop-phase l = record {
  grade : (p : Place) (o : Options) → l.grade ≡ grade_upto (case_at p o) 0 (map phase_with_solves (take l.phase-index l.phases));
  limit : l.grade ≤ GRADE_LIMIT;
}

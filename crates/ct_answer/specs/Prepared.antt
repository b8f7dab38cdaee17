-- Answers that were found before they are asked for.
use Rattle.ct_instance.specs.Instance.{IsInstance}
use Rattle.ct_version.specs.Editions.{Edition}
use Rattle.ct_version.specs.Desks.{Place, IsOfPlace}
use Rattle.ct_version.specs.Answers.{IsAnswered}
use Rattle.ct_answer.specs.declared.prepared.Prepared.{Prepared}

-- the answer to its right-hand side by a version of the place
pub record IsPrepared (p : Place) (x : Prepared) : Type 0 where
  pub version : Edition
  pub instance : IsInstance p.instance
  pub of_place : IsOfPlace p version
  pub answered : IsAnswered version x.right x.answered

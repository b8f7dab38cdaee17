-- What a solo keeps, over plain data.
use Rattle.std.specs.Prelude.{ℕ, ◌≤◌, ◌≡◌, Bool, true, Some, List, length, map}
use Rattle.ct_vectors.specs.declared.limits.TheConstants.{GRADE_LIMIT, MOVE_LIMIT}
use Rattle.ct_instance.specs.Versions.{version_list, IsFullGrade}
use Rattle.ct_instance.specs.Reach.{opened_grade, last_opened}
use Rattle.ct_jobs.specs.GradedJobs.{graded_jobs}
use Rattle.ct_completion.specs.Kept.{AreLevels}
use Rattle.ct_version.specs.declared.finished.Finished.{Finished}
use Rattle.ct_version.specs.Editions.{Edition, IsEdition, level_seen}
use Rattle.ct_solo.specs.declared.agenda.Agenda.{Agenda}
use Rattle.ct_solo.specs.Agendas.{IsAgenda}
use Rattle.ct_solo.specs.Seen.{SoloSeen}

-- the version, the limit on the number of moves, whether the grade that the version opens is full, the levels of all
-- versions so far, whether the agenda is whole, and the agenda
pub record Insides : Type 0 where
  pub version : Edition
  pub limit : ℕ
  pub full : Bool
  pub levels : List Finished
  pub whole : Bool
  pub agenda : Agenda

abbrev pub solo_in : Insides → SoloSeen
solo_in x = record { instance = (x.version).instance; limit = x.limit; top = (x.agenda).top; number = (x.version).number }

-- the agenda is that of the jobs of the version's list
pub record HasAgenda (v : Edition) (a : Agenda) : Type 0 where
  pub opened : a.opened ≡ last_opened v.instance v.number
  pub jobs : IsAgenda (version_list v.instance v.number) (graded_jobs v.instance (version_list v.instance v.number)) a

pub record IsSolo (x : Insides) : Type 0 where
  pub edition : IsEdition x.version
  pub most : length (version_list (x.version).instance (x.version).number) ≤ x.limit
  pub limit : x.limit ≤ MOVE_LIMIT
  pub top : (x.agenda).top ≤ GRADE_LIMIT
  pub levels : AreLevels (x.version).instance (x.version).number (map level_seen x.levels)
  pub marked : x.full ≡ true → (d : ℕ) × (opened_grade (x.version).instance (x.version).number ≡ Some d) × IsFullGrade (x.version).instance x.limit d
  pub agenda : x.whole ≡ true → HasAgenda x.version x.agenda

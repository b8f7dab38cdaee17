-- How far the moves come, and how many they are.
use Rattle.std.specs.Prelude.{ℕ, ◌≡◌, List, [], ◌∷◌, length}
use Rattle.ct_instance.specs.Instance.{Problem}
use Rattle.ct_instance.specs.Versions.{level_of, version_list, IsVersion}
use Rattle.ct_instance.specs.Reach.{reach_of}
use Rattle.ct_version.specs.Editions.{level_seen}
use Rattle.ct_input.specs.declared.script.Phase.{Phase}
use Rattle.ct_input.specs.declared.script.Script.{Script}
use Rattle.ct_legal.specs.Cases.{Case}
use Rattle.ct_legal.specs.Scripts.{with_solves, grade_after}
use Rattle.ct_answer.specs.declared.extent.Extent.{Extent}

-- the grade that is worked for up to the end of some phases
abbrev pub grade_upto : Case → ℕ → List Phase → ℕ
grade_upto c grade [] = grade
grade_upto c grade (phase ∷ phases) = grade_upto c (grade_after c grade phase) phases

-- the grade that is worked for in all of the script, each ask as a solve
abbrev pub last_grade : Case → Script → ℕ
last_grade c script = grade_upto c 0 (with_solves script).phases

-- the level to which a completion for the grade comes, and the number of moves of the version with that level
pub record IsExtent (i : Problem) (limit grade : ℕ) (extent : Extent) : Type 0 where
  pub level : level_seen extent.level ≡ reach_of i limit grade
  pub number : ℕ
  pub version : IsVersion i number
  pub same : level_of i number ≡ level_seen extent.level
  pub moves : extent.moves ≡ length (version_list i number)

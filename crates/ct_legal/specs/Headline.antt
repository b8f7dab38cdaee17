-- What the lines of a report say to who asked. The statement is the contract of a function in the module `laws`.
use Rattle.std.specs.Prelude.{ℕ, ◌≤◌, ◌<◌, max, Bool, true, false, List, [], ◌∷◌, length, Option, Some, None}
use Rattle.std.specs.List.{AllZip}
use Rattle.ct_vectors.specs.Vectors.{total}
use Rattle.ct_instance.specs.Instance.{Problem, IsInstance, start_of}
use Rattle.ct_instance.specs.Fiber.{IsLeast}
use Rattle.ct_instance.specs.Answer.{IsSolution}
use Rattle.ct_instance.specs.Laws.{IsOptimum, IsShort}
use Rattle.ct_instance.specs.TestSet.{Binomial, IsTestList}
use Rattle.ct_instance.specs.Walk.{IsWalk}
use Rattle.ct_instance.specs.Versions.{Covers}
use Rattle.ct_input.specs.declared.script.Request.{Request}
use Rattle.ct_input.specs.declared.script.Request.TheVariants.{Ask, Solve}
use Rattle.ct_input.specs.declared.script.Phase.{Phase}
use Rattle.ct_input.specs.declared.script.Script.{Script}
use Rattle.ct_input.specs.Script.{right_of, IsScript}
use Rattle.ct_version.specs.declared.answers.Answer.{Answer}
use Rattle.ct_version.specs.declared.answers.Answer.TheVariants.{Optimum, Infeasible}
use Rattle.ct_version.specs.declared.finished.Finished.{Finished}
use Rattle.ct_version.specs.Editions.{level_seen}
use Rattle.ct_session.specs.declared.lines.Line.{Line}
use Rattle.ct_session.specs.declared.lines.Line.TheVariants.{Answered, NotYet, Full}
use Rattle.ct_report.specs.declared.reports.PhaseReport.{PhaseReport}
use Rattle.ct_report.specs.declared.reports.Report.{Report}
use Rattle.ct_legal.specs.Cases.{plain_case}
use Rattle.ct_legal.specs.Scripts.{with_solves}
use Rattle.ct_legal.specs.Legal.{IsLegalServed, IsLegalAnswered}

-- ---- answers

-- what an answer says of b: the least of its solutions, with its costs; or that it has none, and by how much each point misses b
abbrev pub SaysRight : Problem → List ℕ → Answer → Type 0
SaysRight i b (Optimum x costs) = IsOptimum i b x costs
SaysRight i b (Infeasible short) = IsShort i b short × ((x : List ℕ) → IsSolution i b x → ⊥)

-- the walk from (0, b) to the least point by the test list of the sum of b
pub record IsTrueWalk (i : Problem) (b : List ℕ) (steps : List (ℕ × ℕ)) : Type 0 where
  pub moves : List Binomial
  pub test : IsTestList i (total b) moves
  pub end : List ℕ
  pub walk : IsWalk moves (start_of i b) steps end
  pub least : IsLeast i b end

-- a walk is told exactly where walks are asked for
abbrev pub IsWalkTold : Problem → Bool → List ℕ → Option (List (ℕ × ℕ)) → Type 0
IsWalkTold i true b (Some steps) = IsTrueWalk i b steps
IsWalkTold i false b None = Unit {0}
IsWalkTold i walks b walk = ⊥

-- ---- the limit on the number of moves

-- the test list of g has no more moves than the limit
abbrev pub HasRoom : Problem → ℕ → ℕ → Type 0
HasRoom i limit g = (moves : List Binomial) → IsTestList i g moves → length moves ≤ limit

-- g is the first grade whose test list has more
pub record IsFirstFull (i : Problem) (limit g : ℕ) : Type 0 where
  pub full : HasRoom i limit g → ⊥
  pub first : (h : ℕ) → h < g → HasRoom i limit h

-- a level is told exactly where levels are asked for: it is at least the target, unless that has too many moves
abbrev pub IsLevelTold : Problem → ℕ → Bool → ℕ → Option Finished → Type 0
IsLevelTold i limit true target (Some finished) = HasRoom i limit target → Covers (level_seen finished) target
IsLevelTold i limit false target None = Unit {0}
IsLevelTold i limit levels target level = ⊥

-- ---- what is told

-- the sum of the right-hand side that an instance has for a request
abbrev pub asked_sum : (List ℕ → List ℕ) → Request → ℕ
asked_sum right request = total (right (right_of request))

-- the least level that may be told after this line: a sum that was answered is never early again
abbrev pub low_told : (List ℕ → List ℕ) → ℕ → Request → Line → ℕ
low_told right low request (Answered answer walk) = max low (asked_sum right request)
low_told right low request (NotYet f) = max low f
low_told right low request (Full g) = low

-- of an instance, the right-hand side that it has for the numbers of a request, and what an answer says of those numbers
module _ (i : Problem) (right : List ℕ → List ℕ) (Says : List ℕ → Answer → Type 0) (limit : ℕ) (walks levels : Bool) where
  -- Full is told of a solve exactly where the test list of some grade up to its sum has more moves than the limit. Not yet is
  -- told of an ask alone, with a level below its sum that is no lower than what its session was told before.
  abbrev pub IsTrueLine : ℕ → Request → Line → Type 0
  IsTrueLine low request (Answered answer walk) =
      HasRoom i limit (asked_sum right request) × Says (right_of request) answer × IsWalkTold i walks (right (right_of request)) walk
  IsTrueLine low (Solve b) (Full g) = (g ≤ total (right b)) × IsFirstFull i limit g
  IsTrueLine low (Ask b) (NotYet f) = (low ≤ f) × (f < total (right b))
  IsTrueLine low request line = ⊥

  -- one line for each request, in order
  abbrev pub AreTrueLines : ℕ → List Request → List Line → Type 0
  AreTrueLines low [] [] = Unit {0}
  AreTrueLines low (request ∷ requests) (line ∷ lines) = IsTrueLine low request line × AreTrueLines (low_told right low request line) requests lines
  AreTrueLines low requests lines = ⊥

  -- the lines of each session, in order, which starts with the level 0; and the level at the end
  abbrev pub IsTruePhase : Phase → PhaseReport → Type 0
  IsTruePhase phase told = AllZip (AreTrueLines 0) phase.sessions told.sessions × IsLevelTold i limit levels phase.target told.level

  -- what is told of each phase, in order
  abbrev pub AreTruePhases : List Phase → List PhaseReport → Type 0
  AreTruePhases phases told = AllZip IsTruePhase phases told

-- ---- legal reports of an instance that is asked for its own right-hand sides

-- each line of a legal report is true where asks may be answered or not yet
abbrev pub ServedIsTrue : Type 0
ServedIsTrue =
    (i : Problem) → IsInstance i → (limit : ℕ) (walks levels : Bool) (script : Script) → IsScript i.rows script → (report : Report) →
    IsLegalServed (plain_case i limit walks levels) script report → AreTruePhases i (λ b. b) (SaysRight i) limit walks levels script.phases report.phases

-- and where each ask is taken as a solve
abbrev pub AnsweredIsTrue : Type 0
AnsweredIsTrue =
    (i : Problem) → IsInstance i → (limit : ℕ) (walks levels : Bool) (script : Script) → IsScript i.rows script → (report : Report) →
    IsLegalAnswered (plain_case i limit walks levels) script report → AreTruePhases i (λ b. b) (SaysRight i) limit walks levels (with_solves script).phases report.phases

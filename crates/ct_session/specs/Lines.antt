-- What a request is told: what each line means, by the instance, the limit on the number of moves, and the outcome that is
-- shown for the right-hand side.
use Rattle.std.specs.Prelude.{ℕ, ◌<◌, ◌≡◌, Bool, true, false, List, Option, Some, None}
use Rattle.ct_vectors.specs.Vectors.{total}
use Rattle.ct_instance.specs.Instance.{Problem, start_of}
use Rattle.ct_instance.specs.Fiber.{least_of}
use Rattle.ct_instance.specs.Answer.{Outcome}
use Rattle.ct_instance.specs.TestSet.{test_list}
use Rattle.ct_instance.specs.Walk.{IsWalk}
use Rattle.ct_instance.specs.Versions.{Level, Covers, upto}
use Rattle.ct_instance.specs.Reach.{full_grade_up_to}
use Rattle.ct_version.specs.Answers.{outcome_seen}
use Rattle.ct_session.specs.declared.lines.Line.{Line}
use Rattle.ct_session.specs.declared.lines.Line.TheVariants.{Answered, NotYet, Full}

-- a walk is shown exactly where walks are asked for: the steps from (0, b) to the least point by the test list of the sum of b
abbrev pub IsWalkShown : Problem → Bool → List ℕ → Option (List (ℕ × ℕ)) → Type 0
IsWalkShown i true b (Some steps) = IsWalk (test_list i (total b)) (start_of i b) steps (least_of i b)
IsWalkShown i true b None = ⊥
IsWalkShown i false b (Some steps) = ⊥
IsWalkShown i false b None = Unit {0}

-- the line shows this outcome, and the walk of b where walks are asked for
abbrev pub IsAnsweredLine : Problem → Bool → Outcome → List ℕ → Line → Type 0
IsAnsweredLine i walks outcome b (Answered answer walk) = (outcome_seen answer ≡ outcome) × IsWalkShown i walks b walk
IsAnsweredLine i walks outcome b (NotYet finished) = ⊥
IsAnsweredLine i walks outcome b (Full grade) = ⊥

-- ---- solves

-- full where there is this full grade, and else answered
abbrev pub IsFullOrAnswered : Option ℕ → Problem → Bool → Outcome → List ℕ → Line → Type 0
IsFullOrAnswered (Some f) i walks outcome b line = line ≡ Full f
IsFullOrAnswered None i walks outcome b line = IsAnsweredLine i walks outcome b line

-- the line of a solve: full exactly where the full grade is at most the sum of b
abbrev pub IsSolveLine : Problem → ℕ → Bool → Outcome → List ℕ → Line → Type 0
IsSolveLine i limit walks outcome b line = IsFullOrAnswered (full_grade_up_to i limit (total b)) i walks outcome b line

-- ---- asks

-- the line of an ask by a version of this level: answered where the level covers the sum of b, and else not yet, by the grade
-- up to which the version is finished
abbrev pub IsAskLine : Problem → Level → Bool → Outcome → List ℕ → Line → Type 0
IsAskLine i level walks outcome b (Answered answer walk) = Covers level (total b) × IsAnsweredLine i walks outcome b (Answered answer walk)
IsAskLine i level walks outcome b (NotYet finished) = (level ≡ upto finished) × (finished < total b)
IsAskLine i level walks outcome b (Full grade) = ⊥

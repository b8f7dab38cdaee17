-- The definitions on worked reports, by computation: two coins of 3 and 5 at cost 2 and 3.
use Rattle.std.proofs.Common.{ℕ, pos, ◌≡◌, true, false, List, [], ◌∷◌, Some, None, refl, lit≤, ◌≤◌, arith}
use Rattle.ct_instance.specs.Instance.{Problem}
use Rattle.ct_instance.specs.Fiber.{fiber_of, least_of}
use Rattle.ct_instance.specs.TestSet.{lists_of, test_moves_at, test_list}
use Rattle.ct_instance.specs.Jobs.{all_jobs}
use Rattle.ct_instance.specs.Walk.{ends}
use Rattle.ct_instance.specs.Versions.{level_after, level_of, version_list}
use Rattle.ct_instance.specs.Reach.{first_version_from, full_grade_up_to, reach_of}
use Rattle.ct_version.specs.declared.answers.Answer.TheVariants.{Optimum}
use Rattle.ct_version.specs.declared.finished.Finished.TheVariants.{Upto}
use Rattle.ct_session.specs.declared.lines.Line.{Line}
use Rattle.ct_session.specs.declared.lines.Line.TheVariants.{Answered, NotYet, Full}
use Rattle.ct_input.specs.declared.script.Request.{Request}
use Rattle.ct_input.specs.declared.script.Request.TheVariants.{Ask, Solve}
use Rattle.ct_input.specs.declared.script.Script.{Script}
use Rattle.ct_report.specs.declared.reports.Report.{Report}
use Rattle.ct_legal.specs.Cases.{plain_case}
use Rattle.ct_legal.specs.Legal.{IsShownLevel, IsLegalServed, IsLegalAnswered}

abbrev coins : Problem
coins = record { rows = 1; columns = (3 ∷ []) ∷ (5 ∷ []) ∷ []; cost_rows = (pos 2 ∷ pos 3 ∷ []) ∷ [] }

-- one session in one phase
abbrev script_of : List Request → Script
script_of requests = record { phases = record { target = 0; sessions = requests ∷ [] } ∷ [] }

abbrev report_of : List Line → ℕ → Report
report_of lines level = record { phases = record { sessions = lines ∷ []; level = Some (Upto level) } ∷ [] }

abbrev optimum_at : ℕ → ℕ → ℕ → Line
optimum_at x y cost = Answered (Optimum (x ∷ y ∷ []) (pos cost ∷ [])) None

abbrev three_requests : List Request
three_requests = Solve (8 ∷ []) ∷ Ask (9 ∷ []) ∷ Ask (10 ∷ []) ∷ []

-- 9 is the level of version 4, and what the reach of 8 is
not_yet : IsShownLevel (plain_case coins 4096 false true) 8 9 (10 ∷ []) 9
unfolding reach_of full_grade_up_to first_version_from version_list level_of level_after test_list test_moves_at lists_of least_of fiber_of all_jobs
not_yet = record { level = record { number = 4; version = (7, refl); same = refl; within = lit≤ tt }; below = lit≤ tt; reached = lit≤ tt; rises = lit≤ tt }

-- an ask for 10 after a solve of 8 isn't answered yet
served : IsLegalServed (plain_case coins 4096 false true) (script_of three_requests) (report_of (optimum_at 1 1 5 ∷ optimum_at 3 0 6 ∷ NotYet 9 ∷ []) 9)
unfolding reach_of full_grade_up_to first_version_from version_list level_of level_after test_list test_moves_at lists_of least_of fiber_of all_jobs
served = ((((refl, tt), ((refl, (refl, tt)), (not_yet, tt))), tt), refl, tt)

-- taken as a solve it is
answered : IsLegalAnswered (plain_case coins 4096 false true) (script_of three_requests) (report_of (optimum_at 1 1 5 ∷ optimum_at 3 0 6 ∷ optimum_at 0 2 6 ∷ []) 10)
unfolding reach_of full_grade_up_to first_version_from version_list level_of level_after test_list test_moves_at lists_of least_of fiber_of all_jobs
answered = ((((refl, tt), ((refl, tt), ((refl, tt), tt))), tt), refl, tt)

-- with a limit of two moves the test list of 6 is too long
full : IsLegalAnswered (plain_case coins 2 false true) (script_of (Solve (5 ∷ []) ∷ Solve (6 ∷ []) ∷ [])) (report_of (optimum_at 0 1 3 ∷ Full 6 ∷ []) 5)
unfolding reach_of full_grade_up_to first_version_from version_list level_of level_after test_list test_moves_at lists_of least_of fiber_of all_jobs
full = ((((refl, tt), (refl, tt)), tt), refl, tt)

-- ---- what isn't legal

same_grade : (g h : ℕ) → Full g ≡ Full h → g ≡ h
same_grade g h same = cc

-- full one grade late
late_full : IsLegalAnswered (plain_case coins 2 false true) (script_of (Solve (6 ∷ []) ∷ [])) (report_of (Full 7 ∷ []) 5) → ⊥
unfolding reach_of full_grade_up_to first_version_from version_list level_of level_after test_list test_moves_at lists_of least_of fiber_of all_jobs
late_full legal = let late : 7 ≡ 6 = same_grade 7 6 ((legal.0).0).0 in absurd (omega (arith, late))

-- not yet below what the floor reaches
low_level : IsShownLevel (plain_case coins 4096 false true) 8 0 (10 ∷ []) 7 → ⊥
unfolding reach_of full_grade_up_to first_version_from version_list level_of level_after test_list test_moves_at lists_of least_of fiber_of all_jobs
low_level shown = let reached : 9 ≤ 7 = shown.reached in absurd (omega (arith, reached))

-- an answer without the walk that is asked for
no_walk : IsLegalAnswered (plain_case coins 4096 true false) (record { phases = record { target = 0; sessions = (Solve (0 ∷ []) ∷ []) ∷ [] } ∷ [] })
    (record { phases = record { sessions = (optimum_at 0 0 0 ∷ []) ∷ []; level = None } ∷ [] }) → ⊥
unfolding full_grade_up_to test_list test_moves_at lists_of least_of fiber_of
no_walk legal = absurd (((legal.0).0).0).1

-- the walk of 0 has no step
walk_of_zero : IsLegalAnswered (plain_case coins 4096 true false) (record { phases = record { target = 0; sessions = (Solve (0 ∷ []) ∷ []) ∷ [] } ∷ [] })
    (record { phases = record { sessions = (Answered (Optimum (0 ∷ 0 ∷ []) (pos 0 ∷ [])) (Some []) ∷ []) ∷ []; level = None } ∷ [] })
unfolding full_grade_up_to test_list test_moves_at lists_of least_of fiber_of
walk_of_zero = ((((refl, ends (0 ∷ 0 ∷ 0 ∷ []) refl), tt), tt), tt, tt)

-- What holds of versions, their levels, the full grade and the reach. Each statement is the contract of a function in the
-- module `laws`.
use Rattle.std.specs.Prelude.{ℕ, ◌+◌, ◌-◌, ◌≤◌, ◌<◌, ◌≡◌, ◌↔◌, Some, None, List, length, suc}
use Rattle.ct_vectors.specs.declared.limits.TheConstants.{GRADE_LIMIT, JOB_GRADE_LIMIT}
use Rattle.ct_instance.specs.Instance.{Problem, IsInstance, IsPoint, degree_of, grade_of}
use Rattle.ct_instance.specs.Fiber.{least_of}
use Rattle.ct_instance.specs.TestSet.{Binomial, test_list, IsTestList}
use Rattle.ct_instance.specs.Walk.{IsWalk, IsWalkEnd}
use Rattle.ct_instance.specs.Jobs.{jobs_at}
use Rattle.ct_instance.specs.Versions.{upto, Covers, least_above, level_of, version_list, IsVersion, IsFullGrade}
use Rattle.ct_instance.specs.Reach.{opened_grade, last_opened, first_version_from, first_level_from, full_grade_up_to, reach_of}
use Rattle.ct_levels.specs.Levels.{job_grades, AreGradesOf, IsFirstVersion, IsOpenedWithin, IsLevelWithin}

-- ---- lists

-- a version's list is the test list of each grade from the one that was opened last, or from 0, up to its level
abbrev pub ListIsTestList : Type 0
ListIsTestList =
    (i : Problem) → IsInstance i → (k g : ℕ) → IsVersion i k → last_opened i k ≤ g → Covers (level_of i k) g → version_list i k ≡ test_list i g

-- for an earlier grade too it is the test list of some later one
abbrev pub ListIsLaterTestList : Type 0
ListIsLaterTestList =
    (i : Problem) → IsInstance i → (k g : ℕ) → IsVersion i k → Covers (level_of i k) g → (h : ℕ) × (g ≤ h) × (version_list i k ≡ test_list i h)

-- ---- levels

-- the grade that a version opens is the least grade of a job of its list above the one that was opened last
abbrev pub OpenedIsNextJobGrade : Type 0
OpenedIsNextJobGrade = (i : Problem) (k : ℕ) → IsVersion i k → opened_grade i k ≡ least_above (last_opened i k) (job_grades i (version_list i k))

-- so it has a job
abbrev pub OpenedHasJob : Type 0
OpenedHasJob = (i : Problem) (k d : ℕ) → IsVersion i k → opened_grade i k ≡ Some d → 1 ≤ length (jobs_at i (version_list i k) d)

-- a version covers the grade that was opened last
abbrev pub OpenedIsCovered : Type 0
OpenedIsCovered = (i : Problem) (k : ℕ) → IsVersion i k → Covers (level_of i k) (last_opened i k)

-- where the grade that was opened last is within the limit of grades, the next one is within that of jobs
abbrev pub OpenedIsWithin : Type 0
OpenedIsWithin =
    (i : Problem) → IsInstance i → (k d : ℕ) → IsVersion i k → last_opened i k ≤ GRADE_LIMIT → opened_grade i k ≡ Some d → d ≤ JOB_GRADE_LIMIT

-- what a version covers, each later one covers
abbrev pub LevelsRise : Type 0
LevelsRise = (i : Problem) (j k g : ℕ) → j ≤ k → Covers (level_of i j) g → Covers (level_of i k) g

-- the number of a version is at most the grade that was opened last, and so it is covered too
abbrev pub NumberIsWithin : Type 0
NumberIsWithin = (i : Problem) (k : ℕ) → IsVersion i k → k ≤ last_opened i k

-- where a version stands, each earlier one stands
abbrev pub VersionsStandBefore : Type 0
VersionsStandBefore = (i : Problem) (k : ℕ) → IsVersion i (suc k) → IsVersion i k

-- ---- the version that covers a grade

-- the first version that covers g is what it is named after
abbrev pub FirstVersionIsOne : Type 0
FirstVersionIsOne = (i : Problem) (g k : ℕ) → (k ≡ first_version_from i g) ↔ IsFirstVersion i g k

-- there is such a version, and the grade that was opened last for it is at most g
abbrev pub GradeIsCovered : Type 0
GradeIsCovered = (i : Problem) (g k : ℕ) → IsFirstVersion i g k → IsVersion i k × (last_opened i k ≤ g)

-- the test list of g is its list
abbrev pub TestListIsOfFirst : Type 0
TestListIsOfFirst = (i : Problem) → IsInstance i → (g : ℕ) → test_list i g ≡ version_list i (first_version_from i g)

-- ---- versions before it, told by the whole list

-- up to the first version that covers g, the opened grades are the next job grades of the test list of g
abbrev pub OpenedIsNextOfWhole : Type 0
OpenedIsNextOfWhole =
    (i : Problem) → IsInstance i → (g k : ℕ) → k ≤ first_version_from i g → opened_grade i k ≡ least_above (last_opened i k) (job_grades i (test_list i g))

-- so the number of that version counts the grades of the jobs up to g
abbrev pub GradesCountVersions : Type 0
GradesCountVersions =
    (i : Problem) → IsInstance i → (g : ℕ) (ms : List Binomial) → IsTestList i g ms → (grades : List ℕ) → AreGradesOf i ms g grades →
    length grades ≡ first_version_from i g

-- ---- walks

-- the walk by a version's list of a point that it covers is the walk by the test list of the point's grade
abbrev pub VersionWalks : Type 0
VersionWalks =
    (i : Problem) → IsInstance i → (k : ℕ) → IsVersion i k → (p : List ℕ) → IsPoint i p → Covers (level_of i k) (grade_of i.columns p) →
    (steps : List (ℕ × ℕ)) (q : List ℕ) → IsWalk (version_list i k) p steps q ↔ IsWalk (test_list i (grade_of i.columns p)) p steps q

-- and it ends at the least point of the fiber
abbrev pub VersionWalkEndsAtLeast : Type 0
VersionWalkEndsAtLeast =
    (i : Problem) → IsInstance i → (k : ℕ) → IsVersion i k → (p : List ℕ) → IsPoint i p → Covers (level_of i k) (grade_of i.columns p) →
    (q : List ℕ) → IsWalkEnd (version_list i k) p q → q ≡ least_of i (degree_of i.columns p)

-- ---- the full grade

-- where a version is within the limit and the next list isn't, the grade that it opens is the full grade
abbrev pub OpenedIsFull : Type 0
OpenedIsFull =
    (i : Problem) → IsInstance i → (limit k l : ℕ) → IsVersion i k → level_of i k ≡ upto l → length (version_list i k) ≤ limit →
    limit < length (test_list i (l + 1)) → IsFullGrade i limit (l + 1)

-- the full grade is the grade that some version opens, and the list of that version is within the limit
abbrev pub FullIsOpened : Type 0
FullIsOpened = (i : Problem) → IsInstance i → (limit f : ℕ) → IsFullGrade i limit f → (k : ℕ) × IsOpenedWithin i limit f k

-- a version within the limit covers only grades below the full grade
abbrev pub WithinIsBelowFull : Type 0
WithinIsBelowFull =
    (i : Problem) → IsInstance i → (limit k g f : ℕ) → IsVersion i k → length (version_list i k) ≤ limit → Covers (level_of i k) g → IsFullGrade i limit f → g < f

-- the full grade up to g is the full grade, where that is at most g
abbrev pub FullGradeIsFound : Type 0
FullGradeIsFound = (i : Problem) (limit g f : ℕ) → (full_grade_up_to i limit g ≡ Some f) ↔ (IsFullGrade i limit f × (f ≤ g))

-- and none exactly where the test list of g is within the limit
abbrev pub NoFullGrade : Type 0
NoFullGrade = (i : Problem) (limit g : ℕ) → (full_grade_up_to i limit g ≡ None) ↔ (length (test_list i g) ≤ limit)

-- ---- the reach

-- the grade before the full grade where that is at most g
abbrev pub ReachWhereFull : Type 0
ReachWhereFull = (i : Problem) (limit g f : ℕ) → full_grade_up_to i limit g ≡ Some f → reach_of i limit g ≡ upto (f - 1)

-- and the level that covers g, where a version within the limit does
abbrev pub ReachWhereWithin : Type 0
ReachWhereWithin =
    (i : Problem) → IsInstance i → (limit k g : ℕ) → IsVersion i k → length (version_list i k) ≤ limit → Covers (level_of i k) g →
    (full_grade_up_to i limit g ≡ None) × (reach_of i limit g ≡ first_level_from i g)

-- the reach is the level of a version within the limit
abbrev pub ReachIsLevel : Type 0
ReachIsLevel = (i : Problem) → IsInstance i → (limit g : ℕ) → IsLevelWithin i limit (reach_of i limit g)

-- it covers g exactly where no full grade is at most g
abbrev pub ReachCovers : Type 0
ReachCovers = (i : Problem) → IsInstance i → (limit g : ℕ) → Covers (reach_of i limit g) g ↔ (full_grade_up_to i limit g ≡ None)

-- it rises with the grade
abbrev pub ReachRises : Type 0
ReachRises = (i : Problem) → IsInstance i → (limit g h x : ℕ) → g ≤ h → Covers (reach_of i limit g) x → Covers (reach_of i limit h) x

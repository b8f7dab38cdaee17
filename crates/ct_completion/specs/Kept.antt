-- What a completion keeps, said over plain data: the levels so far, what its mark says, and the room for what the journal
-- can still get in the opened grade.
use Rattle.std.specs.Prelude.{ℕ, ◌+◌, ◌≤◌, ◌≡◌, true, false, Some, List, [], length, map}
use Rattle.ct_vectors.specs.Vectors.{up_to}
use Rattle.ct_instance.specs.Instance.{Problem}
use Rattle.ct_instance.specs.Versions.{Level, level_of, IsFullGrade}
use Rattle.ct_instance.specs.Reach.{opened_grade}
use Rattle.ct_completion.specs.Machine.{CompletionState}

-- the levels of versions 0 to k
abbrev pub AreLevels : Problem → ℕ → List Level → Type 0
AreLevels i k levels = levels ≡ map (level_of i) (up_to k)

-- where the state is marked full, no job is in the queue and the opened grade is full
abbrev pub IsMarkRight : Problem → ℕ → CompletionState → Type 0
IsMarkRight i limit s = s.full ≡ true → (s.queue ≡ []) × ((d : ℕ) × (opened_grade i s.number ≡ Some d) × IsFullGrade i limit d)

-- where a grade is open and the state isn't marked, the journal has room for an entry a job in the queue, and one more
abbrev pub HasRoom : Problem → CompletionState → ℕ → ℕ → Type 0
HasRoom i s entries room = (d : ℕ) → opened_grade i s.number ≡ Some d → s.full ≡ false → entries + length s.queue + 1 ≤ room

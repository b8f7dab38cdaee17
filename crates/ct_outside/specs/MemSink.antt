-- A sink in memory, and what its next write takes.
use Rattle.std.specs.Prelude.{ℕ, ◌-◌, List, [], ◌++◌, Bool, ◌||◌, if◌then◌else◌, ◌==◌, min, length, take, Option, Some, None}
use Rattle.std.specs.List.{list_any}
use Rattle.ct_outside.specs.Faults.{one_more}

-- the bytes held, the most for one write and for all, the number of writes, the numbers of those that are to fail, and the count of faults
pub record SinkState : Type 0 where
  pub held : List ℕ
  pub bite : ℕ
  pub room : ℕ
  pub writes : ℕ
  pub failing : List ℕ
  pub faults : ℕ

-- no byte, and no write yet
abbrev pub empty_sink : ℕ → ℕ → SinkState
empty_sink bite room = record { held = []; bite = bite; room = room; writes = 0; failing = []; faults = 0 }

-- whether the next write fails: it is to fail, or the room is used up
abbrev pub is_refusing : SinkState → Bool
is_refusing sink = list_any (λ call. call == one_more sink.writes) sink.failing || (length sink.held == sink.room)

-- how many bytes of a piece the next write takes, or none where it fails
abbrev pub next_taken : SinkState → List ℕ → Option ℕ
next_taken sink piece = if is_refusing sink then None else Some (min (length piece) (min sink.bite (sink.room - length sink.held)))

-- the sink after a write that took so many bytes, or failed
abbrev pub after_write : SinkState → List ℕ → Option ℕ → SinkState
after_write sink piece (Some taken) = record sink { writes = one_more sink.writes; held = sink.held ++ take taken piece }
after_write sink piece None = record sink { writes = one_more sink.writes; faults = one_more sink.faults }

-- The memory that a sink has taken for its bytes.
use Rattle.std.specs.Prelude.{ℕ, ◌≤◌, vec_len, vec_capacity, Vec}
use Rattle.std.specs.declared.alloc.Global.{Global}

-- it holds no more than its room, for which it has memory, and takes at least a byte at a time
pub record HasRoom (bytes : Vec ℕ Global) (bite room : ℕ) : Type 0 where
  pub within : vec_len bytes ≤ room
  pub taken : room ≤ vec_capacity bytes
  pub bites : 1 ≤ bite

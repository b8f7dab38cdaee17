-- A write that is asked again after it was interrupted.
use Rattle.std.proofs.Common.{ℕ, List, Some, None, Option, Result, Ok, Err, ap, ◌∙◌, append-nil, ◌++◌, []}
use Rattle.std.proofs.KnownBytes.{Keeps-trans}
use Rattle.std.specs.Io.KnownBytes.{Appends, Keeps, WriteAppends}

keeps_appends : (old mid new : Option (List ℕ)) (bytes : List ℕ) → Keeps old mid → Appends mid new bytes → Appends old new bytes
keeps_appends None mid new bytes kept more = tt
keeps_appends (Some xs) None new bytes kept more = absurd kept
keeps_appends (Some xs) (Some ys) None bytes kept more = absurd more
keeps_appends (Some xs) (Some ys) (Some zs) bytes kept more = more ∙ ap (λ front. front ++ bytes) kept

-- what it did counts from before
pub retried : {E : Type 0} → (old mid new : Option (List ℕ)) (result : Result ℕ E) (piece : List ℕ) → Keeps old mid → WriteAppends mid new result piece → WriteAppends old new result piece
retried old mid new (Ok count) piece kept wrote = keeps_appends old mid new _ kept wrote
retried old mid new (Err error) piece kept wrote = Keeps-trans old mid new kept wrote

-- one that takes nothing keeps what there is
pub took_nothing : (old new : Option (List ℕ)) → Appends old new [] → Keeps old new
took_nothing None new more = tt
took_nothing (Some xs) None more = absurd more
took_nothing (Some xs) (Some ys) more = more ∙ append-nil xs

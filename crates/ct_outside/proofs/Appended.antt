-- Pieces of a text, one after another, into a sink.
use Rattle.std.proofs.Common.{ℕ, ◌+◌, ◌≤◌, List, ◌++◌, length, take, drop, Some, None, Option, sym, ◌∙◌, ap}
use Rattle.std.proofs.Math.Seq.{take-add}
use Rattle.std.proofs.lemmas.List.{append_assoc}
use Rattle.std.specs.Io.KnownBytes.{Appends}

-- what a loop of writes has done: so many bytes of the text are in the sink, and its count hasn't fallen
pub record HasWritten (old new : Option (List ℕ)) (before now done : ℕ) (text : List ℕ) : Type 0 where
  pub within : done ≤ length text
  pub appended : Appends old new (take done text)
  pub later : before ≤ now

-- two appended pieces of a text make one
pub appends_more : (old mid new : Option (List ℕ)) (text : List ℕ) (n m : ℕ) → Appends old mid (take n text) → Appends mid new (take m (drop n text)) → Appends old new (take (n + m) text)
appends_more None mid new text n m a b = tt
appends_more (Some xs) None new text n m a b = absurd a
appends_more (Some xs) (Some ys) None text n m a b = absurd b
appends_more (Some xs) (Some ys) (Some zs) text n m a b =
    b ∙ ap (λ front. front ++ take m (drop n text)) a ∙ append_assoc xs (take n text) (take m (drop n text)) ∙ ap (λ piece. xs ++ piece) (sym (take-add n m text))

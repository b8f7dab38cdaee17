-- What stood before a text is written stays in front.
use Rattle.std.proofs.Common.{◌≡◌, ℕ, List, ◌++◌, ap, ◌∙◌, append_assoc}

-- after a part was written, and then another
pub kept_on : (old mid now front : List ℕ) → mid ≡ old ++ front → ((more : List ℕ) × (now ≡ mid ++ more)) → (more : List ℕ) × (now ≡ old ++ more)
kept_on old mid now front first then_more = (front ++ then_more.0, then_more.1 ∙ ap (λ (xs : List ℕ). xs ++ then_more.0) first ∙ append_assoc old front then_more.0)

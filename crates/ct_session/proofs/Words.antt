-- The words of a desk after one more.
use Rattle.std.proofs.Common.{◌≡◌, ℕ, List, [], ◌∷◌, ◌++◌, sym, ap, ◌∙◌}
use Rattle.ct_vectors.specs.Words.{latest}
use Rattle.ct_vectors.proofs.Words.{latest_snoc}

pub latest_after : (old new : List ℕ) (word : ℕ) → new ≡ old ++ word ∷ [] → latest new ≡ word
latest_after old new word more = ap latest more ∙ latest_snoc old word

pub one_taken : (old new : List ℕ) (word : ℕ) → new ≡ old ++ word ∷ [] → new ≡ old ++ latest new ∷ []
one_taken old new word more = more ∙ ap (λ w. old ++ w ∷ []) (sym (latest_after old new word more))

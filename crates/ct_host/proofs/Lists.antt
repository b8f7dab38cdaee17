-- Lists that grow: what was shown to a pass.
use Rattle.std.proofs.Common.{◌≡◌, ℕ, List, [], ◌∷◌, ◌++◌, refl}
use Rattle.ct_host.specs.Hosts.{last_shown}

pub last_snoc : (xs : List (List ℕ)) (x : List ℕ) → last_shown (xs ++ x ∷ []) ≡ x
last_snoc [] x = refl
last_snoc (y ∷ []) x = refl
last_snoc (y ∷ z ∷ xs) x = last_snoc (z ∷ xs) x

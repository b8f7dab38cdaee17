-- Lists of words that only grow.
use Rattle.std.proofs.Common.{◌≡◌, ℕ, List, [], ◌∷◌, ◌++◌, length, drop, sym, refl, ap, ◌∙◌, append_assoc}
use Rattle.std.proofs.Math.Seq.{drop-append_seam}
use Rattle.ct_vectors.specs.Words.{latest, Extends}

pub latest_snoc : (ws : List ℕ) (w : ℕ) → latest (ws ++ w ∷ []) ≡ w
latest_snoc [] w = refl
latest_snoc (x ∷ []) w = refl
latest_snoc (x ∷ y ∷ ws) w = latest_snoc (y ∷ ws) w

extends_by : (old more new : List ℕ) → new ≡ old ++ more → Extends old new
extends_by old more new is = is ∙ ap (λ (l : List ℕ). old ++ l) (sym (drop-append_seam old more) ∙ ap (λ (l : List ℕ). drop (length old) l) (sym is))

pub extends_snoc : (old mid new : List ℕ) (w : ℕ) → Extends old mid → new ≡ mid ++ w ∷ [] → Extends old new
extends_snoc old mid new w e is = extends_by old (drop (length old) mid ++ w ∷ []) new (is ∙ (ap (λ (l : List ℕ). l ++ w ∷ []) e ∙ append_assoc old (drop (length old) mid) (w ∷ [])))

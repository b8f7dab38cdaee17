use Rattle.std.proofs.Common.{◌≡◌, ℕ, Bool, true, false, List, [], refl, sym, ◌∙◌}
use Rattle.std.specs.Prelude.{IsTrue, ◌↔◌}
use Rattle.ct_text.specs.Pieces.{pieces_left}
use Rattle.ct_text.proofs.Splits.{split-none}
use Rattle.ct_text.proofs.pieces.Pieces.is_end.Goals as goal

ends : (separator : ℕ) (is_done : Bool) (left : List ℕ) (now : List (List ℕ)) → pieces_left separator is_done left ≡ now → IsTrue is_done ↔ (now ≡ [])
ends separator true left now is = (λ _. sym is, λ _. refl)
ends separator false left now is = (λ done. absurd cc, λ none. absurd (split-none separator left (is ∙ none)))

pub returns : goal.returns
returns c = ends c.self.inside.separator c.self.inside.is_done c.self.inside.left.now c.args.self.now c.self.view_is

use Rattle.std.proofs.Common.{◌≡◌, drop}
use Rattle.ct_text.specs.Place.{place_after}
use Rattle.ct_text.specs.Tokens.{between, tokens_in, Roomy}
use Rattle.ct_text.proofs.Gaps.{gap}
use Rattle.ct_text.proofs.token.after_gap.Given as goal

-- What is left has the same tokens and the same end.
abbrev pub invariant-loop-i : goal.invariant-loop-i
invariant-loop-i l = record {
  tokens : tokens_in (gap l.in_comment) l.place (drop l.i l.left) ≡ tokens_in between l.fn.from l.left;
  end : place_after l.place (drop l.i l.left) ≡ place_after l.fn.from l.left;
  roomy : Roomy l.place (drop l.i l.left);
}

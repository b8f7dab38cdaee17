use Rattle.std.proofs.Common.{inl, ap, sym, ◌∙◌}
use Rattle.std.specs.Int.{bit_at}
use Rattle.ct_index.proofs.BitFacts.{decided_more}
use Rattle.ct_index.proofs.bits.HeadBits.enter.Goals as goal
use Rattle.ct_index.proofs.bits.HeadBits.enter.Goals.{then-is_low, else-is_low}

pub returns-clause-decided : goal.returns-clause-decided
returns-clause-decided c j one =
    elim c.if-is_low.branch [
      | then-is_low w ↦ decided_more c.args.self.now.decided c.args.head.now c.args.index c.requires (c.is_low.ensures.0 w.if-is_low.true) j (ap (λ s. bit_at s.decided j) (sym w.self-is) ∙ one)
      | else-is_low w ↦ inl (ap (λ s. bit_at s.decided j) (sym w.self-is) ∙ one)
    ]

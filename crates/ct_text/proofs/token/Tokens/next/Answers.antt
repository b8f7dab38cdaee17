use Rattle.std.proofs.Common.{◌≡◌, ◌∙◌, sym, ap, refl, arith}
use Rattle.ct_text.specs.Tokens.{Text, between, tokens_in}
use Rattle.ct_text.proofs.Gaps.{tokens_in-front, place_after-run}
use Rattle.ct_text.proofs.token.Tokens.next.Goals as goal

pub returns-clause-cases : goal.returns-clause-cases
returns-clause-cases c =
    let front = tokens_in-front c.after_gap.result.1 c.after_gap.result.0.now c.token_len-len.result c.token_len-len.ensures (omega arith) in
    let before : c.args.self.now.tokens ≡ tokens_in between c.after_gap.result.1 c.after_gap.result.0.now =
    sym (ap (λ (t : Text). t.tokens) c.self.view_is) ∙ sym c.after_gap.ensures.tokens in
    (before ∙ rw (c.split_at.ensures.front, c.split_at.ensures.back) front, rw c.split_at.ensures.front_len refl)

pub returns-clause-end : goal.returns-clause-end
returns-clause-end c =
    let run = place_after-run c.after_gap.result.1 c.after_gap.result.0.now in
    rw (c.split_at.ensures.back, c.token_len-len.ensures) (sym run ∙ c.after_gap.ensures.end ∙ ap (λ (t : Text). t.end) c.self.view_is)

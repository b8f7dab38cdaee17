use Rattle.std.proofs.Common.{◌+◌, ◌≤◌, ◌≡◌, true, true≢false, sym, ap, ap₂, subst, ◌∙◌, ⊎_elim, arith}
use Rattle.std.proofs.lemmas.Bool.{cases_eq}
use Rattle.ct_vectors.specs.Vectors.{Divides, divides}
use Rattle.ct_vectors.proofs.Divisors.{Divides-from_test, test_from_Divides}
use Rattle.ct_instance.specs.TestSet.{Binomial}
use Rattle.ct_instance.specs.Jobs.{the_move}
use Rattle.ct_resume.proofs.reduced.is_undivided.Goals as goal

pub returns-then-divides : goal.returns-then-divides
returns-then-divides c =
    let ms = c.args.moves.now.moves in
    let p : c.head.result.now ≡ (the_move ms (c.loop-index.index + 1)).head = c.head.ensures ∙ ap (λ (m : Binomial). m.head) c.get-in-loop-index.ensures.at in
    let q : c.head-head.result.now ≡ (the_move ms c.args.number).head = c.head-head.ensures ∙ ap (λ (m : Binomial). m.head) c.get.ensures.at in
    let test : divides (the_move ms (c.loop-index.index + 1)).head (the_move ms c.args.number).head ≡ true = ap₂ divides (sym p) (sym q) ∙ sym c.divides.ensures ∙ c.if-divides.true in (
      λ e. absurd (true≢false (sym e)),
      λ u. absurd (u (c.loop-index.index + 1) (omega arith) (omega (arith, c.loop-index-test.true, c.len-index-end.ensures.count)) c.if-other-number.false
          (Divides-from_test (the_move ms (c.loop-index.index + 1)).head (the_move ms c.args.number).head test)),
    )

pub loop-index-preserved : goal.loop-index-preserved
loop-index-preserved c =
    let ms = c.args.moves.now.moves in
    let p : c.head.result.now ≡ (the_move ms (c.loop-index.index + 1)).head = c.head.ensures ∙ ap (λ (m : Binomial). m.head) c.get-in-loop-index.ensures.at in
    let q : c.head-head.result.now ≡ (the_move ms c.args.number).head = c.head-head.ensures ∙ ap (λ (m : Binomial). m.head) c.get.ensures.at in
    λ j some most other d.
    ⊎_elim
    (λ e. true≢false (sym (test_from_Divides (the_move ms (c.loop-index.index + 1)).head (the_move ms c.args.number).head
    (subst (λ k. Divides (the_move ms k).head (the_move ms c.args.number).head) e d)) ∙ ap₂ divides (sym p) (sym q) ∙ sym c.divides.ensures ∙ c.if-divides.false))
    (λ n. c.loop-index.invariant j some (let low : j ≤ c.loop-index.index = omega (arith, most, n) in low) other d) (cases_eq j (c.loop-index.index + 1))

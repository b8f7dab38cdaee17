use Rattle.std.proofs.Common.{◌+◌, ◌<◌, [], length, take, map, sym, subst, ◌∙◌, arith}
use Rattle.std.specs.List.{AllZip}
use Rattle.std.proofs.lemmas.List.{get_or_default, length-map}
use Rattle.ct_version.specs.Desks.{Place}
use Rattle.ct_solo.specs.Seen.{place_of}
use Rattle.ct_best_report.specs.BestReport.{IsBestAnswer}
use Rattle.ct_best_report.proofs.Paired.{case_in, zip_more}
use Rattle.ct_best_report.proofs.telling.best_report.Goals as goal

pub loop-k-preserved : goal.loop-k-preserved
loop-k-preserved c =
    let inside : c.loop-k.k < length (map (λ b. b.now) c.args.rights.now) = omega (arith, c.loop-k-test.true, length-map c.args.rights.now (λ b. b.now)) in
    record {
      place = c.told_of.ensures.place ∙ c.loop-k.invariant.place;
      top = c.told_of.ensures.top ∙ c.loop-k.invariant.top;
      told = subst (AllZip (IsBestAnswer (case_in (place_of c.in_ok-solo.solo)) c.args.columns c.args.count) (take (c.loop-k.k + 1) (map (λ b. b.now) c.args.rights.now))) (sym c.in_ok-push.ensures.items)
          (zip_more (IsBestAnswer (case_in (place_of c.in_ok-solo.solo)) c.args.columns c.args.count) (map (λ b. b.now) c.args.rights.now) c.loop-k.answers.items c.loop-k.k c.right_at-b.result.now c.in_ok-told_of.field-0 inside
          (c.right_at-b.ensures ∙ get_or_default (map (λ b. b.now) c.args.rights.now) c.loop-k.k [] c.right_at-b.result.now inside) c.loop-k.invariant.told
          (subst (λ (p : Place). IsBestAnswer (case_in p) c.args.columns c.args.count c.right_at-b.result.now c.in_ok-told_of.field-0) c.loop-k.invariant.place c.in_ok-told_of.ensures.told));
    }

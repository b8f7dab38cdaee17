use Rattle.std.proofs.Common.{◌≡◌, take, map}
use Rattle.std.specs.List.{AllZip}
use Rattle.ct_solo.specs.Seen.{place_of}
use Rattle.ct_best_report.specs.BestReport.{IsBestAnswer}
use Rattle.ct_best_report.proofs.Paired.{case_in}
use Rattle.ct_best_report.proofs.telling.best_report.Given as goal

abbrev pub invariant-loop-k : goal.invariant-loop-k
invariant-loop-k l = record {
  place : place_of l.solo ≡ place_of l.initial.solo;
  top : l.solo.top ≡ l.initial.solo.top;
  told : AllZip (IsBestAnswer (case_in (place_of l.initial.solo)) l.columns l.count) (take l.k (map (λ b. b.now) l.rights)) l.answers.items;
}

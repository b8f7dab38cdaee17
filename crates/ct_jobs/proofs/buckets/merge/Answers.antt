use Rattle.std.proofs.Common.{◌≡◌, ◌-◌, ◌++◌, ◌∷◌, [], Some, length, length-append, map, vec_len, slice_get, sym, ap, ◌∙◌, arith}
use Rattle.ct_jobs.specs.Kept.{pair_of}
use Rattle.ct_jobs.proofs.ByGradeFacts.{last_popped, last_moved}
use Rattle.ct_jobs.proofs.buckets.merge.Goals as goal

pub loop-last-preserved : goal.loop-last-preserved
loop-last-preserved c =
    let js = c.loop-last.parked.items in
    let rest = c.pop.new.self.items in
    let x = c.in-Some.last.now in
    let seen : Some x ≡ slice_get js (length js - 1) = c.in-Some.ensures.value ∙ ap (λ l. slice_get l (length l - 1)) c.deref.ensures.value in
    let e : js ≡ rest ++ x ∷ [] = last_popped js rest (vec_len c.loop-last.parked) c.pop.result x (sym c.deref.ensures.len ∙ ap length c.deref.ensures.value) c.pop.ensures.items c.pop.ensures.value seen in
    record {
      jobs = last_moved (c.args.merged.now ++ map pair_of c.args.parked.now.items) c.loop-last.merged c.add.new.self js
          rest x c.loop-last.invariant.jobs c.in_ok-add.ensures.more e;
      parked = let n : length js ≡ length (rest ++ x ∷ []) = ap length e in omega (arith, n, length-append rest (x ∷ []), c.loop-last.invariant.parked);
    }

use Rattle.std.proofs.Common.{◌≡◌, length, ap, ◌∙◌, arith}
use Rattle.ct_book.specs.Books.{BookSeen, counts_of}
use Rattle.ct_host.proofs.Counts.{length_counts}
use Rattle.ct_host.proofs.Dealing.{length_fresh}
use Rattle.ct_host.proofs.host.Host.of_book.Goals as goal

pub open-requires-2-clause-counts : goal.open-requires-2-clause-counts
open-requires-2-clause-counts c = length_counts c.in_ok-locked.locked ∙ ap (λ (b : BookSeen). b.passes) c.in_ok-locked.ensures ∙ c.requires.passes

pub deal-dealt-requires-clause-room : goal.deal-dealt-requires-clause-room
deal-dealt-requires-clause-room c =
    let long : length c.in_ok-lock.locks.items ≡ c.args.passes =
    ap length c.in_ok-lock.ensures.passes ∙ (length_fresh c.in_ok-lock.lock 0 (counts_of c.in_ok-locked.locked) ∙ (length_counts c.in_ok-locked.locked ∙ ap (λ (b : BookSeen). b.passes) c.in_ok-locked.ensures ∙ c.requires.passes)) in
    (c.in_ok-made.ensures.items, omega (arith, long, c.in_ok-lock.locks.ok.0, c.in_ok-made.ensures.capacity))

use Rattle.std.proofs.Common.{◌≡◌, ℕ, ◌+◌, List, sym, ap, subst, ◌∙◌, arith, slice_index}
use Rattle.count_lock.specs.Pairs.{first_number, first_count}
use Rattle.count_lock.specs.Sight.{LockSight}
use Rattle.ct_book.specs.Books.{BookSeen, shown_by, counts_of}
use Rattle.ct_book.specs.Benches.{BenchPlace}
use Rattle.ct_host.specs.Hosts.{last_shown}
use Rattle.ct_host.specs.Steps.{IsHostCommitAll}
use Rattle.ct_host.proofs.Counts.{length_counts}
use Rattle.ct_host.proofs.Called.{after_lock, had_lock, item_shown, one_lock}
use Rattle.ct_host.proofs.BatchCalls.{first_agrees}
use Rattle.ct_host.proofs.stepping.commit_all_in.Goals as goal

pub commit_all-requires-clause-pass : goal.commit_all-requires-clause-pass
commit_all-requires-clause-pass g c = let long = length_counts c.lock-book.result in omega (arith, long, c.number-number.ensures, c.lock-book.ensures.number)

pub returns-clause-one_lock : goal.returns-clause-one_lock
returns-clause-one_lock g c =
    let old = c.args.pass.now in let after = counts_of c.commit_all.new.self in
    one_lock old c.unlock.new.pass (slice_index after (first_number old.pairs)) (shown_by c.lock-book.result)
    (had_lock old c.lock-book.new.pass c.unlock.new.pass (shown_by c.lock-book.result) (counts_of c.lock-book.result) after c.lock-book.ensures.held c.unlock.ensures c.requires.idle.0)

pub returns-clause-committed : goal.returns-clause-committed
returns-clause-committed g c =
    let old = c.args.pass.now in let after = counts_of c.commit_all.new.self in
    let had : c.unlock.new.pass ≡ after_lock old (slice_index after (first_number old.pairs)) (shown_by c.lock-book.result) =
    had_lock old c.lock-book.new.pass c.unlock.new.pass (shown_by c.lock-book.result) (counts_of c.lock-book.result) after c.lock-book.ensures.held c.unlock.ensures c.requires.idle.0 in
    let item : last_shown c.unlock.new.pass.shown ≡ shown_by c.lock-book.result = item_shown old c.unlock.new.pass (slice_index after (first_number old.pairs)) (shown_by c.lock-book.result) had in
    let done = c.commit_all.ensures.committed in (
      done.0,
      subst (λ (x : BenchPlace × ℕ × List ℕ). IsHostCommitAll x.0 x.1 x.2 c.args.reduced.now.remainders done.0) (λ i. (c.lock-book.ensures.name i, c.number-number.ensures i, sym item i)) done.1,
      ap (λ (p : LockSight BookSeen). first_count p.pairs) had ∙ sym (ap (slice_index after) c.number-number.ensures) ∙ done.2 ∙
          ap (λ (n : ℕ). slice_index (counts_of c.lock-book.result) n + done.0) c.number-number.ensures ∙
          ap (λ (n : ℕ). n + done.0) (first_agrees (counts_of c.lock-book.result) old.pairs c.lock-book.ensures.counts c.requires.idle.1),
    )

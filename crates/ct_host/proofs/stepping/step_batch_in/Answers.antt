use Rattle.std.proofs.Common.{◌≡◌, ℕ, List, IfOk, sym, subst, arith, slice_index}
use Rattle.count_lock.specs.Pairs.{first_number}
use Rattle.ct_book.specs.Books.{shown_by, counts_of}
use Rattle.ct_book.specs.Benches.{BenchPlace}
use Rattle.ct_host.specs.Hosts.{last_shown}
use Rattle.ct_host.specs.Steps.{IsHostBatchStep}
use Rattle.ct_host.proofs.Counts.{length_counts}
use Rattle.ct_host.proofs.Called.{after_lock, had_lock, item_shown, one_lock}
use Rattle.ct_host.proofs.stepping.step_batch_in.Goals as goal

pub step_batch-answer-requires-clause-pass : goal.step_batch-answer-requires-clause-pass
step_batch-answer-requires-clause-pass g c = let long = length_counts c.lock-book.result in omega (arith, long, c.number-number.ensures, c.lock-book.ensures.number)

pub returns-clause-one_lock : goal.returns-clause-one_lock
returns-clause-one_lock g c =
    let old = c.args.pass.now in let after = counts_of c.step_batch-answer.new.self in
    one_lock old c.unlock.new.pass (slice_index after (first_number old.pairs)) (shown_by c.lock-book.result)
    (had_lock old c.lock-book.new.pass c.unlock.new.pass (shown_by c.lock-book.result) (counts_of c.lock-book.result) after c.lock-book.ensures.held c.unlock.ensures c.requires.idle.0)

pub returns-clause-answer : goal.returns-clause-answer
returns-clause-answer g c =
    let old = c.args.pass.now in let after = counts_of c.step_batch-answer.new.self in
    let had : c.unlock.new.pass ≡ after_lock old (slice_index after (first_number old.pairs)) (shown_by c.lock-book.result) =
    had_lock old c.lock-book.new.pass c.unlock.new.pass (shown_by c.lock-book.result) (counts_of c.lock-book.result) after c.lock-book.ensures.held c.unlock.ensures c.requires.idle.0 in
    let item : last_shown c.unlock.new.pass.shown ≡ shown_by c.lock-book.result = item_shown old c.unlock.new.pass (slice_index after (first_number old.pairs)) (shown_by c.lock-book.result) had in
    subst (λ (x : BenchPlace × ℕ × List ℕ). IfOk c.step_batch-answer.result (IsHostBatchStep x.0 x.1 x.2 c.args.target c.step_batch-answer.new.batch)) (λ i. (c.lock-book.ensures.name i, c.number-number.ensures i, sym item i)) c.step_batch-answer.ensures.answer

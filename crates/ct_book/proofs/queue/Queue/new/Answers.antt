use Rattle.std.proofs.Common.{◌≡◌, ℕ, None, length, map, replicate, subst, ap, ◌∙◌}
use Rattle.ct_instance.specs.Made.{indices}
use Rattle.ct_book.specs.Queues.{slot_seen}
use Rattle.ct_book.proofs.Queues.{Stored, Resolved, order_in, order_new, new_queue, seen_same}
use Rattle.ct_book.proofs.queue.Queue.new.Goals as goal

pub invariant_of-result : goal.invariant_of-result
invariant_of-result c =
    let n : c.len-count.result ≡ length c.args.jobs.items = c.len-count.ensures ∙ c.args.jobs.ok.0 in
    let slots : map slot_seen c.in_ok-slots.slots.items ≡ replicate (length c.args.jobs.items) None =
    subst (λ (k : ℕ). map slot_seen c.in_ok-slots.slots.items ≡ replicate k None) n c.in_ok-slots.ensures in
    let places : c.in_ok-waiting.waiting.items ≡ indices (length c.args.jobs.items) = subst (λ (k : ℕ). c.in_ok-waiting.waiting.items ≡ indices k) n c.in_ok-waiting.ensures in
    let made : Resolved c.args.jobs.items (map slot_seen c.in_ok-slots.slots.items) c.in_ok-waiting.waiting.items c.len-count.result =
    new_queue c.args.jobs.items (map slot_seen c.in_ok-slots.slots.items) c.in_ok-waiting.waiting.items c.len-count.result slots places n in
    (made.queue, made.count)

pub returns : goal.returns
returns c =
    let n : c.len-count.result ≡ length c.args.jobs.items = c.len-count.ensures ∙ c.args.jobs.ok.0 in
    let slots : map slot_seen c.in_ok-slots.slots.items ≡ replicate (length c.args.jobs.items) None =
    subst (λ (k : ℕ). map slot_seen c.in_ok-slots.slots.items ≡ replicate k None) n c.in_ok-slots.ensures in
    let places : c.in_ok-waiting.waiting.items ≡ indices (length c.args.jobs.items) = subst (λ (k : ℕ). c.in_ok-waiting.waiting.items ≡ indices k) n c.in_ok-waiting.ensures in
    seen_same c.args.jobs.items _ _ _ _ slots
    (ap (λ (s : Stored). order_in s c.in_ok-waiting.waiting.items) slots ∙
    ap (order_in (replicate (length c.args.jobs.items) None)) places ∙ order_new (length c.args.jobs.items))

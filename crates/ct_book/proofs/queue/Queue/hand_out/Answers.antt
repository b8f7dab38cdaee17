use Rattle.std.proofs.Common.{◌≡◌, ◌<◌, ℕ, true, Some, List, [], ◌∷◌, ◌++◌, length, map, drop, take, subst, sym, ap, ◌∙◌}
use Rattle.std.specs.Prelude.{slice_get}
use Rattle.std.proofs.lemmas.Option.{slice_get-get_or}
use Rattle.ct_book.specs.Queues.{QueueSeen, slot_seen, waits_at}
use Rattle.ct_book.proofs.Queues.{Stored, Resolved, order_in, front_order, turned_order, turned_one, waiting_within}
use Rattle.ct_book.proofs.queue.Queue.hand_out.Goals as goal

pub invariant_of-self : goal.invariant_of-self
invariant_of-self c =
    let s : Stored = map slot_seen c.self.inside.slots.items in
    let w : List ℕ = c.next_open.new.waiting.items in
    let e : map slot_seen c.deref.result.now ≡ s = ap (map slot_seen) c.deref.ensures.value in
    let waiting : waits_at s c.in-Some.place ≡ true = subst (λ (t : Stored). waits_at t c.in-Some.place ≡ true) e c.in-Some.ensures.first.0 in
    let same : order_in s w ≡ order_in s c.self.inside.waiting.items = subst (λ (t : Stored). order_in t w ≡ order_in t c.self.inside.waiting.items) e c.in-Some.ensures.same in
    let split : w ≡ c.in-Some.place ∷ drop 1 w = c.in-Some.ensures.first.1 in
    let turned : c.rotate_left.new.self.items ≡ drop 1 w ++ c.in-Some.place ∷ [] =
    c.rotate_left.ensures.items ∙ ap (λ (l : List ℕ). drop 1 w ++ take 1 l) split in
    let first : order_in s c.self.inside.waiting.items ≡ c.in-Some.place ∷ order_in s (drop 1 w) =
    sym same ∙ front_order s c.in-Some.place (drop 1 w) w split waiting in
    let last : order_in s c.rotate_left.new.self.items ≡ order_in s (drop 1 w) ++ c.in-Some.place ∷ [] =
    turned_order s c.in-Some.place (drop 1 w) c.rotate_left.new.self.items turned waiting in
    let done : Resolved c.self.inside.jobs.items s c.rotate_left.new.self.items c.self.inside.left =
    turned_one c.self.inside.jobs.items s c.self.inside.waiting.items (drop 1 w) c.rotate_left.new.self.items c.self.inside.left c.in-Some.place
    (record { queue = c.self.invariant.0; count = c.self.invariant.1 }) first last in
    (done.queue, done.count)

pub returns-clause-job : goal.returns-clause-job
returns-clause-job c =
    let s : Stored = map slot_seen c.self.inside.slots.items in
    let e : map slot_seen c.deref.result.now ≡ s = ap (map slot_seen) c.deref.ensures.value in
    let waiting : waits_at s c.in-Some.place ≡ true = subst (λ (t : Stored). waits_at t c.in-Some.place ≡ true) e c.in-Some.ensures.first.0 in
    let within : c.in-Some.place < length c.self.inside.jobs.items = subst (λ (n : ℕ). c.in-Some.place < n) (c.self.invariant.0).slots (waiting_within s c.in-Some.place waiting) in
    subst (λ (q : QueueSeen). slice_get q.jobs c.in-Some.place ≡ Some c.index.result.now) c.self.view_is
    (slice_get-get_or c.self.inside.jobs.items c.in-Some.place c.index.result.now within ∙ ap Some (sym c.index.ensures))

use Rattle.std.proofs.Common.{◌≡◌, ◌-◌, true, Some, map, set, subst, sym, ap, ◌∙◌}
use Rattle.std.proofs.lemmas.List.{map-set}
use Rattle.ct_book.specs.Queues.{QueueSeen, slot_seen, waits_at, points_seen, without}
use Rattle.ct_book.proofs.Queues.{Stored, Resolved, order_in, order_set, waiting_within, resolved_one, record_of, seen_same}
use Rattle.ct_book.proofs.queue.Queue.store.Goals as goal

pub invariant_of-self : goal.invariant_of-self
invariant_of-self c =
    let waiting : waits_at (map slot_seen c.self.inside.slots.items) c.args.place ≡ true = subst (λ (q : QueueSeen). waits_at q.stored c.args.place ≡ true) (sym c.self.view_is) c.requires in
    let after : map slot_seen (set c.self.inside.slots.items c.args.place c.slot_of.result) ≡ set (map slot_seen c.self.inside.slots.items) c.args.place (Some (points_seen c.args.points)) =
    map-set slot_seen c.self.inside.slots.items c.args.place c.slot_of.result ∙ ap (set (map slot_seen c.self.inside.slots.items) c.args.place) c.slot_of.ensures in
    let done = (resolved_one c.self.inside.jobs.items (map slot_seen c.self.inside.slots.items) c.self.inside.waiting.items c.self.inside.left c.args.place (points_seen c.args.points)
    (record { queue = c.self.invariant.0; count = c.self.invariant.1 }) waiting).0 in
    let moved : Resolved c.self.inside.jobs.items (map slot_seen (set c.self.inside.slots.items c.args.place c.slot_of.result)) c.self.inside.waiting.items (c.self.inside.left - 1) =
    subst (λ (s : Stored). Resolved c.self.inside.jobs.items s c.self.inside.waiting.items (c.self.inside.left - 1)) (sym after) done in
    (moved.queue, moved.count)

pub returns : goal.returns
returns c =
    let waiting : waits_at (map slot_seen c.self.inside.slots.items) c.args.place ≡ true = subst (λ (q : QueueSeen). waits_at q.stored c.args.place ≡ true) (sym c.self.view_is) c.requires in
    let after : map slot_seen (set c.self.inside.slots.items c.args.place c.slot_of.result) ≡ set (map slot_seen c.self.inside.slots.items) c.args.place (Some (points_seen c.args.points)) =
    map-set slot_seen c.self.inside.slots.items c.args.place c.slot_of.result ∙ ap (set (map slot_seen c.self.inside.slots.items) c.args.place) c.slot_of.ensures in
    subst (λ (q : QueueSeen). record_of c.self.inside.jobs.items (map slot_seen (set c.self.inside.slots.items c.args.place c.slot_of.result))
    (order_in (map slot_seen (set c.self.inside.slots.items c.args.place c.slot_of.result)) c.self.inside.waiting.items) ≡
    record_of q.jobs (set q.stored c.args.place (Some (points_seen c.args.points))) (without c.args.place q.order)) c.self.view_is
    (seen_same c.self.inside.jobs.items _ _ _ _ after
    (ap (λ (s : Stored). order_in s c.self.inside.waiting.items) after ∙
    order_set (map slot_seen c.self.inside.slots.items) c.args.place (points_seen c.args.points) c.self.inside.waiting.items
    (waiting_within (map slot_seen c.self.inside.slots.items) c.args.place waiting)))

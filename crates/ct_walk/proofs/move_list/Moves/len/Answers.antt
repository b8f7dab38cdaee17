use Rattle.std.proofs.Common.{◌≡◌, ◌+◌, ◌-◌, length, get_or, ◌∙◌, ap, arith}
use Rattle.std.specs.List.{flat_map}
use Rattle.std.specs.Arc.{arc_value}
use Rattle.ct_index.proofs.Pages.{paged_count, paged_length}
use Rattle.ct_walk.proofs.move_list.Moves.len.Goals as goal

pub overflow_mul-result : goal.overflow_mul-result
overflow_mul-result c = omega (arith, paged_count arc_value c.self.inside.slabs.items c.self.invariant.1, c.self.invariant.0.most, c.self.inside.slabs.ok.0)

pub overflow_add-result : goal.overflow_add-result
overflow_add-result c = omega (arith, paged_count arc_value c.self.inside.slabs.items c.self.invariant.1, c.self.invariant.0.most, c.self.inside.slabs.ok.0)

pub overflow_cast-result : goal.overflow_cast-result
overflow_cast-result c = omega (arith, paged_count arc_value c.self.inside.slabs.items c.self.invariant.1, c.self.invariant.0.most, c.self.inside.slabs.ok.0)

pub returns-clause-count : goal.returns-clause-count
returns-clause-count c =
    let moves : flat_map arc_value c.self.inside.slabs.items ≡ c.args.self.now.moves = ap (λ l. l.moves) c.self.view_is in
    let page : c.items.result.now ≡ arc_value (get_or c.self.inside.slabs.items (c.len-count.result - 1) c.index.result.now) = c.items.ensures.items ∙ c.deref.ensures ∙ ap arc_value c.index.ensures in
    let last : c.len-count.result - 1 + 1 ≡ length c.self.inside.slabs.items = omega (arith, c.self.inside.slabs.ok.0, c.len-count.ensures, c.if-count-eq0.false) in
    omega (arith, ap length page, ap length moves, paged_length arc_value c.self.inside.slabs.items (c.len-count.result - 1) c.index.result.now c.self.invariant.1 last)

pub returns-clause-most : goal.returns-clause-most
returns-clause-most c =
    let moves : flat_map arc_value c.self.inside.slabs.items ≡ c.args.self.now.moves = ap (λ l. l.moves) c.self.view_is in
    let page : c.items.result.now ≡ arc_value (get_or c.self.inside.slabs.items (c.len-count.result - 1) c.index.result.now) = c.items.ensures.items ∙ c.deref.ensures ∙ ap arc_value c.index.ensures in
    let last : c.len-count.result - 1 + 1 ≡ length c.self.inside.slabs.items = omega (arith, c.self.inside.slabs.ok.0, c.len-count.ensures, c.if-count-eq0.false) in
    omega (arith, ap length page, ap length moves, paged_length arc_value c.self.inside.slabs.items (c.len-count.result - 1) c.index.result.now c.self.invariant.1 last, c.self.invariant.0.most)

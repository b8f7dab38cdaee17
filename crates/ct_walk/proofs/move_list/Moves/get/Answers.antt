use Rattle.std.proofs.Common.{◌≡◌, ◌-◌, ◌/◌, ◌%◌, ◌<◌, length, get_or, sym, ◌∙◌, subst, ap, arith}
use Rattle.std.specs.List.{flat_map}
use Rattle.std.specs.Arc.{arc_value}
use Rattle.ct_index.proofs.Pages.{paged_page, paged_within, paged_at}
use Rattle.ct_walk.specs.Moves.{IsSmallMove}
use Rattle.ct_walk.proofs.SlabFacts.{the_move_get}
use Rattle.ct_walk.proofs.move_list.Moves.get.Goals as goal

pub index-requires : goal.index-requires
index-requires c =
    let moves : flat_map arc_value c.self.inside.slabs.items ≡ c.args.self.now.moves = ap (λ l. l.moves) c.self.view_is in
    let index : c.args.number - 1 < length (flat_map arc_value c.self.inside.slabs.items) = omega (arith, ap length moves) in
    omega (arith, paged_page arc_value c.self.inside.slabs.items (c.args.number - 1) c.self.invariant.1 index, c.self.inside.slabs.ok.0)

pub bounds-items-index : goal.bounds-items-index
bounds-items-index c =
    let moves : flat_map arc_value c.self.inside.slabs.items ≡ c.args.self.now.moves = ap (λ l. l.moves) c.self.view_is in
    let index : c.args.number - 1 < length (flat_map arc_value c.self.inside.slabs.items) = omega (arith, ap length moves) in
    let w = paged_within arc_value c.self.inside.slabs.items (c.args.number - 1) c.index.result.now c.self.invariant.1 index in
    let page : c.items.result.now ≡ arc_value (get_or c.self.inside.slabs.items ((c.args.number - 1) / 128) c.index.result.now) = c.items.ensures.items ∙ c.deref.ensures ∙ ap arc_value c.index.ensures in
    omega (arith, w.1, ap length page)

pub returns-clause-at : goal.returns-clause-at
returns-clause-at c =
    let moves : flat_map arc_value c.self.inside.slabs.items ≡ c.args.self.now.moves = ap (λ l. l.moves) c.self.view_is in
    let index : c.args.number - 1 < length (flat_map arc_value c.self.inside.slabs.items) = omega (arith, ap length moves) in
    let page : c.items.result.now ≡ arc_value (get_or c.self.inside.slabs.items ((c.args.number - 1) / 128) c.index.result.now) = c.items.ensures.items ∙ c.deref.ensures ∙ ap arc_value c.index.ensures in
    c.index-items-index.is ∙ ap (λ xs. get_or xs ((c.args.number - 1) % 128) c.index-items-index.result) page ∙
    sym (paged_at arc_value c.self.inside.slabs.items (c.args.number - 1) c.index.result.now c.index-items-index.result c.self.invariant.1 index) ∙
    ap (λ ms. get_or ms (c.args.number - 1) c.index-items-index.result) moves ∙
    sym (the_move_get c.args.self.now.moves c.args.number c.index-items-index.result c.requires.some c.requires.within)

pub returns-clause-of_instance : goal.returns-clause-of_instance
returns-clause-of_instance c =
    let moves : flat_map arc_value c.self.inside.slabs.items ≡ c.args.self.now.moves = ap (λ l. l.moves) c.self.view_is in
    let index : c.args.number - 1 < length (flat_map arc_value c.self.inside.slabs.items) = omega (arith, ap length moves) in
    let page : c.items.result.now ≡ arc_value (get_or c.self.inside.slabs.items ((c.args.number - 1) / 128) c.index.result.now) = c.items.ensures.items ∙ c.deref.ensures ∙ ap arc_value c.index.ensures in
    let there : c.index-items-index.result ≡ get_or (flat_map arc_value c.self.inside.slabs.items) (c.args.number - 1) c.index-items-index.result =
    c.index-items-index.is ∙ ap (λ xs. get_or xs ((c.args.number - 1) % 128) c.index-items-index.result) page ∙
    sym (paged_at arc_value c.self.inside.slabs.items (c.args.number - 1) c.index.result.now c.index-items-index.result c.self.invariant.1 index) in
    subst (λ l. IsSmallMove l.instance c.index-items-index.result) c.self.view_is
    (subst (IsSmallMove (arc_value c.self.inside.inst)) (sym there) (c.self.invariant.0.moves (c.args.number - 1) c.index-items-index.result index))

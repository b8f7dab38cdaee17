use Rattle.std.proofs.Common.{ℕ, ◌≡◌, ◌-◌, ◌/◌, ◌%◌, ◌<◌, ◌≤◌, List, [], length, get_or, sym, ◌∙◌, subst, ap, arith}
use Rattle.std.specs.List.{flat_map}
use Rattle.std.specs.Arc.{arc_value}
use Rattle.std.specs.declared.sync.Arc.{Arc}
use Rattle.std.specs.declared.alloc.Global.{Global}
use Rattle.ct_vectors.specs.Vectors.{total, IsTimes}
use Rattle.ct_index.proofs.Pages.{paged_page, paged_within, paged_at}
use Rattle.ct_index.specs.Pages.{ArePages}
use Rattle.ct_instance.specs.Jobs.{the_move}
use Rattle.ct_instance.specs.TestSet.{Binomial}
use Rattle.ct_walk.specs.Moves.{MoveList, IsMoveList, IsSmallMove}
use Rattle.ct_walk.proofs.Steps.{head_positive}
use Rattle.ct_walk.proofs.SlabFacts.{the_move_get}
use Rattle.ct_walk.proofs.move_list.Moves.times_in.Goals as goal

pub index-requires : goal.index-requires
index-requires c =
    let moves : flat_map arc_value c.self.inside.slabs.items ≡ c.args.self.now.moves = ap (λ l. l.moves) c.self.view_is in
    let index : c.args.number - 1 < length (flat_map arc_value c.self.inside.slabs.items) = omega (arith, ap length moves) in
    omega (arith, paged_page arc_value c.self.inside.slabs.items (c.args.number - 1) c.self.invariant.1 index, c.self.inside.slabs.ok.0)

-- the move with the number, in its slab
at_place : (slabs : List (Arc (List Binomial) Global)) (slab : Arc (List Binomial) Global) (ms : List Binomial) (number : ℕ) (t : Binomial) → ArePages arc_value slabs → flat_map arc_value slabs ≡ ms →
    1 ≤ number → number ≤ length ms → slab ≡ get_or slabs ((number - 1) / 128) slab → get_or (arc_value slab) ((number - 1) % 128) t ≡ the_move ms number
at_place slabs slab ms number t a whole some l is =
    let index : number - 1 < length (flat_map arc_value slabs) = omega (arith, ap length whole) in
    ap (λ s. get_or (arc_value s) ((number - 1) % 128) t) is ∙ sym (paged_at arc_value slabs (number - 1) slab t a index) ∙ ap (λ xs. get_or xs (number - 1) t) whole ∙ sym (the_move_get ms number t some l)

pub times_in-requires-clause-within : goal.times_in-requires-clause-within
times_in-requires-clause-within c =
    let moves : flat_map arc_value c.self.inside.slabs.items ≡ c.args.self.now.moves = ap (λ l. l.moves) c.self.view_is in
    let index : c.args.number - 1 < length (flat_map arc_value c.self.inside.slabs.items) = omega (arith, ap length moves) in
    subst (λ s. (c.args.number - 1) % 128 < length s) (sym (c.deref.ensures ∙ ap arc_value c.index.ensures))
    (paged_within arc_value c.self.inside.slabs.items (c.args.number - 1) c.index.result.now c.self.invariant.1 index).1

-- the move is one of the instance
small : (l : MoveList) (number : ℕ) → IsMoveList l → 1 ≤ number → number ≤ length l.moves → IsSmallMove l.instance (the_move l.moves number)
small l number is some within =
    subst (IsSmallMove l.instance) (sym (the_move_get l.moves number (record { head = []; tail = [] }) some within)) (is.moves (number - 1) (record { head = []; tail = [] }) (omega arith))

pub times_in-requires-clause-width : goal.times_in-requires-clause-width
times_in-requires-clause-width c t =
    let is : IsMoveList c.args.self.now = subst IsMoveList c.self.view_is c.self.invariant.0 in
    let move : IsSmallMove c.args.self.now.instance (the_move c.args.self.now.moves c.args.number) = small c.args.self.now c.args.number is c.requires.some c.requires.within in
    ap (λ m. length m.head) (ap (λ s. get_or s ((c.args.number - 1) % 128) t) c.deref.ensures ∙
    at_place c.self.inside.slabs.items c.index.result.now c.args.self.now.moves c.args.number t c.self.invariant.1 (ap (λ l. l.moves) c.self.view_is) c.requires.some c.requires.within c.index.ensures) ∙
    move.move.head ∙ sym c.requires.point

pub times_in-requires-clause-positive : goal.times_in-requires-clause-positive
times_in-requires-clause-positive c t =
    let is : IsMoveList c.args.self.now = subst IsMoveList c.self.view_is c.self.invariant.0 in
    let move : IsSmallMove c.args.self.now.instance (the_move c.args.self.now.moves c.args.number) = small c.args.self.now c.args.number is c.requires.some c.requires.within in
    subst (λ m. 1 ≤ total m.head) (sym (ap (λ s. get_or s ((c.args.number - 1) % 128) t) c.deref.ensures ∙
    at_place c.self.inside.slabs.items c.index.result.now c.args.self.now.moves c.args.number t c.self.invariant.1 (ap (λ l. l.moves) c.self.view_is) c.requires.some c.requires.within c.index.ensures))
    (head_positive c.args.self.now.instance is.instance (the_move c.args.self.now.moves c.args.number) move.move)

pub returns : goal.returns
returns c =
    subst (λ m. IsTimes m.head c.args.p.now c.times_in.result) (ap (λ s. get_or s ((c.args.number - 1) % 128) (record { head = []; tail = [] })) c.deref.ensures ∙
    at_place c.self.inside.slabs.items c.index.result.now c.args.self.now.moves c.args.number (record { head = []; tail = [] }) c.self.invariant.1 (ap (λ l. l.moves) c.self.view_is) c.requires.some c.requires.within c.index.ensures)
    (c.times_in.ensures (record { head = []; tail = [] }))

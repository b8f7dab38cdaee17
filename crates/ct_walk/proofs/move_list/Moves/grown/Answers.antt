use Rattle.std.proofs.Common.{◌≡◌, eqb-true, [], ◌++◌, All, map, sym, ◌∙◌, subst, ap, arith, append-nil}
use Rattle.std.specs.List.{flat_map}
use Rattle.std.specs.Arc.{arc_value}
use Rattle.std.proofs.lemmas.List.{nil_from_length}
use Rattle.std.proofs.lemmas.List.Elements.{All-append}
use Rattle.std.proofs.lemmas.Result.{IfOk-weaker}
use Rattle.ct_index.specs.Pages.{IsPaged}
use Rattle.ct_walk.specs.Moves.{IsSmallMove}
use Rattle.ct_walk.proofs.SlabFacts.{same_slabs}
use Rattle.ct_walk.proofs.move_list.Moves.grown.Goals as goal

pub returns-then-is_empty : goal.returns-then-is_empty
returns-then-is_empty c =
    let none : c.args.more.items ≡ [] = nil_from_length c.args.more.items (omega (arith, c.args.more.ok.0, eqb-true _ _ (sym c.if-is_empty.ensures))) in
    let moves : flat_map arc_value c.self.inside.slabs.items ≡ c.args.self.now.moves = ap (λ l. l.moves) c.self.view_is in
    IfOk-weaker c.shared.result (λ v. map arc_value v.items ≡ map arc_value c.deref.result.now) (λ v. IsPaged arc_value v.items × (flat_map arc_value v.items ≡ c.args.self.now.moves ++ c.args.more.items))
    (λ v same.
    let s = same_slabs c.self.inside.slabs.items v.items (same ∙ ap (map arc_value) c.deref.ensures.value) c.self.invariant.1 c.self.invariant.0.most in
    (s.0, s.1 ∙ moves ∙ sym (append-nil c.args.self.now.moves) ∙ ap (λ xs. c.args.self.now.moves ++ xs) (sym none)))
    c.shared.ensures

pub grown-requires-clause-of_instance : goal.grown-requires-clause-of_instance
grown-requires-clause-of_instance c =
    subst (λ xs. All (IsSmallMove c.deref-2.result.now) (flat_map arc_value xs ++ c.args.more.items)) (sym c.deref-3.ensures.value)
    (subst (λ i. All (IsSmallMove i) (flat_map arc_value c.self.inside.slabs.items ++ c.args.more.items)) (sym c.deref-2.ensures)
    (All-append (IsSmallMove (arc_value c.self.inside.inst)) (flat_map arc_value c.self.inside.slabs.items) c.args.more.items c.self.invariant.0.moves
    (subst (λ l. All (IsSmallMove l.instance) c.args.more.items) (sym c.self.view_is) c.requires.of_instance)))

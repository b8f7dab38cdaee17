use Rattle.std.proofs.Common.{◌≡◌, [], ◌∷◌, ◌++◌, All, length, map, get_or, sym, ◌∙◌, subst, ap, arith}
use Rattle.std.proofs.lemmas.List.{map_push, length-map, get_or_push, same_from_push}
use Rattle.std.proofs.lemmas.List.Elements.{All-map}
use Rattle.ct_index.specs.Bits.{IsIndex}
use Rattle.ct_index.proofs.block.HeadBlock.push.Goals as goal

pub invariant_of-self-in-Ok-add : goal.invariant_of-self-in-Ok-add
invariant_of-self-in-Ok-add g c =
    let count : length c.self.inside.items.items ≡ c.len-index.result = omega (arith, c.self.inside.items.ok.0, c.len-index.ensures) in
    let heads : length (map g.T.HasHead.head_of c.self.inside.items.items) ≡ c.len-index.result = length-map c.self.inside.items.items g.T.HasHead.head_of ∙ count in
    let item : c.index.result.now ≡ c.args.item =
    c.index.ensures ∙ ap (λ xs. get_or xs c.len-index.result c.index.result.now) c.in-Ok.ensures.items ∙ get_or_push c.self.inside.items.items c.args.item c.index.result.now c.len-index.result count in
    let head : c.as_slice-head.result.now ≡ g.T.HasHead.head_of c.args.item = c.as_slice-head.ensures.coordinates ∙ c.head.ensures ∙ ap g.T.HasHead.head_of item in
    let widths : All (λ h. length h ≡ length c.as_slice-head.result.now) (map g.T.HasHead.head_of c.self.inside.items.items) =
    All-map (λ h. length h ≡ length c.as_slice-head.result.now) g.T.HasHead.head_of c.self.inside.items.items
    (λ k d l. subst (λ h. length (g.T.HasHead.head_of (get_or c.self.inside.items.items k d)) ≡ length h) (sym head)
    (subst (λ xs. All (λ t. length (g.T.HasHead.head_of t) ≡ length (g.T.HasHead.head_of c.args.item)) xs) (sym c.self.view_is) c.requires.width k d l)) in
    let added : IsIndex (map g.T.HasHead.head_of c.self.inside.items.items ++ c.as_slice-head.result.now ∷ []) c.add.new.self = c.in-Ok-add.ensures.ok (map g.T.HasHead.head_of c.self.inside.items.items) heads widths c.self.invariant in
    subst (λ hs. IsIndex hs c.add.new.self)
    (ap (λ h. map g.T.HasHead.head_of c.self.inside.items.items ++ h ∷ []) head ∙ sym (map_push g.T.HasHead.head_of c.self.inside.items.items c.args.item) ∙ sym (ap (map g.T.HasHead.head_of) c.in-Ok.ensures.items))
    added

pub invariant_of-self-in-Err-add : goal.invariant_of-self-in-Err-add
invariant_of-self-in-Err-add g c =
    let count : length c.self.inside.items.items ≡ c.len-index.result = omega (arith, c.self.inside.items.ok.0, c.len-index.ensures) in
    let heads : length (map g.T.HasHead.head_of c.self.inside.items.items) ≡ c.len-index.result = length-map c.self.inside.items.items g.T.HasHead.head_of ∙ count in
    let item : c.index.result.now ≡ c.args.item =
    c.index.ensures ∙ ap (λ xs. get_or xs c.len-index.result c.index.result.now) c.in-Ok.ensures.items ∙ get_or_push c.self.inside.items.items c.args.item c.index.result.now c.len-index.result count in
    let head : c.as_slice-head.result.now ≡ g.T.HasHead.head_of c.args.item = c.as_slice-head.ensures.coordinates ∙ c.head.ensures ∙ ap g.T.HasHead.head_of item in
    let widths : All (λ h. length h ≡ length c.as_slice-head.result.now) (map g.T.HasHead.head_of c.self.inside.items.items) =
    All-map (λ h. length h ≡ length c.as_slice-head.result.now) g.T.HasHead.head_of c.self.inside.items.items
    (λ k d l. subst (λ h. length (g.T.HasHead.head_of (get_or c.self.inside.items.items k d)) ≡ length h) (sym head)
    (subst (λ xs. All (λ t. length (g.T.HasHead.head_of t) ≡ length (g.T.HasHead.head_of c.args.item)) xs) (sym c.self.view_is) c.requires.width k d l)) in
    let kept : c.self.inside.items.items ≡ c.pop.new.self.items =
    (same_from_push c.self.inside.items.items c.pop.new.self.items c.args.item c.in-Some.item (sym c.in-Ok.ensures.items ∙ c.in-Some.ensures.items)).0 in
    subst (λ hs. IsIndex hs c.add.new.self) (ap (map g.T.HasHead.head_of) kept) (c.in-Err-add.ensures.err (map g.T.HasHead.head_of c.self.inside.items.items) heads widths c.self.invariant)

use Rattle.std.proofs.Common.{ℕ, ◌≡◌, ◌<◌, List, [], All, length, map, get_or, sym, ◌∙◌, subst, arith, None, false, eqb, eqb-true}
use Rattle.std.specs.List.{position}
use Rattle.std.specs.Int.{w128, bit_not}
use Rattle.std.proofs.lemmas.List.{length-map}
use Rattle.std.proofs.lemmas.List.Elements.{All-map}
use Rattle.ct_vectors.specs.Vectors.{divides}
use Rattle.ct_index.specs.declared.bits.HeadBits.{HeadBits}
use Rattle.ct_index.specs.Bits.{IsIndex}
use Rattle.ct_index.specs.Table.{row_count, IsExcluded, LeavesOut, AreDecided, LacksSome}
use Rattle.ct_index.proofs.Additions.{width_from}
use Rattle.ct_index.proofs.Lookups.{position-map, position_none, lacking, places_within, leaves_out, are_decided}
use Rattle.ct_index.proofs.block.HeadBlock.first_dividing.Goals as goal
use Rattle.ct_index.proofs.block.HeadBlock.first_dividing.Goals.{then-is_empty-via-then-is_empty, then-is_empty-via-else-is_empty+then-lacks}

pub returns-then-is_empty : goal.returns-then-is_empty
returns-then-is_empty g c =
    let never : (k : ℕ) → k < length (map g.T.HasHead.head_of c.self.inside.items.items) → divides (get_or (map g.T.HasHead.head_of c.self.inside.items.items) k []) c.args.p.now ≡ false =
    elim c.then-is_empty.branch [
      | then-is_empty-via-then-is_empty w ↦ λ k l. absurd (
          let none : length c.self.inside.items.items ≡ 0 = omega (arith, c.self.inside.items.ok.0, eqb-true _ _ (sym w.if-is_empty.ensures)) in
          omega (arith, l, length-map c.self.inside.items.items g.T.HasHead.head_of))
      | then-is_empty-via-else-is_empty+then-lacks w ↦
          let lacking_one : LacksSome c.self.inside.bits.shared c.args.p.now = subst (LacksSome c.self.inside.bits.shared) w.as_slice.ensures.coordinates (w.lacks.ensures w.if-lacks.true) in
          lacking (map g.T.HasHead.head_of c.self.inside.items.items) c.args.p.now c.self.inside.bits.shared c.self.invariant.common lacking_one
    ] in
    sym (subst (λ xs. position (λ t. divides (g.T.HasHead.head_of t) c.args.p.now) xs ≡ None) c.self.view_is
    (position-map g.T.HasHead.head_of (λ h. divides h c.args.p.now) c.self.inside.items.items ∙
    position_none (λ h. divides h c.args.p.now) (map g.T.HasHead.head_of c.self.inside.items.items) [] never))

not_none : (n : ℕ) → false ≡ eqb n 0 → 0 < n
not_none n e = grind arith

-- what is known of the heads where there are some: the table has their width, and they have the point's
record Known (heads : List (List ℕ)) (p rows : List ℕ) : Type 0 where
  widths : All (λ h. length h ≡ length p) heads
  width : length rows ≡ row_count (length p)

known : {X : Type 0} (f : X → List ℕ) (items now : List X) (p : List ℕ) (bits : HeadBits) → items ≡ now → All (λ t. length (f t) ≡ length p) now → 0 < length items → IsIndex (map f items) bits →
    Known (map f items) p bits.rows.items
known f items now p bits is widths some b =
    let all : All (λ h. length h ≡ length p) (map f items) = All-map (λ h. length h ≡ length p) f items (subst (λ xs. All (λ t. length (f t) ≡ length p) xs) (sym is) widths) in
    record {
      widths = all;
      width = width_from (map f items) p bits.rows.items bits.supports.items bits.decided bits.shared (omega (arith, some, length-map items f)) all b;
    }

pub excluded-allowed-requires : goal.excluded-allowed-requires
excluded-allowed-requires g c =
    let some : 0 < length c.self.inside.items.items = omega (arith, c.self.inside.items.ok.0, not_none _ c.if-is_empty.ensures) in
    let k : Known (map g.T.HasHead.head_of c.self.inside.items.items) c.args.p.now c.self.inside.bits.rows.items =
    known g.T.HasHead.head_of c.self.inside.items.items c.args.self.now c.args.p.now c.self.inside.bits c.self.view_is c.requires.widths some c.self.invariant in
    subst (λ rows. All (λ r. r < length rows) c.as_slice-2.result.now) (sym c.deref.ensures.value)
    (subst (λ places. All (λ r. r < length c.self.inside.bits.rows.items) places) (sym c.as_slice-2.ensures)
    (places_within c.self.inside.bits.rows.items c.args.p.now c.args.places.now c.requires.places k.width))

excluded_there : (rows places : List ℕ) (out : ℕ) (rows' places' : List ℕ) → rows' ≡ rows → places' ≡ places → IsExcluded rows' places' (length places') out → IsExcluded rows places (length places) out
excluded_there rows places out rows' places' r s x = subst (λ (t : List ℕ). IsExcluded t places (length places) out) r (subst (λ (t : List ℕ). IsExcluded rows' t (length t) out) s x)

pub first_among-requires-clause-others : goal.first_among-requires-clause-others
first_among-requires-clause-others g c =
    let some : 0 < length c.self.inside.items.items = omega (arith, c.self.inside.items.ok.0, not_none _ c.if-is_empty.ensures) in
    let k : Known (map g.T.HasHead.head_of c.self.inside.items.items) c.args.p.now c.self.inside.bits.rows.items =
    known g.T.HasHead.head_of c.self.inside.items.items c.args.self.now c.args.p.now c.self.inside.bits c.self.view_is c.requires.widths some c.self.invariant in
    subst (λ xs. LeavesOut (map g.T.HasHead.head_of xs) c.args.p.now (bit_not w128 c.excluded-allowed.result)) (sym c.deref-2.ensures.value)
    (leaves_out (map g.T.HasHead.head_of c.self.inside.items.items) c.self.inside.bits.rows.items c.args.p.now c.args.places.now c.excluded-allowed.result
    c.self.invariant.table c.requires.places k.width c.self.invariant.few c.excluded-allowed.type_inv
    (excluded_there c.self.inside.bits.rows.items c.args.places.now c.excluded-allowed.result c.deref.result.now c.as_slice-2.result.now c.deref.ensures.value c.as_slice-2.ensures c.excluded-allowed.ensures))

pub first_among-requires-clause-decided : goal.first_among-requires-clause-decided
first_among-requires-clause-decided g c =
    let some : 0 < length c.self.inside.items.items = omega (arith, c.self.inside.items.ok.0, not_none _ c.if-is_empty.ensures) in
    let k : Known (map g.T.HasHead.head_of c.self.inside.items.items) c.args.p.now c.self.inside.bits.rows.items =
    known g.T.HasHead.head_of c.self.inside.items.items c.args.self.now c.args.p.now c.self.inside.bits c.self.view_is c.requires.widths some c.self.invariant in
    subst (λ xs. AreDecided (map g.T.HasHead.head_of xs) c.args.p.now (bit_not w128 c.excluded-allowed.result) c.self.inside.bits.decided) (sym c.deref-2.ensures.value)
    (are_decided (map g.T.HasHead.head_of c.self.inside.items.items) c.self.inside.bits.rows.items c.args.p.now c.args.places.now c.excluded-allowed.result
    c.self.invariant.table c.requires.places k.width c.self.invariant.few c.excluded-allowed.type_inv
    (excluded_there c.self.inside.bits.rows.items c.args.places.now c.excluded-allowed.result c.deref.result.now c.as_slice-2.result.now c.deref.ensures.value c.as_slice-2.ensures c.excluded-allowed.ensures)
    c.self.inside.bits.decided k.widths c.self.invariant.low)

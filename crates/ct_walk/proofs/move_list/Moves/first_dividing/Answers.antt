use Rattle.std.proofs.Common.{ℕ, ◌≡◌, ◌+◌, ◌*◌, ◌≤◌, ◌<◌, List, [], All, length, get_or, take, sym, ◌∙◌, subst, ap, arith, Some, None, suc, add-one}
use Rattle.std.specs.Option.{option_map}
use Rattle.std.specs.List.{position, flat_map}
use Rattle.std.specs.Arc.{arc_value}
use Rattle.std.specs.declared.sync.Arc.{Arc}
use Rattle.std.specs.declared.alloc.Global.{Global}
use Rattle.std.proofs.lemmas.List.{take_all}
use Rattle.std.proofs.lemmas.List.Quantifiers.{position-Some}
use Rattle.ct_vectors.specs.Vectors.{divides}
use Rattle.ct_vectors.specs.declared.limits.TheConstants.{MOVE_LIMIT}
use Rattle.ct_index.specs.Pages.{ArePages}
use Rattle.ct_index.proofs.Pages.{All-page, scanned_more, scanned_found}
use Rattle.ct_instance.specs.Instance.{IsPoint}
use Rattle.ct_instance.specs.TestSet.{Binomial}
use Rattle.ct_instance.specs.Walk.{first_dividing}
use Rattle.ct_walk.proofs.SlabFacts.{have_width, first_is_position}
use Rattle.ct_walk.proofs.move_list.Moves.first_dividing.Goals as goal

pub first_dividing-requires-clause-widths : goal.first_dividing-requires-clause-widths
first_dividing-requires-clause-widths c =
    let point : IsPoint (arc_value c.self.inside.inst) c.args.p.now = subst (λ l. IsPoint l.instance c.args.p.now) (sym c.self.view_is) c.requires in
    subst (All (λ m. length m.head ≡ length c.args.p.now)) (sym (c.deref.ensures ∙ ap arc_value c.index.ensures))
    (All-page arc_value (λ m. length m.head ≡ length c.args.p.now) c.self.inside.slabs.items c.loop-k.k c.index.result.now (omega (arith, c.self.inside.slabs.ok.0))
    (have_width (arc_value c.self.inside.inst) (flat_map arc_value c.self.inside.slabs.items) c.args.p.now c.self.invariant.0.moves point))

-- the move that is found, and its place
record Found (ms : List Binomial) (p : List ℕ) (k j : ℕ) : Type 0 where
  at : position (λ m. divides m.head p) ms ≡ Some (128 * k + j)
  few : 128 * k + j < MOVE_LIMIT

found : (slabs : List (Arc (List Binomial) Global)) (slab : Arc (List Binomial) Global) (p : List ℕ) (k j : ℕ) → ArePages arc_value slabs → length (flat_map arc_value slabs) ≤ MOVE_LIMIT → k < length slabs →
    slab ≡ get_or slabs k slab → position (λ m. divides m.head p) (flat_map arc_value (take k slabs)) ≡ None → position (λ m. divides m.head p) (arc_value slab) ≡ Some j →
    Found (flat_map arc_value slabs) p k j
found slabs slab p k j a most l is before here =
    let at : position (λ m. divides m.head p) (flat_map arc_value slabs) ≡ Some (128 * k + j) =
    scanned_found arc_value (λ m. divides m.head p) slabs k j slab (record { head = []; tail = [] }) a l before (ap (λ s. position (λ m. divides m.head p) (arc_value s)) (sym is) ∙ here) in
    record { at = at; few = omega (arith, (position-Some (λ m. divides m.head p) (flat_map arc_value slabs) (128 * k + j) (record { head = []; tail = [] }) at).0, most) }

pub overflow_mul-result : goal.overflow_mul-result
overflow_mul-result c =
    let f : Found (flat_map arc_value c.self.inside.slabs.items) c.args.p.now c.loop-k.k c.in-Some.j =
    found c.self.inside.slabs.items c.index.result.now c.args.p.now c.loop-k.k c.in-Some.j c.self.invariant.1 c.self.invariant.0.most (omega (arith, c.self.inside.slabs.ok.0)) c.index.ensures c.loop-k.invariant
    (ap (position (λ m. divides m.head c.args.p.now)) (sym c.deref.ensures) ∙ sym c.in-Some.ensures) in
    omega (arith, f.few)

pub overflow_add-result : goal.overflow_add-result
overflow_add-result c =
    let f : Found (flat_map arc_value c.self.inside.slabs.items) c.args.p.now c.loop-k.k c.in-Some.j =
    found c.self.inside.slabs.items c.index.result.now c.args.p.now c.loop-k.k c.in-Some.j c.self.invariant.1 c.self.invariant.0.most (omega (arith, c.self.inside.slabs.ok.0)) c.index.ensures c.loop-k.invariant
    (ap (position (λ m. divides m.head c.args.p.now)) (sym c.deref.ensures) ∙ sym c.in-Some.ensures) in
    omega (arith, f.few)

pub overflow_cast-result : goal.overflow_cast-result
overflow_cast-result c =
    let f : Found (flat_map arc_value c.self.inside.slabs.items) c.args.p.now c.loop-k.k c.in-Some.j =
    found c.self.inside.slabs.items c.index.result.now c.args.p.now c.loop-k.k c.in-Some.j c.self.invariant.1 c.self.invariant.0.most (omega (arith, c.self.inside.slabs.ok.0)) c.index.ensures c.loop-k.invariant
    (ap (position (λ m. divides m.head c.args.p.now)) (sym c.deref.ensures) ∙ sym c.in-Some.ensures) in
    omega (arith, f.few)

pub overflow_add-result-in-Some : goal.overflow_add-result-in-Some
overflow_add-result-in-Some c =
    let f : Found (flat_map arc_value c.self.inside.slabs.items) c.args.p.now c.loop-k.k c.in-Some.j =
    found c.self.inside.slabs.items c.index.result.now c.args.p.now c.loop-k.k c.in-Some.j c.self.invariant.1 c.self.invariant.0.most (omega (arith, c.self.inside.slabs.ok.0)) c.index.ensures c.loop-k.invariant
    (ap (position (λ m. divides m.head c.args.p.now)) (sym c.deref.ensures) ∙ sym c.in-Some.ensures) in
    omega (arith, f.few)

pub returns-in-Some : goal.returns-in-Some
returns-in-Some c =
    let f : Found (flat_map arc_value c.self.inside.slabs.items) c.args.p.now c.loop-k.k c.in-Some.j =
    found c.self.inside.slabs.items c.index.result.now c.args.p.now c.loop-k.k c.in-Some.j c.self.invariant.1 c.self.invariant.0.most (omega (arith, c.self.inside.slabs.ok.0)) c.index.ensures c.loop-k.invariant
    (ap (position (λ m. divides m.head c.args.p.now)) (sym c.deref.ensures) ∙ sym c.in-Some.ensures) in
    sym (ap (λ l. first_dividing l.moves c.args.p.now) (sym c.self.view_is) ∙ first_is_position (flat_map arc_value c.self.inside.slabs.items) c.args.p.now ∙ ap (option_map suc) f.at ∙
    ap Some (sym (add-one (128 * c.loop-k.k + c.in-Some.j))))

pub loop-k-preserved : goal.loop-k-preserved
loop-k-preserved c =
    scanned_more arc_value (λ m. divides m.head c.args.p.now) c.self.inside.slabs.items c.loop-k.k c.index.result.now (record { head = []; tail = [] }) (omega (arith, c.self.inside.slabs.ok.0)) c.loop-k.invariant
    (ap (λ s. position (λ m. divides m.head c.args.p.now) (arc_value s)) (sym c.index.ensures) ∙ ap (position (λ m. divides m.head c.args.p.now)) (sym c.deref.ensures) ∙ sym c.first_dividing.ensures ∙ c.in_default.is)

pub returns : goal.returns
returns c =
    let all : take c.loop-k.k c.self.inside.slabs.items ≡ c.self.inside.slabs.items = take_all c.loop-k.k c.self.inside.slabs.items (omega (arith, c.self.inside.slabs.ok.0)) in
    sym (ap (λ l. first_dividing l.moves c.args.p.now) (sym c.self.view_is) ∙ first_is_position (flat_map arc_value c.self.inside.slabs.items) c.args.p.now ∙
    ap (option_map suc) (subst (λ s. position (λ m. divides m.head c.args.p.now) (flat_map arc_value s) ≡ None) all c.loop-k.invariant))

use Rattle.std.proofs.Common.{ℕ, ◌≡◌, ◌+◌, ◌*◌, ◌<◌, List, [], All, length, get_or, take, sym, ◌∙◌, subst, ap, arith, Some, None, suc, add-one}
use Rattle.std.specs.Option.{option_map}
use Rattle.std.specs.List.{position, flat_map}
use Rattle.std.proofs.lemmas.List.Quantifiers.{position-Some}
use Rattle.ct_vectors.specs.Vectors.{divides}
use Rattle.ct_vectors.specs.declared.limits.TheConstants.{MOVE_LIMIT}
use Rattle.ct_index.specs.Pages.{IsPaged}
use Rattle.ct_index.proofs.Pages.{All-page, scanned_more, scanned_found}
use Rattle.ct_index.proofs.index.HeadIndex.first_dividing.Goals as goal

pub first_dividing-requires-clause-widths : goal.first_dividing-requires-clause-widths
first_dividing-requires-clause-widths c =
    subst (All (λ h. length h ≡ length c.args.p.now)) (sym c.index.ensures)
    (All-page (λ b. b) (λ h. length h ≡ length c.args.p.now) c.self.inside.blocks.items c.loop-k.k c.index.result.now (omega arith)
    (subst (All (λ h. length h ≡ length c.args.p.now)) (sym c.self.view_is) c.requires))

-- the head that is found, and its index
record Found (heads p : List (List ℕ)) (q : List ℕ) (k j : ℕ) : Type 0 where
  at : position (λ h. divides h q) heads ≡ Some (128 * k + j)
  few : 128 * k + j < MOVE_LIMIT

found : (blocks : List (List (List ℕ))) (block : List (List ℕ)) (p : List ℕ) (k j : ℕ) → IsPaged (λ b. b) blocks → k < length blocks → block ≡ get_or blocks k block →
    position (λ h. divides h p) (flat_map (λ b. b) (take k blocks)) ≡ None → position (λ h. divides h p) block ≡ Some j → Found (flat_map (λ b. b) blocks) block p k j
found blocks block p k j a l is before here =
    let at : position (λ h. divides h p) (flat_map (λ b. b) blocks) ≡ Some (128 * k + j) =
    scanned_found (λ b. b) (λ h. divides h p) blocks k j block [] a.all l before (ap (position (λ h. divides h p)) (sym is) ∙ here) in
    record { at = at; few = omega (arith, (position-Some (λ h. divides h p) (flat_map (λ b. b) blocks) (128 * k + j) [] at).0, a.most) }

pub overflow_mul-result : goal.overflow_mul-result
overflow_mul-result c =
    let f : Found (flat_map (λ b. b) c.self.inside.blocks.items) c.index.result.now c.args.p.now c.loop-k.k c.in-Some.j =
    found c.self.inside.blocks.items c.index.result.now c.args.p.now c.loop-k.k c.in-Some.j c.self.invariant (omega arith) c.index.ensures c.loop-k.invariant (sym c.in-Some.ensures) in
    omega (arith, f.few)

pub overflow_add-result : goal.overflow_add-result
overflow_add-result c =
    let f : Found (flat_map (λ b. b) c.self.inside.blocks.items) c.index.result.now c.args.p.now c.loop-k.k c.in-Some.j =
    found c.self.inside.blocks.items c.index.result.now c.args.p.now c.loop-k.k c.in-Some.j c.self.invariant (omega arith) c.index.ensures c.loop-k.invariant (sym c.in-Some.ensures) in
    omega (arith, f.few)

pub overflow_cast-result : goal.overflow_cast-result
overflow_cast-result c =
    let f : Found (flat_map (λ b. b) c.self.inside.blocks.items) c.index.result.now c.args.p.now c.loop-k.k c.in-Some.j =
    found c.self.inside.blocks.items c.index.result.now c.args.p.now c.loop-k.k c.in-Some.j c.self.invariant (omega arith) c.index.ensures c.loop-k.invariant (sym c.in-Some.ensures) in
    omega (arith, f.few)

pub overflow_add-result-in-Some : goal.overflow_add-result-in-Some
overflow_add-result-in-Some c =
    let f : Found (flat_map (λ b. b) c.self.inside.blocks.items) c.index.result.now c.args.p.now c.loop-k.k c.in-Some.j =
    found c.self.inside.blocks.items c.index.result.now c.args.p.now c.loop-k.k c.in-Some.j c.self.invariant (omega arith) c.index.ensures c.loop-k.invariant (sym c.in-Some.ensures) in
    omega (arith, f.few)

pub returns-in-Some : goal.returns-in-Some
returns-in-Some c =
    let f : Found (flat_map (λ b. b) c.self.inside.blocks.items) c.index.result.now c.args.p.now c.loop-k.k c.in-Some.j =
    found c.self.inside.blocks.items c.index.result.now c.args.p.now c.loop-k.k c.in-Some.j c.self.invariant (omega arith) c.index.ensures c.loop-k.invariant (sym c.in-Some.ensures) in
    sym (ap (λ xs. option_map suc (position (λ h. divides h c.args.p.now) xs)) (sym c.self.view_is) ∙ ap (option_map suc) f.at ∙ ap Some (sym (add-one (128 * c.loop-k.k + c.in-Some.j))))

pub loop-k-preserved : goal.loop-k-preserved
loop-k-preserved c =
    scanned_more (λ b. b) (λ h. divides h c.args.p.now) c.self.inside.blocks.items c.loop-k.k c.index.result.now [] (omega arith) c.loop-k.invariant
    (ap (position (λ h. divides h c.args.p.now)) (sym c.index.ensures) ∙ sym c.first_dividing.ensures ∙ c.in_default.is)

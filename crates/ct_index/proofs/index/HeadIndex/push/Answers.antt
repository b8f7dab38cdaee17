use Rattle.std.proofs.Common.{ℕ, ◌≡◌, ◌+◌, ◌-◌, ◌<◌, Result, Ok, Err, List, [], ◌∷◌, ◌++◌, All, length, get_or, set, sym, ◌∙◌, subst, ap, arith, append-nil, IsTrue, ap₂}
use Rattle.std.specs.List.{flat_map}
use Rattle.std.specs.Result.{OnOk, OnErr}
use Rattle.std.proofs.lemmas.List.{length_push, get_or_default}
use Rattle.ct_vectors.specs.declared.limits.TheConstants.{MOVE_LIMIT}
use Rattle.ct_index.specs.Pages.{IsPaged}
use Rattle.ct_index.proofs.Pages.{All-page, paged_set, paged_push, flat_map-set}
use Rattle.ct_index.proofs.index.HeadIndex.push.Goals as goal
use Rattle.ct_index.proofs.index.HeadIndex.push.Goals.{else-count-gt0-via-then-count-gt0+else-not-is_full, else-count-gt0-via-else-count-gt0}

pub add-requires-clause-width : goal.add-requires-clause-width
add-requires-clause-width c =
    subst (λ copy. All (λ h. length h ≡ length copy) c.index_mut.result.now) (sym c.in_ok-copy.ensures)
    (subst (All (λ h. length h ≡ length c.args.head.now)) (sym c.index_mut.ensures.value)
    (All-page (λ b. b) (λ h. length h ≡ length c.args.head.now) c.self.inside.blocks.items (c.len-count.result - 1) c.index_mut.result.now (omega (arith, c.self.inside.blocks.ok.0))
    (subst (All (λ h. length h ≡ length c.args.head.now)) (sym c.self.view_is) c.requires.width)))

-- whether the head was added or not
grown : {E : Type 0} (r : Result (Unit {0}) E) (blocks : List (List (List ℕ))) (k : ℕ) (old new : List (List ℕ)) (head : List ℕ) → OnOk r (new ≡ old ++ head ∷ []) → OnErr r (new ≡ old) →
    old ≡ get_or blocks k old → k + 1 ≡ length blocks → length old < 128 → length (flat_map (λ b. b) blocks) < MOVE_LIMIT → IsPaged (λ b. b) blocks → IsPaged (λ b. b) (set blocks k new)
grown (Ok u) blocks k old new head ok err is last room few a =
    paged_set (λ b. b) blocks k new (head ∷ []) a last (ok ∙ ap (λ b. b ++ head ∷ []) (is ∙ get_or_default blocks k old new (omega arith))) (omega (arith, ap length ok, length_push old head)) (omega arith)
grown (Err e) blocks k old new head ok err is last room few a =
    paged_set (λ b. b) blocks k new [] a last (err ∙ is ∙ get_or_default blocks k old new (omega arith) ∙ sym (append-nil (get_or blocks k new))) (omega (arith, ap length err)) (omega arith)

grown_view : {E : Type 0} (r : Result (Unit {0}) E) (blocks : List (List (List ℕ))) (k : ℕ) (old new now : List (List ℕ)) (copy head : List ℕ) → OnOk r (new ≡ old ++ copy ∷ []) →
    old ≡ get_or blocks k old → k + 1 ≡ length blocks → flat_map (λ b. b) blocks ≡ now → copy ≡ head → OnOk r (flat_map (λ b. b) (set blocks k new) ≡ now ++ head ∷ [])
grown_view (Ok u) blocks k old new now copy head ok is last view same =
    flat_map-set (λ b. b) blocks k new (copy ∷ []) last (ok ∙ ap (λ b. b ++ copy ∷ []) (is ∙ get_or_default blocks k old new (omega arith))) ∙ ap₂ (λ xs h. xs ++ h ∷ []) view same
grown_view (Err e) blocks k old new now copy head ok is last view same = tt

pub invariant_of-self : goal.invariant_of-self
invariant_of-self c =
    let not_full : length c.index.result.now ≡ 128 → ⊥ = λ e. let t : IsTrue c.is_full.result = c.is_full.ensures.full.1 e in cc in
    let same : c.index.result.now ≡ c.index_mut.result.now = c.index.ensures ∙ get_or_default c.self.inside.blocks.items (c.len-count.result - 1) c.index.result.now c.index_mut.result.now (omega (arith, c.self.inside.blocks.ok.0)) ∙ sym c.index_mut.ensures.value in
    grown c.add.result c.self.inside.blocks.items (c.len-count.result - 1) c.index_mut.result.now c.add.new.block c.in_ok-copy.copy c.add.ensures.ok c.add.ensures.err c.index_mut.ensures.value
    (omega (arith, c.self.inside.blocks.ok.0)) (omega (arith, not_full, c.is_full.ensures.few, ap length same))
    (subst (λ xs. length xs < MOVE_LIMIT) (sym c.self.view_is) c.requires.room) c.self.invariant

pub returns-then-not-is_full-clause-ok : goal.returns-then-not-is_full-clause-ok
returns-then-not-is_full-clause-ok c =
    grown_view c.add.result c.self.inside.blocks.items (c.len-count.result - 1) c.index_mut.result.now c.add.new.block c.args.self.now c.in_ok-copy.copy c.args.head.now c.add.ensures.ok c.index_mut.ensures.value
    (omega (arith, c.self.inside.blocks.ok.0)) c.self.view_is c.in_ok-copy.ensures

pub invariant_of-self-2 : goal.invariant_of-self-2
invariant_of-self-2 c =
    let block : c.add-2.new.block ≡ c.in_ok-copy.copy ∷ [] = c.in_ok-add.ensures.ok ∙ ap (λ b. b ++ c.in_ok-copy.copy ∷ []) c.new-block.ensures in
    let one : length c.add-2.new.block ≡ 1 = ap length block in
    let room : length (flat_map (λ b. b) c.self.inside.blocks.items) < MOVE_LIMIT = subst (λ xs. length xs < MOVE_LIMIT) (sym c.self.view_is) c.requires.room in
    subst (IsPaged (λ b. b)) (sym c.in_ok-push.ensures.items)
    (paged_push (λ b. b) c.self.inside.blocks.items c.add-2.new.block c.self.invariant
    (λ k l d. elim c.else-count-gt0.branch [
      | else-count-gt0-via-then-count-gt0+else-not-is_full w ↦
          let at : k ≡ c.len-count.result - 1 = omega (arith, l, c.self.inside.blocks.ok.0) in
          ap length (get_or_default c.self.inside.blocks.items k d w.index.result.now (omega arith) ∙ ap (λ i. get_or c.self.inside.blocks.items i w.index.result.now) at ∙ sym w.index.ensures) ∙
          w.is_full.ensures.full.0 w.if-not-is_full.false
      | else-count-gt0-via-else-count-gt0 w ↦ absurd (omega (arith, l, w.if-count-gt0.false, c.self.inside.blocks.ok.0))
    ])
    (omega arith) (omega arith))

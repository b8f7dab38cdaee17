use Rattle.std.proofs.Common.{◌≡◌, ◌+◌, ◌<◌, ◌≤◌, List, [], ◌∷◌, ◌++◌, All, length, sym, ◌∙◌, subst, ap, arith, append-nil, append_assoc, IsTrue, false}
use Rattle.std.specs.List.{flat_map}
use Rattle.std.specs.Arc.{arc_value}
use Rattle.std.specs.Vec.Iter.{into_iter_items}
use Rattle.std.proofs.lemmas.List.{nil_from_length, get_or-append-add, get_or_append_left, length-append}
use Rattle.ct_vectors.specs.declared.limits.TheConstants.{MOVE_LIMIT}
use Rattle.ct_index.specs.Pages.{IsPaged}
use Rattle.ct_instance.specs.Instance.{Problem}
use Rattle.ct_instance.specs.TestSet.{Binomial}
use Rattle.ct_walk.specs.Moves.{IsSmallMove}
use Rattle.ct_walk.proofs.SlabFacts.{Growing, growing_start, growing_more, growing_new, growing_end}
use Rattle.ct_walk.proofs.slabs.grown.Goals as goal
use Rattle.ct_walk.proofs.slabs.grown.Goals.{then-is_full+in_ok-new+in_ok-push, else-is_full}

All-front : {X : Type 0} (A : X → Type 0) (xs ys : List X) → All A (xs ++ ys) → All A xs
All-front A xs ys a k d l = subst A (get_or_append_left xs ys d k l) (a k d (omega (arith, length-append xs ys)))

pub loop-mv-init : goal.loop-mv-init
loop-mv-init c = (
  growing_start c.args.inst.now c.args.slabs.now c.in_ok-made.made.items c.full_count-full.result c.in_ok-open.open c.full_count-full.ensures.within c.full_count-full.ensures.full c.in_ok-made.ensures c.in_ok-open.ensures.whole c.in_ok-open.ensures.few
      (All-front (IsSmallMove c.args.inst.now) (flat_map arc_value c.args.slabs.now) c.args.more.items c.requires.of_instance),
  sym c.into_iter-mv-iterator.ensures.into_iter_gives.0,
)

-- the next of the moves
small_here : (i : Problem) (moves done rest : List Binomial) (mv : Binomial) → All (IsSmallMove i) (moves ++ (done ++ (mv ∷ rest))) → IsSmallMove i mv
small_here i moves done rest mv a =
    subst (IsSmallMove i) (get_or-append-add moves (done ++ mv ∷ rest) (length done + 0) mv ∙ get_or-append-add done (mv ∷ rest) 0 mv)
    (a (length moves + (length done + 0)) mv (omega (arith, length-append moves (done ++ mv ∷ rest), length-append done (mv ∷ rest))))

pub add-requires-clause-of_instance : goal.add-requires-clause-of_instance
add-requires-clause-of_instance c =
    small_here c.args.inst.now (flat_map arc_value c.args.slabs.now) c.loop-mv.yielded (into_iter_items c.next.new.self) c.in-Some.mv
    (subst (λ xs. All (IsSmallMove c.args.inst.now) (flat_map arc_value c.args.slabs.now ++ xs)) (c.loop-mv.invariant.1 ∙ ap (λ xs. c.loop-mv.yielded ++ xs) c.in-Some.ensures.steps.0) c.requires.of_instance)

pub loop-mv-preserved : goal.loop-mv-preserved
loop-mv-preserved c =
    let small : IsSmallMove c.args.inst.now c.in-Some.mv =
    small_here c.args.inst.now (flat_map arc_value c.args.slabs.now) c.loop-mv.yielded (into_iter_items c.next.new.self) c.in-Some.mv
    (subst (λ xs. All (IsSmallMove c.args.inst.now) (flat_map arc_value c.args.slabs.now ++ xs)) (c.loop-mv.invariant.1 ∙ ap (λ xs. c.loop-mv.yielded ++ xs) c.in-Some.ensures.steps.0) c.requires.of_instance) in
    let room : Growing c.args.inst.now c.args.slabs.now c.loop-mv.yielded c.if-is_full.made.items c.if-is_full.open × (length c.if-is_full.open < 128) =
    elim c.if-is_full.branch [
      | then-is_full+in_ok-new+in_ok-push w ↦
          let opened : c.if-is_full.open ≡ [] = w.open-is ∙ w.new-open.ensures in
          let added : c.if-is_full.made.items ≡ c.loop-mv.made.items ++ w.in_ok-new.field-0 ∷ [] = ap (λ v. v.items) w.made-is ∙ w.in_ok-push.ensures.items in (
            subst (λ xs. Growing c.args.inst.now c.args.slabs.now c.loop-mv.yielded xs c.if-is_full.open) (sym added)
                (subst (Growing c.args.inst.now c.args.slabs.now c.loop-mv.yielded (c.loop-mv.made.items ++ w.in_ok-new.field-0 ∷ [])) (sym opened)
                (growing_new c.args.inst.now c.args.slabs.now c.loop-mv.made.items c.loop-mv.yielded c.loop-mv.open w.in_ok-new.field-0 c.loop-mv.invariant.0 (c.is_full.ensures.full.0 w.if-is_full.true) w.in_ok-new.ensures.ok)),
            omega (arith, ap length opened),
          )
      | else-is_full w ↦
          let not_full : length c.loop-mv.open ≡ 128 → ⊥ = λ e. let t : IsTrue c.is_full.result = c.is_full.ensures.full.1 e in let f : c.is_full.result ≡ false = w.if-is_full.false in cc in (
            subst (λ v. Growing c.args.inst.now c.args.slabs.now c.loop-mv.yielded v.items c.if-is_full.open) (sym w.made-is)
                (subst (Growing c.args.inst.now c.args.slabs.now c.loop-mv.yielded c.loop-mv.made.items) (sym w.open-is) c.loop-mv.invariant.0),
            omega (arith, not_full, c.is_full.ensures.few, ap length w.open-is),
          )
    ] in (
      subst (Growing c.args.inst.now c.args.slabs.now (c.loop-mv.yielded ++ c.in-Some.mv ∷ []) c.if-is_full.made.items) (sym c.in_ok-add.ensures)
          (growing_more c.args.inst.now c.args.slabs.now c.if-is_full.made.items c.loop-mv.yielded c.if-is_full.open c.in-Some.mv room.0 small room.1),
      c.loop-mv.invariant.1 ∙ ap (λ xs. c.loop-mv.yielded ++ xs) c.in-Some.ensures.steps.0 ∙ sym (append_assoc c.loop-mv.yielded (c.in-Some.mv ∷ []) (into_iter_items c.next.new.self)),
    )

pub returns : goal.returns
returns c =
    let none : length (into_iter_items c.loop-mv.mv-iterator) ≡ 0 = omega (arith, c.in-None.ensures.steps.0, c.loop-mv.mv-iterator.rest.ok.0) in
    let done : c.args.more.items ≡ c.loop-mv.yielded =
    c.loop-mv.invariant.1 ∙ ap (λ xs. c.loop-mv.yielded ++ xs) (nil_from_length (into_iter_items c.loop-mv.mv-iterator) none) ∙ append-nil c.loop-mv.yielded in
    let end = growing_end c.args.inst.now c.args.slabs.now c.loop-mv.made.items c.loop-mv.yielded c.loop-mv.open c.in_ok-new-2.field-0 c.loop-mv.invariant.0 c.in_ok-new-2.ensures.ok
    (subst (λ xs. length (flat_map arc_value c.args.slabs.now ++ xs) ≤ MOVE_LIMIT) done c.requires.room) in (
      subst (IsPaged arc_value) (sym c.in_ok-push-2.ensures.items) end.0,
      ap (flat_map arc_value) c.in_ok-push-2.ensures.items ∙ end.1 ∙ ap (λ xs. flat_map arc_value c.args.slabs.now ++ xs) (sym done),
    )

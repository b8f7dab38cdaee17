use Rattle.std.proofs.Common.{◌≡◌, refl, sym, ◌∙◌}
use Rattle.ct_instance.specs.Walk.{IsWalkEnd}
use Rattle.ct_walk.proofs.TwoWalks.{both_on, both_stay, ranks_fall, ends_on, shared_point, one_end, ends_agree, end_is_point}
use Rattle.ct_walk.proofs.meeting.have_one_end.Goals as goal

pub loop-above-smaller : goal.loop-above-smaller
loop-above-smaller c =
    ranks_fall c.args.moves.now c.instance-inst.ensures.checked c.args.first.now c.args.second.now c.loop-above.first c.loop-above.second c.higher_steps.new.first c.higher_steps.new.second
    c.loop-above.invariant c.loop-above-test.ensures.stepped

pub loop-above-preserved : goal.loop-above-preserved
loop-above-preserved c =
    both_on c.args.moves.now c.instance-inst.ensures.checked c.args.first.now c.args.second.now c.loop-above.first c.loop-above.second c.higher_steps.new.first c.higher_steps.new.second
    c.loop-above.invariant c.loop-above-test.ensures.stepped

pub returns-then-are_equal-clause-one_end : goal.returns-then-are_equal-clause-one_end
returns-then-are_equal-clause-one_end c =
    let here = both_stay c.args.moves.now c.args.first.now c.args.second.now c.loop-above.first c.loop-above.second c.higher_steps.new.first c.higher_steps.new.second
    c.loop-above.invariant c.loop-above-test.ensures.stayed.0 c.loop-above-test.ensures.stayed.1 in
    let same : c.higher_steps.new.first ≡ c.higher_steps.new.second = sym c.as_slice.ensures.coordinates ∙ c.if-are_equal.ensures.0 refl ∙ c.as_slice-2.ensures.coordinates in
    ((λ _. shared_point c.args.moves.now c.instance-inst.ensures.checked c.args.first.now c.args.second.now c.higher_steps.new.first c.higher_steps.new.second here same), (λ _. refl))

pub returns-clause-one_end : goal.returns-clause-one_end
returns-clause-one_end c =
    let here = both_stay c.args.moves.now c.args.first.now c.args.second.now c.loop-above.first c.loop-above.second c.higher_steps.new.first c.higher_steps.new.second
    c.loop-above.invariant c.loop-above-test.ensures.stayed.0 c.loop-above-test.ensures.stayed.1 in
    let first : IsWalkEnd c.args.moves.now.moves c.args.first.now c.walk_end.new.p = ends_on c.args.moves.now c.args.first.now c.higher_steps.new.first c.walk_end.new.p here.first c.walk_end.ensures in
    let second : IsWalkEnd c.args.moves.now.moves c.args.second.now c.walk_end-2.new.p = ends_on c.args.moves.now c.args.second.now c.higher_steps.new.second c.walk_end-2.new.p here.second c.walk_end-2.ensures in (
      (λ t. one_end c.args.moves.now.moves c.args.first.now c.args.second.now c.walk_end.new.p c.walk_end-2.new.p first second
          (sym c.as_slice-3.ensures.coordinates ∙ c.are_equal-2.ensures.0 t ∙ c.as_slice-4.ensures.coordinates)),
      (λ one. c.are_equal-2.ensures.1 (c.as_slice-3.ensures.coordinates ∙
          ends_agree c.args.moves.now.moves c.args.first.now c.args.second.now c.walk_end.new.p c.walk_end-2.new.p first second one ∙ sym c.as_slice-4.ensures.coordinates)),
    )

pub returns-clause-first_stays_point : goal.returns-clause-first_stays_point
returns-clause-first_stays_point c = end_is_point c.args.moves.now c.instance-inst.ensures.checked c.higher_steps.new.first c.walk_end.new.p
    (let here = both_stay c.args.moves.now c.args.first.now c.args.second.now c.loop-above.first c.loop-above.second c.higher_steps.new.first c.higher_steps.new.second
    c.loop-above.invariant c.loop-above-test.ensures.stayed.0 c.loop-above-test.ensures.stayed.1 in (here.first).walking.point) c.walk_end.ensures

pub returns-clause-second_stays_point : goal.returns-clause-second_stays_point
returns-clause-second_stays_point c = end_is_point c.args.moves.now c.instance-inst.ensures.checked c.higher_steps.new.second c.walk_end-2.new.p
    (let here = both_stay c.args.moves.now c.args.first.now c.args.second.now c.loop-above.first c.loop-above.second c.higher_steps.new.first c.higher_steps.new.second
    c.loop-above.invariant c.loop-above-test.ensures.stayed.0 c.loop-above-test.ensures.stayed.1 in (here.second).walking.point) c.walk_end-2.ensures

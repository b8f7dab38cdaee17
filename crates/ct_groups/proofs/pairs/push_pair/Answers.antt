use Rattle.std.proofs.Common.{◌<◌, ◌+◌, [], get_or, sym, subst, ap, ◌∙◌}
use Rattle.ct_instance.specs.Instance.{grade_of}
use Rattle.ct_groups.specs.Groups.{points_seen, key_of, IsLeastOf}
use Rattle.ct_groups.specs.Pairs.{HasPairs}
use Rattle.ct_groups.proofs.Known.{seen_at, length-seen}
use Rattle.ct_groups.proofs.GroupMoves.{pairs_still, pairs_more}
use Rattle.ct_groups.proofs.SortedPairs.{equal_lists, different_lists}
use Rattle.ct_groups.proofs.pairs.push_pair.Goals as goal

pub returns-then-eq : goal.returns-then-eq
returns-then-eq c =
    let count = length-seen c.args.points.now in
    let head = seen_at c.args.points.now c.args.k c.index-points-k.result c.requires.in_points c.index-points-k.is in
    let tail = seen_at c.args.points.now c.args.place c.index-points-place.result c.requires.least.within c.index-points-place.is in
    pairs_still c.args.inst.now c.rows-rows.ensures.instance (points_seen c.args.points.now) c.requires.points c.args.k c.args.place
    (subst (λ n. c.args.k < n) (sym count) c.requires.in_points)
    (subst (λ n. IsLeastOf c.args.inst.now (points_seen c.args.points.now) n (key_of c.args.inst.now (get_or (points_seen c.args.points.now) c.args.k [])) c.args.place) (sym count) c.requires.least)
    c.args.pairs.now.items c.requires.pairs
    (head ∙ sym c.as_slice.ensures.coordinates ∙ equal_lists c.as_slice.result.now c.as_slice-2.result.now (sym c.if-eq.ensures) ∙ c.as_slice-2.ensures.coordinates ∙ sym tail)

pub returns : goal.returns
returns c =
    let count = length-seen c.args.points.now in
    let head = seen_at c.args.points.now c.args.k c.index-points-k.result c.requires.in_points c.index-points-k.is in
    let tail = seen_at c.args.points.now c.args.place c.index-points-place.result c.requires.least.within c.index-points-place.is in
    subst (HasPairs c.args.inst.now (points_seen c.args.points.now) (c.args.k + 1)) (sym c.in_ok-push.ensures.items)
    (pairs_more c.args.inst.now c.rows-rows.ensures.instance (points_seen c.args.points.now) c.requires.points c.args.k c.args.place
    (subst (λ n. c.args.k < n) (sym count) c.requires.in_points)
    (subst (λ n. IsLeastOf c.args.inst.now (points_seen c.args.points.now) n (key_of c.args.inst.now (get_or (points_seen c.args.points.now) c.args.k [])) c.args.place) (sym count) c.requires.least)
    c.args.pairs.now.items _ c.requires.pairs
    (λ e. different_lists c.as_slice.result.now c.as_slice-2.result.now (sym c.if-eq.ensures)
    (c.as_slice.ensures.coordinates ∙ sym head ∙ e ∙ tail ∙ sym c.as_slice-2.ensures.coordinates))
    (c.as_slice-3.ensures.coordinates ∙ sym head) (c.as_slice-4.ensures.coordinates ∙ sym tail)
    (c.grade.ensures ∙ ap (grade_of c.args.inst.now.columns) (sym head)))

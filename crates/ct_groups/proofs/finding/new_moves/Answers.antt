use Rattle.std.proofs.Common.{◌↔◌, All, AllPairs, Contains, map, subst, sym}
use Rattle.ct_instance.specs.TestSet.{Binomial, ComesBefore}
use Rattle.ct_instance.specs.Instance.{grade_of}
use Rattle.ct_walk.specs.Moves.{IsSmallMove}
use Rattle.ct_completion.specs.Remainders.{IsGroupMove}
use Rattle.ct_groups.specs.Groups.{points_seen}
use Rattle.ct_groups.specs.Pairs.{pair_seen, HasPairs}
use Rattle.ct_groups.proofs.Known.{length-seen}
use Rattle.ct_groups.proofs.NewMoves.{exact, all_small, ordered, ok_items}
use Rattle.ct_groups.proofs.finding.new_moves.Goals as goal

pub moves_of-requires : goal.moves_of-requires
moves_of-requires c =
    let has = subst (λ n. HasPairs c.args.inst.now (points_seen c.args.points.now) n c.in_ok-pairs.pairs.items) (sym (length-seen c.args.points.now)) c.in_ok-pairs.ensures in
    subst (λ xs. All (IsSmallMove c.args.inst.now) (map pair_seen xs)) (sym c.as_slice.ensures.value)
    (all_small c.args.inst.now (points_seen c.args.points.now) c.requires c.in_ok-pairs.pairs.items c.sort_pairs.new.pairs.items has c.sort_pairs.ensures.sorted c.sort_pairs.ensures.same
    (c.sort_pairs.ensures.graded (grade_of c.args.inst.now.columns) has.graded))

pub returns-clause-exact : goal.returns-clause-exact
returns-clause-exact c =
    let has = subst (λ n. HasPairs c.args.inst.now (points_seen c.args.points.now) n c.in_ok-pairs.pairs.items) (sym (length-seen c.args.points.now)) c.in_ok-pairs.ensures in
    ok_items _ c.moves_of.result (map pair_seen c.as_slice.result.now) (λ ms. (m : Binomial) → Contains ms m ↔ IsGroupMove c.args.inst.now (points_seen c.args.points.now) m) c.moves_of.ensures
    (subst (λ xs. (m : Binomial) → Contains (map pair_seen xs) m ↔ IsGroupMove c.args.inst.now (points_seen c.args.points.now) m) (sym c.as_slice.ensures.value)
    (exact c.args.inst.now (points_seen c.args.points.now) c.requires c.in_ok-pairs.pairs.items c.sort_pairs.new.pairs.items has c.sort_pairs.ensures.sorted c.sort_pairs.ensures.same
    (c.sort_pairs.ensures.graded (grade_of c.args.inst.now.columns) has.graded)))

pub returns-clause-ordered : goal.returns-clause-ordered
returns-clause-ordered c =
    let has = subst (λ n. HasPairs c.args.inst.now (points_seen c.args.points.now) n c.in_ok-pairs.pairs.items) (sym (length-seen c.args.points.now)) c.in_ok-pairs.ensures in
    ok_items _ c.moves_of.result (map pair_seen c.as_slice.result.now) (AllPairs (λ m n. ComesBefore c.args.inst.now m.head n.head)) c.moves_of.ensures
    (subst (λ xs. AllPairs (λ m n. ComesBefore c.args.inst.now m.head n.head) (map pair_seen xs)) (sym c.as_slice.ensures.value)
    (ordered c.args.inst.now (points_seen c.args.points.now) c.requires c.in_ok-pairs.pairs.items c.sort_pairs.new.pairs.items has c.sort_pairs.ensures.sorted c.sort_pairs.ensures.same
    (c.sort_pairs.ensures.graded (grade_of c.args.inst.now.columns) has.graded)))

pub returns-clause-small : goal.returns-clause-small
returns-clause-small c =
    let has = subst (λ n. HasPairs c.args.inst.now (points_seen c.args.points.now) n c.in_ok-pairs.pairs.items) (sym (length-seen c.args.points.now)) c.in_ok-pairs.ensures in
    ok_items _ c.moves_of.result (map pair_seen c.as_slice.result.now) (All (IsSmallMove c.args.inst.now)) c.moves_of.ensures
    (subst (λ xs. All (IsSmallMove c.args.inst.now) (map pair_seen xs)) (sym c.as_slice.ensures.value)
    (all_small c.args.inst.now (points_seen c.args.points.now) c.requires c.in_ok-pairs.pairs.items c.sort_pairs.new.pairs.items has c.sort_pairs.ensures.sorted c.sort_pairs.ensures.same
    (c.sort_pairs.ensures.graded (grade_of c.args.inst.now.columns) has.graded)))

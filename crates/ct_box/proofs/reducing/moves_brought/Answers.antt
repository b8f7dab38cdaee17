use Rattle.std.proofs.Common.{◌≡◌, ◌↔◌, ℕ, List, All, AllPairs, Contains, filter, refl, sym, ap, subst, subst₂, ◌∙◌}
use Rattle.ct_instance.specs.Instance.{Problem}
use Rattle.ct_instance.specs.TestSet.{Binomial, ComesBefore}
use Rattle.ct_completion.specs.Remainders.{IsGroupMove}
use Rattle.ct_groups.specs.Groups.{points_seen, IsSmallPoint}
use Rattle.ct_solo.proofs.Brought.{both_ok}
use Rattle.ct_box.specs.Brought.{AreBrought}
use Rattle.ct_box.proofs.BroughtMoves.{is_inside, small_at, small_kept, small_points, are_brought}
use Rattle.ct_box.proofs.reducing.moves_brought.Goals as goal

pub points_left-requires-clause-jobs : goal.points_left-requires-clause-jobs
points_left-requires-clause-jobs c = small_at c.args.moves.now.instance c.args.moves.now.moves c.args.grade c.requires.grade c.args.jobs.now c.requires.jobs

pub new_moves-requires : goal.new_moves-requires
new_moves-requires c =
    let l = c.args.moves.now in
    let points = c.in_ok-points.points.items in
    let seen : points_seen c.as_slice-2.result.now ≡ points = ap points_seen c.as_slice-2.ensures.value ∙ c.in_ok-all.ensures ∙ c.as_slice.ensures.value in
    let inst : c.deref.result.now ≡ l.instance = c.deref.ensures ∙ c.instance.ensures.instance in
    let inside = filter (is_inside l.instance l.moves c.args.top.now) c.args.jobs.now in
    subst₂ (λ (i : Problem) (ps : List (List ℕ)). All (IsSmallPoint i) ps) (sym inst) (sym seen)
    (small_points l c.instance.ensures.checked inside
    (small_kept l.instance l.moves (is_inside l.instance l.moves c.args.top.now) c.args.jobs.now inside (small_at l.instance l.moves c.args.grade c.requires.grade c.args.jobs.now c.requires.jobs) refl)
    points c.in_ok-points.ensures)

pub returns-clause-brought : goal.returns-clause-brought
returns-clause-brought c =
    let l = c.args.moves.now in
    let points = c.in_ok-points.points.items in
    let seen : points_seen c.as_slice-2.result.now ≡ points = ap points_seen c.as_slice-2.ensures.value ∙ c.in_ok-all.ensures ∙ c.as_slice.ensures.value in
    let inst : c.deref.result.now ≡ l.instance = c.deref.ensures ∙ c.instance.ensures.instance in
    let ps = points_seen c.as_slice-2.result.now in
    both_ok c.new_moves.result
    (λ n. (m : Binomial) → Contains n.items m ↔ IsGroupMove c.deref.result.now ps m)
    (λ n. AllPairs (λ m k. ComesBefore c.deref.result.now m.head k.head) n.items)
    (λ n. AreBrought l.instance c.args.top.now l.moves c.args.grade n.items)
    (λ n exact order. are_brought l.instance l.moves c.args.top.now c.args.grade c.args.jobs.now c.requires.jobs points c.in_ok-points.ensures n.items
    (λ m. subst₂ (λ (i : Problem) (qs : List (List ℕ)). Contains n.items m ↔ IsGroupMove i qs m) inst seen (exact m))
    (subst (λ (i : Problem). AllPairs (λ m k. ComesBefore i m.head k.head) n.items) inst order))
    c.new_moves.ensures.exact c.new_moves.ensures.ordered

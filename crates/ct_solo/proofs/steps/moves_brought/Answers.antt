use Rattle.std.proofs.Common.{◌≡◌, ◌+◌, ◌++◌, ℕ, List, All, AllPairs, Contains, ◌↔◌, suc, sym, ap, subst, subst₂, ◌∙◌}
use Rattle.ct_instance.specs.declared.jobs.Job.{Job}
use Rattle.ct_instance.specs.Instance.{Problem}
use Rattle.ct_instance.specs.TestSet.{Binomial, ComesBefore}
use Rattle.ct_instance.specs.Versions.{version_list}
use Rattle.ct_completion.specs.Remainders.{IsGroupMove}
use Rattle.ct_groups.specs.Groups.{points_seen, IsSmallPoint}
use Rattle.ct_solo.specs.Agendas.{jobs_of}
use Rattle.ct_solo.specs.Leaving.{LeavesPoints, IsSmallJob}
use Rattle.ct_solo.proofs.Brought.{IsOpen, small_jobs, small_points, next_list, opened_is_next_grade, both_ok}
use Rattle.ct_solo.proofs.steps.moves_brought.Goals as goal

pub points_left-requires : goal.points_left-requires
points_left-requires c =
    let v = c.args.version.now in
    let a = c.args.agenda.now in
    let e = c.moves-moves.ensures.version in
    let o : IsOpen v a = record { instance = e.instance; version = e.version; agenda = c.requires.agenda; level = c.requires.opens.0; opens = c.requires.opens.1; below = c.requires.opens.2; top = c.requires.top } in
    let d : ℕ = c.behind.result in
    let at : d ≡ o.level + 1 = opened_is_next_grade v a o d (sym c.finished.ensures ∙ c.behind.ensures.level) c.behind.ensures.some in
    subst (λ (js : List Job). All (IsSmallJob c.moves-moves.result.now.instance c.moves-moves.result.now.moves) js) (sym c.jobs.ensures)
    (subst₂ (λ (i : Problem) (ms : List Binomial). All (IsSmallJob i ms) (jobs_of a d)) (sym c.moves-moves.ensures.instance) (sym c.moves-moves.ensures.list) (small_jobs v a o d at))

pub new_moves-requires : goal.new_moves-requires
new_moves-requires c =
    let v = c.args.version.now in
    let a = c.args.agenda.now in
    let e = c.moves-moves.ensures.version in
    let o : IsOpen v a = record { instance = e.instance; version = e.version; agenda = c.requires.agenda; level = c.requires.opens.0; opens = c.requires.opens.1; below = c.requires.opens.2; top = c.requires.top } in
    let d : ℕ = c.behind.result in
    let at : d ≡ o.level + 1 = opened_is_next_grade v a o d (sym c.finished.ensures ∙ c.behind.ensures.level) c.behind.ensures.some in
    let points = c.in_ok-points.points.items in
    let seen : points_seen c.as_slice-2.result.now ≡ points = ap points_seen c.as_slice-2.ensures.value ∙ c.in_ok-all.ensures ∙ c.as_slice.ensures.value in
    let leaves : LeavesPoints v.instance (version_list v.instance v.number) (jobs_of a d) points =
    subst (λ (js : List Job). LeavesPoints v.instance (version_list v.instance v.number) js points) c.jobs.ensures
    (subst₂ (λ (i : Problem) (ms : List Binomial). LeavesPoints i ms c.jobs.result.now points) c.moves-moves.ensures.instance c.moves-moves.ensures.list c.in_ok-points.ensures) in
    let inst : c.deref.result.now ≡ v.instance = c.deref.ensures ∙ c.instance.ensures.instance ∙ c.moves-moves.ensures.instance in
    subst₂ (λ (i : Problem) (ps : List (List ℕ)). All (IsSmallPoint i) ps) (sym inst) (sym seen) (small_points v a o d at points leaves)

pub returns-clause-list : goal.returns-clause-list
returns-clause-list c =
    let v = c.args.version.now in
    let a = c.args.agenda.now in
    let e = c.moves-moves.ensures.version in
    let o : IsOpen v a = record { instance = e.instance; version = e.version; agenda = c.requires.agenda; level = c.requires.opens.0; opens = c.requires.opens.1; below = c.requires.opens.2; top = c.requires.top } in
    let d : ℕ = c.behind.result in
    let at : d ≡ o.level + 1 = opened_is_next_grade v a o d (sym c.finished.ensures ∙ c.behind.ensures.level) c.behind.ensures.some in
    let points = c.in_ok-points.points.items in
    let seen : points_seen c.as_slice-2.result.now ≡ points = ap points_seen c.as_slice-2.ensures.value ∙ c.in_ok-all.ensures ∙ c.as_slice.ensures.value in
    let leaves : LeavesPoints v.instance (version_list v.instance v.number) (jobs_of a d) points =
    subst (λ (js : List Job). LeavesPoints v.instance (version_list v.instance v.number) js points) c.jobs.ensures
    (subst₂ (λ (i : Problem) (ms : List Binomial). LeavesPoints i ms c.jobs.result.now points) c.moves-moves.ensures.instance c.moves-moves.ensures.list c.in_ok-points.ensures) in
    let inst : c.deref.result.now ≡ v.instance = c.deref.ensures ∙ c.instance.ensures.instance ∙ c.moves-moves.ensures.instance in
    let ps = points_seen c.as_slice-2.result.now in
    both_ok c.new_moves.result
    (λ n. (m : Binomial) → Contains n.items m ↔ IsGroupMove c.deref.result.now ps m)
    (λ n. AllPairs (λ m k. ComesBefore c.deref.result.now m.head k.head) n.items)
    (λ n. version_list v.instance v.number ++ n.items ≡ version_list v.instance (suc v.number))
    (λ n exact order. next_list v a o d at points leaves n.items
    (λ m. subst₂ (λ (i : Problem) (qs : List (List ℕ)). Contains n.items m ↔ IsGroupMove i qs m) inst seen (exact m))
    (subst (λ (i : Problem). AllPairs (λ m k. ComesBefore i m.head k.head) n.items) inst order))
    c.new_moves.ensures.exact c.new_moves.ensures.ordered

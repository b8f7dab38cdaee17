use Rattle.std.proofs.Common.{◌≡◌, ◌+◌, ◌≤◌, ◌++◌, ℕ, List, length, suc, sym, ap, ap₂, subst, subst₂, ◌∙◌, arith}
use Rattle.std.specs.Arc.{arc_value}
use Rattle.std.proofs.lemmas.Result.{IfOk-weaker}
use Rattle.ct_vectors.specs.declared.limits.TheConstants.{GRADE_LIMIT}
use Rattle.ct_instance.specs.Instance.{Problem}
use Rattle.ct_instance.specs.TestSet.{Binomial}
use Rattle.ct_instance.specs.Versions.{level_of, version_list, IsVersion}
use Rattle.ct_walk.specs.Moves.{MoveList}
use Rattle.ct_jobs.specs.GradedJobs.{graded_jobs}
use Rattle.ct_version.specs.Editions.{Edition}
use Rattle.ct_solo.specs.Insides.{HasAgenda}
use Rattle.ct_solo.proofs.Brought.{IsOpen, IsStep, opened_below, none_between, next_is_version, next_number, agenda_closed, agenda_next, level_from_agenda, opened_is_next_grade}
use Rattle.ct_solo.proofs.steps.following.Goals as goal

abbrev edition : Problem → ℕ → Edition
edition i n = record { instance = i; number = n }

pub close-requires : goal.close-requires
close-requires c =
    let v = c.args.version.now in
    let a = c.args.agenda.now in
    let e = c.moves-before.ensures.version in
    let o : IsOpen v a = record { instance = e.instance; version = e.version; agenda = c.requires.agenda; level = c.requires.opens.0; opens = c.requires.opens.1; below = c.requires.opens.2; top = c.requires.top } in
    let d : ℕ = c.behind.result in
    let at : d ≡ o.level + 1 = opened_is_next_grade v a o d (sym c.finished.ensures ∙ c.behind.ensures.level) c.behind.ensures.some in
    omega (arith, opened_below v a o, at)

pub new-requires-clause-version : goal.new-requires-clause-version
new-requires-clause-version c =
    let v = c.args.version.now in
    let a = c.args.agenda.now in
    let e = c.moves-before.ensures.version in
    let o : IsOpen v a = record { instance = e.instance; version = e.version; agenda = c.requires.agenda; level = c.requires.opens.0; opens = c.requires.opens.1; below = c.requires.opens.2; top = c.requires.top } in
    let after = c.in_ok-moves.moves in
    let new = c.args.new.items in
    let n : IsStep v a o after new = record {
      instance = ap (λ (l : MoveList). l.instance) c.in_ok-moves.ensures ∙ c.moves-before.ensures.instance;
      moves = ap (λ (l : MoveList). l.moves) c.in_ok-moves.ensures ∙ ap (λ (ms : List Binomial). ms ++ new) c.moves-before.ensures.list;
      next = c.requires.list;
    } in
    let number : suc v.number ≡ c.number.result + 1 = omega (arith, c.number.ensures.number) in
    subst₂ IsVersion (sym n.instance) number (next_is_version v a o after new n)

pub new-requires-clause-small : goal.new-requires-clause-small
new-requires-clause-small c =
    let v = c.args.version.now in
    let a = c.args.agenda.now in
    let e = c.moves-before.ensures.version in
    let o : IsOpen v a = record { instance = e.instance; version = e.version; agenda = c.requires.agenda; level = c.requires.opens.0; opens = c.requires.opens.1; below = c.requires.opens.2; top = c.requires.top } in
    let after = c.in_ok-moves.moves in
    let new = c.args.new.items in
    let n : IsStep v a o after new = record {
      instance = ap (λ (l : MoveList). l.instance) c.in_ok-moves.ensures ∙ c.moves-before.ensures.instance;
      moves = ap (λ (l : MoveList). l.moves) c.in_ok-moves.ensures ∙ ap (λ (ms : List Binomial). ms ++ new) c.moves-before.ensures.list;
      next = c.requires.list;
    } in
    let number : suc v.number ≡ c.number.result + 1 = omega (arith, c.number.ensures.number) in
    let most : suc v.number ≤ GRADE_LIMIT = next_number v a o after new n in
    omega (arith, most, c.number.ensures.number)

pub new-requires-clause-level : goal.new-requires-clause-level
new-requires-clause-level c =
    let v = c.args.version.now in
    let a = c.args.agenda.now in
    let e = c.moves-before.ensures.version in
    let o : IsOpen v a = record { instance = e.instance; version = e.version; agenda = c.requires.agenda; level = c.requires.opens.0; opens = c.requires.opens.1; below = c.requires.opens.2; top = c.requires.top } in
    let d : ℕ = c.behind.result in
    let at : d ≡ o.level + 1 = opened_is_next_grade v a o d (sym c.finished.ensures ∙ c.behind.ensures.level) c.behind.ensures.some in
    let after = c.in_ok-moves.moves in
    let new = c.args.new.items in
    let n : IsStep v a o after new = record {
      instance = ap (λ (l : MoveList). l.instance) c.in_ok-moves.ensures ∙ c.moves-before.ensures.instance;
      moves = ap (λ (l : MoveList). l.moves) c.in_ok-moves.ensures ∙ ap (λ (ms : List Binomial). ms ++ new) c.moves-before.ensures.list;
      next = c.requires.list;
    } in
    let number : suc v.number ≡ c.number.result + 1 = omega (arith, c.number.ensures.number) in
    let ms = version_list v.instance v.number in
    let b = c.take_pairs.new.agenda in
    let closed = c.close.ensures.closed ms (graded_jobs v.instance ms) (o.agenda).jobs (λ g k low. let l : o.level + 1 ≤ g.grade = none_between v a o g k low in omega (arith, l, at)) in
    let from : c.len.result + 1 ≡ length ms + 1 = ap (λ (k : ℕ). k + 1) c.len.ensures.count ∙ ap (λ (l : List Binomial). length l + 1) c.moves-before.ensures.list in
    let has : HasAgenda (edition v.instance (suc v.number)) b =
    agenda_next v a o after new n b (c.len.result + 1) from
    (c.in_ok-take_pairs.ensures.taken (graded_jobs v.instance ms) (agenda_closed v a o after new n c.close.new.self closed))
    (c.take_pairs.ensures.opened ∙ c.close.ensures.opened ∙ at) in
    c.below-finished.ensures ∙ level_from_agenda (edition v.instance (suc v.number)) b (next_is_version v a o after new n) has c.next.result c.next.ensures ∙
    ap₂ level_of (sym n.instance) number

pub returns-clause-agenda : goal.returns-clause-agenda
returns-clause-agenda c =
    let v = c.args.version.now in
    let a = c.args.agenda.now in
    let e = c.moves-before.ensures.version in
    let o : IsOpen v a = record { instance = e.instance; version = e.version; agenda = c.requires.agenda; level = c.requires.opens.0; opens = c.requires.opens.1; below = c.requires.opens.2; top = c.requires.top } in
    let d : ℕ = c.behind.result in
    let at : d ≡ o.level + 1 = opened_is_next_grade v a o d (sym c.finished.ensures ∙ c.behind.ensures.level) c.behind.ensures.some in
    let after = c.in_ok-moves.moves in
    let new = c.args.new.items in
    let n : IsStep v a o after new = record {
      instance = ap (λ (l : MoveList). l.instance) c.in_ok-moves.ensures ∙ c.moves-before.ensures.instance;
      moves = ap (λ (l : MoveList). l.moves) c.in_ok-moves.ensures ∙ ap (λ (ms : List Binomial). ms ++ new) c.moves-before.ensures.list;
      next = c.requires.list;
    } in
    let number : suc v.number ≡ c.number.result + 1 = omega (arith, c.number.ensures.number) in
    let ms = version_list v.instance v.number in
    let b = c.take_pairs.new.agenda in
    let closed = c.close.ensures.closed ms (graded_jobs v.instance ms) (o.agenda).jobs (λ g k low. let l : o.level + 1 ≤ g.grade = none_between v a o g k low in omega (arith, l, at)) in
    let from : c.len.result + 1 ≡ length ms + 1 = ap (λ (k : ℕ). k + 1) c.len.ensures.count ∙ ap (λ (l : List Binomial). length l + 1) c.moves-before.ensures.list in
    let has : HasAgenda (edition v.instance (suc v.number)) b =
    agenda_next v a o after new n b (c.len.result + 1) from
    (c.in_ok-take_pairs.ensures.taken (graded_jobs v.instance ms) (agenda_closed v a o after new n c.close.new.self closed))
    (c.take_pairs.ensures.opened ∙ c.close.ensures.opened ∙ at) in
    let is : c.new.result ≡ edition v.instance (suc v.number) = c.new.ensures ∙ ap₂ edition n.instance (sym number) in
    IfOk-weaker c.shared.result (λ w. arc_value w ≡ c.new.result) (λ w. HasAgenda (arc_value w) b)
    (λ w same. subst (λ (x : Edition). HasAgenda x b) (sym (same ∙ is)) has) c.shared.ensures

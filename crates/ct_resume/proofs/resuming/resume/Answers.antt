use Rattle.std.proofs.Common.{◌≡◌, ◌+◌, ◌<◌, ◌≤◌, ℕ, List, length, None, ap, ap₂, sym, subst, ◌∙◌, arith, suc}
use Rattle.std.specs.Arc.{arc_value}
use Rattle.ct_instance.specs.Instance.{Problem, IsInstance, grade_of}
use Rattle.ct_instance.specs.TestSet.{Binomial}
use Rattle.ct_instance.specs.Jobs.{the_move}
use Rattle.ct_resume.specs.Reduced.{first_unreduced_of}
use Rattle.ct_resume.proofs.Cuts.{found_unreduced, resumed_whole, some_beyond, resumed_cut}
use Rattle.ct_resume.proofs.resuming.resume.Goals as goal

pub returns-in-Some-clause-stopped : goal.returns-in-Some-clause-stopped
returns-in-Some-clause-stopped c =
    let i = arc_value c.args.inst in
    let s : IsInstance i = subst IsInstance c.deref.ensures c.rows-rows.ensures.instance in
    found_unreduced i s c.args.ledger.now c.grade-grade.ensures.ledger c.in_ok-moves.moves c.in_ok-moves.ensures.moves c.in_ok-moves.ensures.none c.in-Some.number (sym c.in-Some.ensures)

pub returns-then-len-limit-clause-resumed : goal.returns-then-len-limit-clause-resumed
returns-then-len-limit-clause-resumed c =
    let i = arc_value c.args.inst in
    let s : IsInstance i = subst IsInstance c.deref.ensures c.rows-rows.ensures.instance in
    let m = c.in_ok-moves.moves in
    let found : first_unreduced_of m.instance m.moves ≡ None = sym c.in_default.ensures in
    let few : length m.moves ≤ c.args.limit = omega (arith, c.if-len-limit.true, c.len.ensures.count) in
    resumed_whole i s c.args.ledger.now c.grade-grade.ensures.ledger m c.in_ok-moves.ensures.moves c.in_ok-moves.ensures.none found c.args.limit c.grade-grade.result c.grade-grade.ensures.grade few

pub overflow_sub-result : goal.overflow_sub-result
overflow_sub-result c =
    let i = arc_value c.args.inst in
    let s : IsInstance i = subst IsInstance c.deref.ensures c.rows-rows.ensures.instance in
    let m = c.in_ok-moves.moves in
    let found : first_unreduced_of m.instance m.moves ≡ None = sym c.in_default.ensures in
    let long : c.args.limit < length m.moves = omega (arith, c.if-len-limit.false, c.len.ensures.count) in
    let at : c.grade-full.result ≡ grade_of i.columns (the_move m.moves (suc c.args.limit)).head =
    c.grade-full.ensures ∙ ap₂ (λ (p : Problem) (h : List ℕ). grade_of p.columns h) c.deref-2.ensures (c.head.ensures ∙ ap (λ (x : Binomial). x.head) (c.get.ensures.at ∙ ap (the_move m.moves) (let e : c.args.limit + 1 ≡ suc c.args.limit = omega arith in e))) in
    some_beyond i s c.args.ledger.now c.grade-grade.ensures.ledger m c.in_ok-moves.ensures.moves c.in_ok-moves.ensures.none found c.args.limit long c.grade-full.result at

pub returns-clause-resumed : goal.returns-clause-resumed
returns-clause-resumed c =
    let i = arc_value c.args.inst in
    let s : IsInstance i = subst IsInstance c.deref.ensures c.rows-rows.ensures.instance in
    let m = c.in_ok-moves.moves in
    let found : first_unreduced_of m.instance m.moves ≡ None = sym c.in_default.ensures in
    let long : c.args.limit < length m.moves = omega (arith, c.if-len-limit.false, c.len.ensures.count) in
    let at : c.grade-full.result ≡ grade_of i.columns (the_move m.moves (suc c.args.limit)).head =
    c.grade-full.ensures ∙ ap₂ (λ (p : Problem) (h : List ℕ). grade_of p.columns h) c.deref-2.ensures (c.head.ensures ∙ ap (λ (x : Binomial). x.head) (c.get.ensures.at ∙ ap (the_move m.moves) (let e : c.args.limit + 1 ≡ suc c.args.limit = omega arith in e))) in
    resumed_cut i s c.args.ledger.now c.grade-grade.ensures.ledger m c.in_ok-moves.ensures.moves c.in_ok-moves.ensures.none found c.args.limit long c.grade-full.result at c.in_ok-moves-2.moves c.in_ok-moves-2.ensures

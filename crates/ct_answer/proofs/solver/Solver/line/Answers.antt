use Rattle.std.proofs.Common.{◌≤◌, ◌≡◌, subst, arith}
use Rattle.ct_solo.specs.Seen.{place_of}
use Rattle.ct_version.specs.Desks.{Place}
use Rattle.ct_answer.specs.Prepared.{IsPrepared}
use Rattle.ct_answer.proofs.Beforehand.{solve_prepared}
use Rattle.ct_vectors.specs.declared.limits.TheConstants.{ROW_LIMIT, GRADE_LIMIT}
use Rattle.ct_vectors.specs.Vectors.{total}
use Rattle.ct_answer.proofs.ToldReports.{right_sum}
use Rattle.ct_answer.proofs.solver.Solver.line.Goals as goal

pub sum-requires : goal.sum-requires
sum-requires c =
    let rows : c.args.self.now.instance.rows ≤ ROW_LIMIT = subst (λ n. n ≤ ROW_LIMIT) c.rows-rows.ensures.rows c.rows-rows.ensures.limit in
    let most : total c.args.b.now ≤ GRADE_LIMIT = right_sum c.args.self.now.instance.rows c.args.b.now rows c.requires.right c.requires.limit in
    omega arith

pub help-requires : goal.help-requires
help-requires c =
    let rows : c.args.self.now.instance.rows ≤ ROW_LIMIT = subst (λ n. n ≤ ROW_LIMIT) c.rows-rows.ensures.rows c.rows-rows.ensures.limit in
    let most : total c.args.b.now ≤ GRADE_LIMIT = right_sum c.args.self.now.instance.rows c.args.b.now rows c.requires.right c.requires.limit in
    omega (arith, c.sum.ensures)

pub returns-in-Some-clause-line : goal.returns-in-Some-clause-line
returns-in-Some-clause-line c =
    let prepared = c.in-Some.ensures.taken (place_of c.self.inside.solo) c.self.invariant in
    let here : place_of c.self.inside.solo ≡ c.args.self.now = c.self.view_is in
    solve_prepared c.args.self.now c.args.walks c.args.b.now c.in-Some.found c.line_of.result
    (subst (λ (p : Place). IsPrepared p (record { right = c.args.b.now; answered = c.in-Some.found })) here prepared) c.line_of.ensures

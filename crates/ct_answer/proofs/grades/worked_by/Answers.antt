use Rattle.std.proofs.Common.{ℕ, ◌≤◌, ◌≡◌, List, sym, ap, subst, ◌∙◌, arith}
use Rattle.ct_vectors.specs.Vectors.{total}
use Rattle.ct_vectors.specs.declared.limits.TheConstants.{ROW_LIMIT, GRADE_LIMIT}
use Rattle.ct_input.specs.declared.script.Request.{Request}
use Rattle.ct_input.specs.Script.{right_of, IsRequest}
use Rattle.ct_answer.proofs.ToldReports.{request_total}
use Rattle.ct_answer.proofs.grades.worked_by.Goals as goal

-- the numbers of a request, as they are read
small : (rows : ℕ) (request : Request) (read b : List ℕ) → rows ≤ ROW_LIMIT → IsRequest rows request → right_of request ≡ b → read ≡ b → total read ≤ GRADE_LIMIT
small rows request read b limit is same reads = subst (λ (x : List ℕ). total x ≤ GRADE_LIMIT) (same ∙ sym reads) (request_total rows request limit is)

pub sum-requires : goal.sum-requires
sum-requires c =
    let most : total c.as_slice.result.now ≤ GRADE_LIMIT = small c.args.rows c.args.request.now c.as_slice.result.now c.in-Solve.b c.requires.rows c.requires.request (ap right_of c.in-Solve.is) c.as_slice.ensures in
    omega arith

pub sum-requires-in-Ask : goal.sum-requires-in-Ask
sum-requires-in-Ask c =
    let most : total c.as_slice-in-Ask.result.now ≤ GRADE_LIMIT = small c.args.rows c.args.request.now c.as_slice-in-Ask.result.now c.in-Ask.b c.requires.rows c.requires.request (ap right_of c.in-Ask.is) c.as_slice-in-Ask.ensures in
    omega arith

pub returns-in-Solve-clause-limit : goal.returns-in-Solve-clause-limit
returns-in-Solve-clause-limit c =
    subst (λ (n : ℕ). n ≤ GRADE_LIMIT) (sym c.sum.ensures)
    (small c.args.rows c.args.request.now c.as_slice.result.now c.in-Solve.b c.requires.rows c.requires.request (ap right_of c.in-Solve.is) c.as_slice.ensures)

pub returns-in-Ask-clause-limit : goal.returns-in-Ask-clause-limit
returns-in-Ask-clause-limit c =
    subst (λ (n : ℕ). n ≤ GRADE_LIMIT) (sym c.sum-in-Ask.ensures)
    (small c.args.rows c.args.request.now c.as_slice-in-Ask.result.now c.in-Ask.b c.requires.rows c.requires.request (ap right_of c.in-Ask.is) c.as_slice-in-Ask.ensures)

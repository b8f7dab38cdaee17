use Rattle.std.proofs.Common.{ℕ, ◌≡◌, ◌+◌, ◌++◌, map, length, flat_map, sym, ap, ◌∙◌, arith}
use Rattle.ct_instance.specs.Jobs.{numbers_after}
use Rattle.ct_jobs.specs.GradedJobs.{with_grade, row_from}
use Rattle.ct_jobs.proofs.Rows.{rows_push, rows_all, rows_none}
use Rattle.ct_jobs.proofs.addition.Addition.prepare.Goals as goal

pub returns-then-from-count : goal.returns-then-from-count
returns-then-from-count c = c.none.ensures ∙ sym (rows_none c.args.inst.now c.args.moves.now.moves c.args.from (omega arith))

pub loop-i-preserved : goal.loop-i-preserved
loop-i-preserved c =
    let i = c.args.inst.now in
    let ms = c.args.moves.now.moves in
    let n : ℕ = length ms in
    c.in_ok-add_row.ensures ∙ ap (λ l. l ++ map (with_grade i ms) (row_from c.args.from (c.loop-i.i + 1) n)) c.loop-i.invariant ∙
    sym (rows_push i ms c.args.from n c.loop-i.i)

pub returns : goal.returns
returns c =
    let i = c.args.inst.now in
    let ms = c.args.moves.now.moves in
    let e : c.loop-i.i ≡ length ms = omega arith in
    c.loop-i.invariant ∙ ap (λ k. map (with_grade i ms) (flat_map (λ a. row_from c.args.from a (length ms)) (numbers_after 0 k))) e ∙
    sym (rows_all i ms c.args.from)

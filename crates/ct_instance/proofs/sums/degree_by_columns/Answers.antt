use Rattle.std.proofs.Common.{◌≡◌, ◌+◌, ◌-◌, ◌≤◌, ◌<◌, ℕ, [], length, drop, get_or, arith, sym, ap, ◌∙◌}
use Rattle.std.proofs.lemmas.List.{get_or_read}
use Rattle.ct_vectors.specs.Vectors.{add, scale, total}
use Rattle.ct_instance.specs.Instance.{degree_of, grade_of}
use Rattle.ct_instance.proofs.Grades.{degree_more, grade-drop}
use Rattle.ct_instance.proofs.sums.degree_by_columns.Goals as goal

pub add_multiple-requires-clause-fits : goal.add_multiple-requires-clause-fits
add_multiple-requires-clause-fits c =
    let k : ℕ = c.loop-j.j - 1 in
    let next : k + 1 ≡ c.loop-j.j = omega arith in
    let in-cs : k < length c.args.columns.now = omega arith in
    let in-p : k < length c.args.p.now = omega arith in
    let column : c.as_slice.result.now ≡ get_or c.args.columns.now k [] = c.as_slice.ensures.coordinates ∙ get_or_read c.args.columns.now k c.index-columns-j.result in-cs c.index-columns-j.is [] in
    let more : degree_of (drop k c.args.columns.now) (drop k c.args.p.now) ≡
    add (scale (get_or c.args.p.now k 0) (get_or c.args.columns.now k [])) (degree_of (drop (k + 1) c.args.columns.now) (drop (k + 1) c.args.p.now)) =
    degree_more c.args.columns.now c.args.p.now k in-cs in-p in
    let rest : degree_of (drop (k + 1) c.args.columns.now) (drop (k + 1) c.args.p.now) ≡ c.loop-j.degree =
    ap (λ i. degree_of (drop i c.args.columns.now) (drop i c.args.p.now)) next ∙ sym c.loop-j.invariant in
    let limit : grade_of (drop k c.args.columns.now) (drop k c.args.p.now) ≤ grade_of c.args.columns.now c.args.p.now = grade-drop c.args.columns.now c.args.p.now k in
    let whole : total (add (scale (get_or c.args.p.now k 0) c.as_slice.result.now) c.loop-j.degree) ≡ grade_of (drop k c.args.columns.now) (drop k c.args.p.now) =
    ap (λ d. total (add (scale (get_or c.args.p.now k 0) c.as_slice.result.now) d)) (sym rest) ∙
    ap (λ col. total (add (scale (get_or c.args.p.now k 0) col) (degree_of (drop (k + 1) c.args.columns.now) (drop (k + 1) c.args.p.now)))) column ∙
    ap total (sym more) in
    omega arith

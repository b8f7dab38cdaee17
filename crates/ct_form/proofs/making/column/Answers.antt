use Rattle.std.proofs.Common.{◌≡◌, ℕ, List, ◌+◌, ◌*◌, [], ◌∷◌, ◌++◌, length, take, get_or, arith, sym, ap, ◌∙◌}
use Rattle.std.proofs.lemmas.List.{take_more, take_all}
use Rattle.ct_instance.specs.Made.{column_of}
use Rattle.ct_instance.proofs.Entries.{length-column_of, get_or-column_of}
use Rattle.ct_form.proofs.making.column.Goals as goal

pub loop-r-preserved : goal.loop-r-preserved
loop-r-preserved c =
    let r : ℕ = c.loop-r.r in
    let whole : List ℕ = column_of c.args.rows c.args.columns c.args.j c.args.entries.now in
    let value : ℕ = get_or c.args.entries.now (r * c.args.columns + c.args.j) 0 in
    let len : length whole ≡ c.args.rows = length-column_of c.args.rows c.args.columns c.args.j c.args.entries.now in
    let same : get_or whole r 0 ≡ value = get_or-column_of c.args.rows c.args.columns c.args.j c.args.entries.now r (omega arith) in
    c.in_ok-push.ensures.items ∙ ap (λ l. l ++ value ∷ []) c.loop-r.invariant ∙ ap (λ x. take r whole ++ x ∷ []) (sym same) ∙
    sym (take_more whole r 0 (omega arith))

pub returns : goal.returns
returns c =
    let whole : List ℕ = column_of c.args.rows c.args.columns c.args.j c.args.entries.now in
    let len : length whole ≡ c.args.rows = length-column_of c.args.rows c.args.columns c.args.j c.args.entries.now in
    c.loop-r.invariant ∙ take_all c.loop-r.r whole (omega arith)

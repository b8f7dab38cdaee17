use Rattle.std.proofs.Common.{◌≡◌, ◌+◌, ◌-◌, append-nil, ap, ap₂, ◌∙◌, set, arith}
use Rattle.ct_vectors.specs.Vectors.{zeros}
use Rattle.ct_instance.specs.Instance.{column_count}
use Rattle.ct_instance.proofs.Entries.{set-zeros}
use Rattle.ct_jobs.proofs.critical.unit_into.Goals as goal

pub returns : goal.returns
returns c =
    let i = c.args.inst.now in
    let zero : c.copy_from_parts.new.self ≡ zeros (column_count i + i.rows) =
    c.copy_from_parts.ensures ∙ append-nil (zeros (c.columns.result + c.rows.result)) ∙ ap₂ (λ n m. zeros (n + m)) c.columns.ensures.columns c.rows.ensures.rows in
    c.set.ensures ∙ ap (λ p. set p (c.args.j - 1) 1) zero ∙ set-zeros (column_count i) i.rows (c.args.j - 1) (omega arith)

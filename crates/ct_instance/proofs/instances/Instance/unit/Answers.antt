use Rattle.std.proofs.Common.{◌≡◌, ◌+◌, ◌-◌, length, arith, rules, ap, ◌∙◌, set}
use Rattle.ct_vectors.specs.Vectors.{zeros}
use Rattle.ct_instance.specs.Instance.{column_count, unit_of}
use Rattle.ct_instance.proofs.Entries.{set-zeros}
use Rattle.ct_instance.proofs.instances.Instance.unit.Goals as goal

pub returns : goal.returns
returns c =
    let len : c.len.result ≡ length c.self.inside.columns.items = search rules in
    let point : c.in_ok-p.p ≡ zeros (length c.self.inside.columns.items + c.self.inside.rows) =
    c.in_ok-p.ensures ∙ ap (λ n. zeros (n + c.self.inside.rows)) len in
    let count : length c.self.inside.columns.items ≡ column_count c.args.self.now = ap column_count c.self.view_is in
    c.set.ensures ∙ ap (λ p. set p (c.args.j - 1) 1) point ∙
    set-zeros (length c.self.inside.columns.items) c.self.inside.rows (c.args.j - 1) (omega arith) ∙ ap (λ v. unit_of v (c.args.j - 1)) c.self.view_is

use Rattle.std.proofs.lemmas.Result.{IfOk-weaker}
use Rattle.std.proofs.Common.{List, ℕ, length, ◌≤◌}
use Rattle.serde_json.specs.View.{view}
use Rattle.ct_vectors.specs.declared.limits.TheConstants.{COLUMN_LIMIT, ENTRY_LIMIT}
use Rattle.ct_json.specs.Shapes.{naturals}
use Rattle.ct_json.proofs.Counts.{AreItems, row_says, says_read}
use Rattle.ct_json.proofs.instance_shape.first_row.Goals as goal

pub returns-clause-few : goal.returns-clause-few
returns-clause-few c =
    says_read (λ (row : List ℕ). row) (λ (row : List ℕ). length row ≤ COLUMN_LIMIT) c.row_in.result ((naturals 1 COLUMN_LIMIT ENTRY_LIMIT).reads 0 c.args.here.now (view c.args.value.now))
    (IfOk-weaker ((naturals 1 COLUMN_LIMIT ENTRY_LIMIT).reads 0 c.args.here.now (view c.args.value.now)) (AreItems (λ a. a ≤ ENTRY_LIMIT) 1 COLUMN_LIMIT) (λ (row : List ℕ). length row ≤ COLUMN_LIMIT) (λ row are. are.few) (row_says 1 COLUMN_LIMIT 0 c.args.here.now (view c.args.value.now)))
    c.row_in.ensures

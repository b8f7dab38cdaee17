use Rattle.std.proofs.Common.{Vec, Global, List, ℕ}
use Rattle.serde_json.specs.View.{view}
use Rattle.ct_json.specs.InstanceShape.{IsMatrix, matrix_at}
use Rattle.ct_json.proofs.Counts.{matrix_says, says_read}
use Rattle.ct_json.proofs.instance_shape.matrix.Goals as goal

pub returns-clause-matrix : goal.returns-clause-matrix
returns-clause-matrix c =
    says_read (λ (rows : Vec (List ℕ) Global). rows.items) IsMatrix c.matrix_in.result (matrix_at c.args.here.now (view c.args.value.now)) (matrix_says c.args.here.now (view c.args.value.now)) c.matrix_in.ensures

use Rattle.std.proofs.Common.{List, ℕ, ◌++◌, map, ap}
use Rattle.ct_vectors.specs.Vectors.{zeros}
use Rattle.ct_form.proofs.Made.{slacks_are}
use Rattle.ct_form.proofs.making.push_row_slacks.Goals as goal

pub loop-i-init : goal.loop-i-init
loop-i-init c = ap (λ (cs : List (List ℕ)). c.args.made.now.items ++ map (λ c'. c' ++ zeros c.args.bound_count) cs) (slacks_are c.args.relations.now)

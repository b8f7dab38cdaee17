use Rattle.std.proofs.Common.{◌+◌, ◌-◌, ◌≤◌, drop}
use Rattle.std.proofs.lemmas.List.Elements.{All-take, All-drop}
use Rattle.ct_vectors.specs.declared.limits.TheConstants.{JOB_GRADE_LIMIT}
use Rattle.ct_order_bench.specs.declared.TheConstants.{WIDTH}
use Rattle.ct_order_bench.proofs.ties.Goals as goal

pub compare-requires-clause-p_limit : goal.compare-requires-clause-p_limit
compare-requires-clause-p_limit c = All-take (λ x. x ≤ JOB_GRADE_LIMIT) WIDTH c.args.numbers.now c.requires.limit

pub compare-requires-clause-q_limit : goal.compare-requires-clause-q_limit
compare-requires-clause-q_limit c =
    All-take (λ x. x ≤ JOB_GRADE_LIMIT) (c.loop-i.i + WIDTH - c.loop-i.i) (drop c.loop-i.i c.args.numbers.now) (All-drop (λ x. x ≤ JOB_GRADE_LIMIT) c.loop-i.i c.args.numbers.now c.requires.limit)

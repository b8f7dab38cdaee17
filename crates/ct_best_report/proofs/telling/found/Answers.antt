use Rattle.std.proofs.Common.{get_or}
use Rattle.ct_best_report.proofs.Paired.{solution_small}
use Rattle.ct_best_report.proofs.telling.found.Goals as goal

pub with_costs-requires-clause-limit : goal.with_costs-requires-clause-limit
with_costs-requires-clause-limit c k d l =
    solution_small c.args.version.now.instance c.moves.ensures.version.instance c.args.b.now (get_or c.in-Ok.list k d) c.requires.asked (c.in-Ok.ensures.best.solutions k d l)

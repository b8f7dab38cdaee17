use Rattle.std.proofs.Common.{All, sym, subst}
use Rattle.ct_host.specs.Hosts.{IsOfHost}
use Rattle.ct_host.proofs.Dealing.{opened_own}
use Rattle.ct_host_bench.proofs.workers.by_workers.Goals as goal

pub beside-requires-clause-own : goal.beside-requires-clause-own
beside-requires-clause-own g c κs within =
    subst (All (IsOfHost c.in_ok-host.host)) (sym c.in_ok-host.ensures.passes) (opened_own c.in_ok-host.host c.args.workers)

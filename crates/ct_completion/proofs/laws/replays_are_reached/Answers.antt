use Rattle.ct_completion.proofs.Replay.{replay_reached, serials_grow}
use Rattle.ct_completion.proofs.laws.replays_are_reached.Goals as goal

pub returns-clause-reached : goal.returns-clause-reached
returns-clause-reached c = replay_reached

pub returns-clause-serials : goal.returns-clause-serials
returns-clause-serials c = serials_grow

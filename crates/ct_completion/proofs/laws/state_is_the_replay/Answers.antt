use Rattle.ct_completion.proofs.Replay.{run_number, state_is_replay, run_grows, replay_is_one}
use Rattle.ct_completion.proofs.laws.state_is_the_replay.Goals as goal

pub returns-clause-number : goal.returns-clause-number
returns-clause-number c = run_number

pub returns-clause-state : goal.returns-clause-state
returns-clause-state c = state_is_replay

pub returns-clause-journal : goal.returns-clause-journal
returns-clause-journal c = run_grows

pub returns-clause-one : goal.returns-clause-one
returns-clause-one c = replay_is_one

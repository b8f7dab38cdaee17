use Rattle.ct_completion.proofs.Remainders.{remainders_give_moves, version_remainders, next_list_is}
use Rattle.ct_completion.proofs.laws.remainders_give_the_new_moves.Goals as goal

pub returns-clause-test_list : goal.returns-clause-test_list
returns-clause-test_list c = remainders_give_moves

pub returns-clause-version : goal.returns-clause-version
returns-clause-version c = version_remainders

pub returns-clause-next : goal.returns-clause-next
returns-clause-next c = next_list_is

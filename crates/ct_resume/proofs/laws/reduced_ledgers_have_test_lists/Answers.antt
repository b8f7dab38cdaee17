use Rattle.ct_resume.proofs.TestLists.{test_list_is_reduced, reduced_is_test_list}
use Rattle.ct_resume.proofs.Ledgers.{accepted_is_test_list, certified_is_reduced, entries_count}
use Rattle.ct_resume.proofs.laws.reduced_ledgers_have_test_lists.Goals as goal

pub returns-clause-moves : goal.returns-clause-moves
returns-clause-moves c = λ i s g ms moves low decide. (test_list_is_reduced i g ms, reduced_is_test_list i s g ms moves low decide)

pub returns-clause-ledger : goal.returns-clause-ledger
returns-clause-ledger c = accepted_is_test_list

pub returns-clause-certified : goal.returns-clause-certified
returns-clause-certified c = certified_is_reduced

pub returns-clause-count : goal.returns-clause-count
returns-clause-count c = entries_count

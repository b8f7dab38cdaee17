use Rattle.ct_order.proofs.Order.{below-irrefl, below-trans, order_ranks}
use Rattle.ct_order.proofs.laws.order_is_total.Goals as goal

pub returns-clause-irreflexive : goal.returns-clause-irreflexive
returns-clause-irreflexive c = below-irrefl

pub returns-clause-transitive : goal.returns-clause-transitive
returns-clause-transitive c = below-trans

pub returns-clause-total : goal.returns-clause-total
returns-clause-total c = order_ranks

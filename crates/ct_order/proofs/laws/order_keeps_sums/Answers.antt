use Rattle.ct_order.proofs.Order.{order-add}
use Rattle.ct_order.proofs.laws.order_keeps_sums.Goals as goal

pub returns : goal.returns
returns c = order-add

use Rattle.plterm.proofs.Orders.{order-along}
use Rattle.plterm.proofs.order.order_is_transitive.Goals as goal

pub returns : goal.returns
returns c = order-along

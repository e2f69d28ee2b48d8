use Rattle.plterm.proofs.Orders.{order-turned}
use Rattle.plterm.proofs.order.order_turns.Goals as goal

pub returns : goal.returns
returns c = order-turned

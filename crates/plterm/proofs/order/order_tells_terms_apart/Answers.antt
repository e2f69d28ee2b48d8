use Rattle.std.proofs.Common.{◌∙◌, sym, ap}
use Rattle.plterm.specs.Order.{order}
use Rattle.plterm.proofs.Orders.{order-same, order-exact}
use Rattle.plterm.proofs.order.order_tells_terms_apart.Goals as goal

pub returns : goal.returns
returns c = λ a b. (order-exact a b, λ e. ap (order a) (sym e) ∙ order-same a)

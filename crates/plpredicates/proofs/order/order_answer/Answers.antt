use Rattle.plpredicates.proofs.order.order_answer.Goals as goal

pub returns-in_ok-order-in-Holds-len2-clause-there :
    goal.returns-in_ok-order-in-Holds-len2-clause-there
returns-in_ok-order-in-Holds-len2-clause-there c = c.decided.ensures.there c.args.heap.now

pub returns-in_ok-is_ground-in-Ground-len1-clause-there :
    goal.returns-in_ok-is_ground-in-Ground-len1-clause-there
returns-in_ok-is_ground-in-Ground-len1-clause-there c = c.decided-in-Ground-len1.ensures.there c.args.heap.now

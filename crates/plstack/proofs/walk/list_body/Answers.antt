use Rattle.plstack.proofs.Linking.{lists-goal, lists-none}
use Rattle.plstack.proofs.walk.list_body.Goals as goal

pub returns-in_default-clause-ok : goal.returns-in_default-clause-ok
returns-in_default-clause-ok c = rw c.in_default.is (lists-none c.args.links.now.items c.args.call.now.level c.args.call.now.rest)

pub returns-clause-ok : goal.returns-clause-ok
returns-clause-ok c = rw c.in-Some.is (lists-goal c.args.links.now.items c.link_before.new.links.items c.args.call.now.level c.in-Some.body c.args.call.now.rest c.in_ok-list.list c.in_ok-list.ensures.ok)

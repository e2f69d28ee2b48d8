use Rattle.plstack.proofs.Linking.{links-item}
use Rattle.plstack.proofs.list.link_before.Goals as goal

pub returns-in-Ok-clause-ok : goal.returns-in-Ok-clause-ok
returns-in-Ok-clause-ok c =
    rw c.alone.ensures (links-item c.args.links.now.items c.number_of.new.links.items c.push_link.new.links.items c.args.item c.args.rest c.in_ok-behind.behind c.in-Ok.number c.in_ok-behind.ensures.ok c.in-Ok.ensures.ok c.in-Ok.ensures.number)

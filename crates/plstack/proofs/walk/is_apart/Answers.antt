use Rattle.plstack.proofs.walk.is_apart.Goals as goal

pub returns-in-Call : goal.returns-in-Call
returns-in-Call c h = rw c.in-Call.is (c.misses_head.ensures h)

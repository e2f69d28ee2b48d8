use Rattle.std.proofs.Common.{ap, ◌∙◌}
use Rattle.plsearch.specs.Search.{once}
use Rattle.plsolver.proofs.Starts.{starts-goal}
use Rattle.plstack.proofs.Growing.{if_ok}
use Rattle.plsolver.proofs.start.start_goal.Goals as goal

pub returns-clause-starts : goal.returns-clause-starts
returns-clause-starts c =
    if_ok _ _ c.link.result (λ made adds. starts-goal c.args.stack.now c.put_copy.new.self c.link.new.self c.args.list made c.in_ok-v.v c.args.goal.now c.in_ok-once.once c.put_copy.ensures.stays c.in_ok-v.ensures.is
    (c.in_ok-once.ensures ∙ ap once c.in_ok-copy.ensures) c.in_ok-v.ensures.count c.requires adds) c.link.ensures.ok

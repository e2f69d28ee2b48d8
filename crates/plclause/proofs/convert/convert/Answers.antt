use Rattle.std.proofs.Common.{◌∙◌, Some, ap}
use Rattle.plclause.proofs.GoalNodes.{whole_goal}
use Rattle.plclause.proofs.convert.convert.Goals as goal

pub from_prefix-requires : goal.from_prefix-requires
from_prefix-requires c =
    (whole_goal c.goals.nodes.items c.args.term.now c.goals.goals c.in_default.ensures.0 c.goals.invariant.same c.goals.invariant.fits).term

pub returns : goal.returns
returns c =
    ap (λ t. Some t) c.from_prefix.ensures
    ∙ (whole_goal c.goals.nodes.items c.args.term.now c.goals.goals c.in_default.ensures.0 c.goals.invariant.same c.goals.invariant.fits).goal

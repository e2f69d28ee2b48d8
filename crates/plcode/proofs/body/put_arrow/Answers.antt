use Rattle.std.proofs.Common.{List, reverse, subst}
use Rattle.plterm.specs.Tree.{Tree}
use Rattle.plcode.specs.Steps.{text}
use Rattle.plcode.specs.Bodies.{Made}
use Rattle.plcode.proofs.Segments.{arrow_put}
use Rattle.plcode.proofs.body.put_arrow.Goals as goal

pub returns-clause-goal : goal.returns-clause-goal
returns-clause-goal c g rest gs holds h =
    let e = c.in_ok-condition.ensures in
    let d = text c.put_branches.new.code in
    let ps = reverse c.put_branches.new.parts.items in
    let zs = reverse c.put_branches.new.made.items in
    let P : List Tree → Type 0 = Made (text c.args.code.now) (reverse c.args.parts.now.items) (reverse c.args.made.now.items) in
    let branches = e.branches holds.first holds.second rest (subst P holds.next h) in
    rw (c.in_ok-push_part.ensures.parts, c.in_ok-push_part.ensures.made)
    (arrow_put d c.in_ok-condition.condition c.in_ok-condition.then g holds.first holds.second rest ps zs e.code holds.is branches)

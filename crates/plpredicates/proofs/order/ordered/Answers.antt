use Rattle.std.proofs.Common.{◌≡◌, ap, rules}
use Rattle.plterm.specs.Tree.{atom}
use Rattle.plcells.specs.Store.{value}
use Rattle.plbuiltin.specs.Solution.{unifies}
use Rattle.planswers.proofs.Forwarding.{forwarded}
use Rattle.plterm.specs.Order.{order}
use Rattle.plbuiltin.specs.Order.{sign}
use Rattle.plpredicates.proofs.order.ordered.Goals as goal

pub returns-clause-is : goal.returns-clause-is
returns-clause-is c =
    let h = c.args.heap.now in
    let o = value h c.args.o in
    let t = atom (sign (order (value h c.args.a) (value h c.args.b))) in
    let same : c.in_ok-atom.field-0 ≡ t = search rules in
    forwarded c.is_term.result h (λ s n. unifies o c.in_ok-atom.field-0 s) (λ s n. unifies o t s) (c.is_term.ensures.is h) (λ s n. ap (λ u. unifies o u s) same)

pub returns-clause-there : goal.returns-clause-there
returns-clause-there c = c.is_term.ensures.there c.args.heap.now c.requires.order

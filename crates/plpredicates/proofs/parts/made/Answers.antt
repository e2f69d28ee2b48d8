use Rattle.std.proofs.Common.{◌≡◌, ◌<◌, [], ◌∷◌, sym, ap, ap₂, ◌∙◌, arith, rules, subst}
use Rattle.plterm.specs.Tree.{atom}
use Rattle.plterm.specs.Variables.{AllBelow}
use Rattle.plcells.specs.Equations.{filled}
use Rattle.plcells.specs.Store.{value}
use Rattle.plsubst.specs.Subst.{bind}
use Rattle.plbuiltin.specs.Solution.{Gives}
use Rattle.planswers.proofs.Forwarding.{forwarded}
use Rattle.plbuiltin.specs.Parts.{made}
use Rattle.planswers.specs.Building.{solved_by, width}
use Rattle.planswers.proofs.Filling.{below-variables, bind-new}
use Rattle.plpredicates.proofs.Structures.{made-some}
use Rattle.plpredicates.proofs.parts.made.Goals as goal

pub solves-requires : goal.solves-requires
solves-requires c =
    let m = width [] c.from.result in
    record { below = subst (AllBelow m) (sym c.in_ok-right.ensures) (below-variables m 1 c.args.count (omega (arith, c.from.ensures))) }

pub returns-clause-is : goal.returns-clause-is
returns-clause-is c =
    let h = c.args.heap.now in
    let t = value h c.args.term in
    let f = c.in_ok-functor.functor in
    let k = c.args.count in
    let some : 0 < k = omega (arith, c.if-count-eq0.false) in
    let named : value h c.args.name ≡ atom f = search rules in
    forwarded c.solves.result h (λ s n. solved_by h s n c.args.term [] c.in_ok-right.right c.from.result) (λ s n. made t (value h c.args.name) k s n) (c.solves.ensures.is h)
    (λ s n.
    ap₂ (λ u m. Gives (record { left = t; right = bind (filled h (c.args.term ∷ []) n) u; new = m } ∷ []) [] s) c.in_ok-right.ensures c.from.ensures
    ∙ ap (λ u. Gives (record { left = t; right = u; new = k } ∷ []) [] s) (bind-new h c.args.term n f k)
    ∙ sym (ap (λ w. made t w k s n) named ∙ made-some t f k s n some))

pub returns-clause-there : goal.returns-clause-there
returns-clause-there c = c.solves.ensures.there c.args.heap.now c.requires.term tt

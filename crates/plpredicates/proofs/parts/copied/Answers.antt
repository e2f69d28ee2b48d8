use Rattle.std.proofs.Common.{◌≡◌, ◌+◌, [], ◌∷◌, length, sym, ap, ap₂, ◌∙◌, arith, rules, subst}
use Rattle.plterm.specs.Variables.{AllBelow, variables, copied}
use Rattle.plcells.specs.Equations.{filled}
use Rattle.plcells.specs.Store.{value}
use Rattle.plsubst.specs.Subst.{bind}
use Rattle.plbuiltin.specs.Solution.{Gives}
use Rattle.planswers.proofs.Forwarding.{forwarded}
use Rattle.plterm.proofs.Belows.{AllBelow-copied}
use Rattle.plbuiltin.specs.Parts.{copy}
use Rattle.planswers.specs.Building.{solved_by, width}
use Rattle.planswers.proofs.Filling.{bind-copied}
use Rattle.plpredicates.proofs.parts.copied.Goals as goal

pub solves-requires : goal.solves-requires
solves-requires c =
    let t = c.in_ok-taken.taken in
    let many : c.in-Ok.new ≡ length (variables t) = search rules in
    let m : 1 + length (variables t) ≡ width [] c.in-Ok.new = omega (arith, many) in
    record { below = subst (λ k. AllBelow k c.in_ok-right.right) m (subst (AllBelow (1 + length (variables t))) (sym c.in_ok-right.ensures) (AllBelow-copied 1 t)) }

pub returns-clause-is : goal.returns-clause-is
returns-clause-is c =
    let h = c.args.heap.now in
    let t = c.in_ok-taken.taken in
    let v = c.args.copy in
    let many : c.in-Ok.new ≡ length (variables t) = search rules in
    let same : t ≡ value h c.args.term = search rules in
    let right : c.in_ok-right.right ≡ copied 1 t = search rules in
    forwarded c.solves.result h (λ s n. solved_by h s n v [] c.in_ok-right.right c.in-Ok.new) (λ s n. copy (value h c.args.term) (value h v) s n) (c.solves.ensures.is h)
    (λ s n.
    ap₂ (λ u m. Gives (record { left = value h v; right = bind (filled h (v ∷ []) n) u; new = m } ∷ []) [] s) right many
    ∙ ap (λ u. Gives (record { left = value h v; right = u; new = length (variables t) } ∷ []) [] s) (bind-copied h v n t)
    ∙ ap (λ w. copy w (value h v) s n) same)

pub returns-clause-there : goal.returns-clause-there
returns-clause-there c = c.solves.ensures.there c.args.heap.now c.requires.copy tt

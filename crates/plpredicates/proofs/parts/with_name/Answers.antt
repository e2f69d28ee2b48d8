use Rattle.std.proofs.Common.{◌≡◌, true, nat_le, ◌∷◌, length, map, refl, sym, ap, ◌∙◌, arith, rules, subst}
use Rattle.std.specs.Prelude.{codes, if◌then◌else◌}
use Rattle.plterm.specs.Tree.{compound, trees}
use Rattle.plterm.specs.Variables.{AllBelow}
use Rattle.plcells.specs.Equations.{filled}
use Rattle.plcells.specs.Store.{value}
use Rattle.plsubst.specs.Subst.{bind}
use Rattle.plbuiltin.specs.Solution.{unifies}
use Rattle.planswers.proofs.Forwarding.{forwarded}
use Rattle.std.proofs.lemmas.List.{length-map}
use Rattle.platoms.specs.Names.{atom_at}
use Rattle.plerror.specs.Errors.{representation_error}
use Rattle.plbuiltin.specs.Solution.{Raises}
use Rattle.plbuiltin.specs.Parts.{with_name}
use Rattle.planswers.specs.Building.{solved_by, width}
use Rattle.planswers.proofs.Filling.{below-variables, bind-arguments, solved-as}
use Rattle.plpredicates.proofs.parts.with_name.Goals as goal

pub solves-requires : goal.solves-requires
solves-requires c =
    let m = width c.args.arguments.now 0 in
    record { below = subst (AllBelow m) (sym c.in_ok-right.ensures) (below-variables m 1 (length c.args.arguments.now) (omega arith)) }

pub returns-clause-is : goal.returns-clause-is
returns-clause-is c =
    let h = c.args.heap.now in
    let t = value h c.args.term in
    let f = atom_at h.names c.args.name in
    let vs = c.args.arguments.now in
    let ts = map (value h) vs in
    let named : c.in_ok-functor.functor ≡ f = search rules in
    let few : nat_le (length ts) 1024 ≡ true = grind (arith, length-map vs (value h), c.if-arguments-gt-ARITY.false) in
    forwarded c.solves.result h (λ s n. solved_by h s n c.args.term vs c.in_ok-right.right 0) (λ s n. with_name t f ts s) (c.solves.ensures.is h)
    (λ s n.
    solved-as h s n c.args.term vs c.in_ok-right.right (compound f (trees ts)) 0
    (ap (bind (filled h (c.args.term ∷ vs) n)) c.in_ok-right.ensures ∙ bind-arguments h c.args.term vs n c.in_ok-functor.functor (length vs) refl ∙ ap (λ g. compound g (trees ts)) named)
    ∙ sym (ap (λ b. if b then unifies t (compound f (trees ts)) s else Raises (representation_error (codes "max_arity"))) few))

pub returns-clause-there : goal.returns-clause-there
returns-clause-there c = c.solves.ensures.there c.args.heap.now c.requires.term c.requires.arguments

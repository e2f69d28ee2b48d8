use Rattle.std.proofs.Common.{◌≡◌, sym, ap, rules, subst}
use Rattle.plterm.specs.Variables.{AllBelow}
use Rattle.plcells.specs.Store.{value}
use Rattle.plbuiltin.specs.Solution.{unifies}
use Rattle.planswers.proofs.Forwarding.{forwarded}
use Rattle.plbuiltin.specs.Texts.{spelled, number_text}
use Rattle.planswers.proofs.Filling.{below-spelled}
use Rattle.pltexts.proofs.atoms.is_number_spelled.Goals as goal

pub is_term-requires : goal.is_term-requires
is_term-requires c = subst (AllBelow 0) (sym c.in_ok-term.ensures) (below-spelled c.args.k c.format.result.now)

pub returns-clause-is : goal.returns-clause-is
returns-clause-is c = λ h.
    let v = value h c.args.list in
    let t = spelled c.args.k (number_text c.args.number) in
    let same : c.in_ok-term.term ≡ t = search rules in
    forwarded c.is_term.result h (λ s n. unifies v c.in_ok-term.term s) (λ s n. unifies v t s) (c.is_term.ensures.is h) (λ s n. ap (λ u. unifies v u s) same)

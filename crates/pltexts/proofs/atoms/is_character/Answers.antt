use Rattle.std.proofs.Common.{◌≡◌, ap, rules}
use Rattle.plcells.specs.Store.{value}
use Rattle.plbuiltin.specs.Solution.{unifies}
use Rattle.planswers.proofs.Forwarding.{forwarded}
use Rattle.plread.specs.Texts.{char_tree}
use Rattle.pltexts.proofs.atoms.is_character.Goals as goal

pub returns-clause-is : goal.returns-clause-is
returns-clause-is c = λ h.
    let v = value h c.args.v in
    let same : c.in_ok-term.term ≡ char_tree c.args.c = search rules in
    forwarded c.is_term.result h (λ s n. unifies v c.in_ok-term.term s) (λ s n. unifies v (char_tree c.args.c) s) (c.is_term.ensures.is h) (λ s n. ap (λ u. unifies v u s) same)

use Rattle.std.proofs.Common.{◌≡◌, Ok, sym, ap, ◌∙◌, rules}
use Rattle.plcells.specs.Store.{value}
use Rattle.plbuiltin.specs.Solution.{unifies}
use Rattle.planswers.proofs.Forwarding.{forwarded}
use Rattle.plbuiltin.specs.Atoms.{is_found}
use Rattle.plbuiltin.specs.Texts.{atom_of}
use Rattle.pltexts.proofs.atoms.is_atom.Goals as goal

pub returns-in-Ok-clause-is : goal.returns-in-Ok-clause-is
returns-in-Ok-clause-is c = λ h.
    let v = value h c.args.v in
    let text = c.args.text.now in
    let found : Ok c.in-Ok.term ≡ atom_of text = search rules in
    forwarded c.is_term.result h (λ s n. unifies v c.in-Ok.term s) (λ s n. is_found v (atom_of text) s) (c.is_term.ensures.is h) (λ s n. ap (λ r. is_found v r s) found)

pub returns-in-Ok-clause-there : goal.returns-in-Ok-clause-there
returns-in-Ok-clause-there c = c.is_term.ensures.there

pub returns-in-Err-clause-is : goal.returns-in-Err-clause-is
returns-in-Err-clause-is c = λ h s n. ap (λ r. is_found (value h c.args.v) r s) (sym c.in-Err.is ∙ c.in_ok-term.ensures)

use Rattle.std.proofs.Common.{◌≡◌, Some, None, w64, to_z, of_z, ap, ◌∙◌, rules}
use Rattle.plterm.specs.Tree.{int}
use Rattle.plcells.specs.Store.{value}
use Rattle.plnumber.specs.Numbers.{number_of}
use Rattle.plbuiltin.specs.Atoms.{is_number}
use Rattle.plbuiltin.specs.Solution.{Raises, unifies}
use Rattle.pltexts.proofs.atoms.is_number.Goals as goal

pub returns-in-Some-clause-is : goal.returns-in-Some-clause-is
returns-in-Some-clause-is c = λ h s n.
    let v = value h c.args.v in
    let i = c.in-Some.i in
    let given : to_z w64 (of_z w64 i) ≡ i = search rules in
    let found : Some i ≡ number_of c.args.text.now = c.in-Some.ensures ∙ ap number_of c.as_bytes.ensures.value in
    ap (λ j. unifies v (int j) s) given ∙ ap (λ r. is_number v r s) found

pub returns-in_ok-syntax_error-in-None-clause-is : goal.returns-in_ok-syntax_error-in-None-clause-is
returns-in_ok-syntax_error-in-None-clause-is c = λ h s n.
    let none : None ≡ number_of c.args.text.now = c.in-None.ensures ∙ ap number_of c.as_bytes.ensures.value in
    ap Raises c.in_ok-syntax_error-in-None.ensures ∙ ap (λ r. is_number (value h c.args.v) r s) none

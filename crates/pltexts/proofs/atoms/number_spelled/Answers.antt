use Rattle.std.proofs.Common.{◌≡◌, Ok, Err, sym, ap, ap₂, ◌∙◌, rules}
use Rattle.std.proofs.Common.{w64, to_z, of_z}
use Rattle.plterm.specs.Tree.{int}
use Rattle.plcells.specs.Store.{value}
use Rattle.plbuiltin.specs.Solution.{unifies}
use Rattle.planswers.proofs.Forwarding.{forwarded}
use Rattle.plnumber.specs.Numbers.{number_of}
use Rattle.plbuiltin.specs.Atoms.{is_number, number_spelled}
use Rattle.plbuiltin.specs.Texts.{number_text, spelled, text_in}
use Rattle.pltexts.proofs.Numerals.{number_spelled-text}
use Rattle.pltexts.proofs.atoms.number_spelled.Goals as goal

pub returns-in-Ok-default-clause-is : goal.returns-in-Ok-default-clause-is
returns-in-Ok-default-clause-is c =
    let h = c.args.heap.now in
    let t = value h c.args.number in
    let l = value h c.args.list.now in
    let k = c.args.k in
    let text = c.as_str.result.now in
    let found : text_in k l ≡ Ok text = search rules in
    forwarded c.is_number.result h (λ s n. is_number t (number_of text) s) (λ s n. number_spelled k t l (text_in k l) s) (c.is_number.ensures.is h)
    (λ s n. sym (ap (λ r. number_spelled k t l r s) found ∙ number_spelled-text h k t l text s c.shape_of-shape.result c.shape_of-shape.ensures c.in_default.not-Atom c.in_default.not-Compound))

pub returns-in-Ok-default-clause-there : goal.returns-in-Ok-default-clause-there
returns-in-Ok-default-clause-there c = c.is_number.ensures.there c.args.heap.now c.requires.number

pub returns-in-Err-Integer-clause-is : goal.returns-in-Err-Integer-clause-is
returns-in-Err-Integer-clause-is c =
    let h = c.args.heap.now in
    let t = value h c.args.number in
    let l = value h c.args.list.now in
    let k = c.args.k in
    let i = c.in-Err-Integer.i in
    let number : t ≡ int i = search rules in
    let given : to_z w64 (of_z w64 i) ≡ i = search rules in
    let found : text_in k l ≡ Err c.in-Err-Integer.field-0-0 = search rules in
    forwarded c.is_number_spelled.result h (λ s n. unifies l (spelled k (number_text (to_z w64 (of_z w64 i)))) s) (λ s n. number_spelled k t l (text_in k l) s) (c.is_number_spelled.ensures.is h)
    (λ s n. ap (λ j. unifies l (spelled k (number_text j)) s) given ∙ sym (ap₂ (λ u r. number_spelled k u l r s) number found))

pub returns-in-Err-Integer-clause-there : goal.returns-in-Err-Integer-clause-there
returns-in-Err-Integer-clause-there c = c.is_number_spelled.ensures.there c.args.heap.now c.requires.list

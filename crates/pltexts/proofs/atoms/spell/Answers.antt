use Rattle.std.proofs.Common.{◌≡◌, Ok, sym, ap, ◌∙◌, rules, subst}
use Rattle.std.proofs.Common.{w64, to_z, of_z}
use Rattle.plterm.specs.Tree.{var, int, atom}
use Rattle.plterm.specs.Variables.{AllBelow}
use Rattle.plcells.specs.Store.{value}
use Rattle.plbuiltin.specs.Solution.{unifies}
use Rattle.planswers.proofs.Forwarding.{forwarded}
use Rattle.plbuiltin.specs.Atoms.{is_found, named, spell}
use Rattle.platoms.specs.Names.{atom_at}
use Rattle.plbuiltin.specs.Texts.{atom_of, number_text, spelled, text_in}
use Rattle.planswers.proofs.Filling.{below-spelled}
use Rattle.pltexts.proofs.atoms.spell.Goals as goal

pub is_term-requires : goal.is_term-requires
is_term-requires c = subst (AllBelow 0) (sym c.in_ok-term-in-Atom.ensures) (below-spelled c.args.k _)

pub returns-in-Ok-clause-is : goal.returns-in-Ok-clause-is
returns-in-Ok-clause-is c =
    let h = c.args.heap.now in
    let t = value h c.args.text in
    let l = value h c.args.list in
    let k = c.args.k in
    let text = c.deref.result.now in
    let variable : t ≡ var c.in-Variable.field-0 = search rules in
    let found : text_in k l ≡ Ok text = search rules in
    forwarded c.is_atom.result h (λ s n. is_found t (atom_of text) s) (λ s n. spell k t l s) (c.is_atom.ensures.is h)
    (λ s n. sym (ap (λ u. spell k u l s) variable ∙ ap (λ r. named (var c.in-Variable.field-0) r s) found ∙ ap (λ u. is_found u (atom_of text) s) (sym variable)))

pub returns-in-Ok-clause-there : goal.returns-in-Ok-clause-there
returns-in-Ok-clause-there c = c.is_atom.ensures.there c.args.heap.now c.requires.text

pub returns-in-Integer-clause-is : goal.returns-in-Integer-clause-is
returns-in-Integer-clause-is c =
    let h = c.args.heap.now in
    let t = value h c.args.text in
    let l = value h c.args.list in
    let k = c.args.k in
    let i = c.in-Integer.number in
    let number : t ≡ int i = search rules in
    let given : to_z w64 (of_z w64 i) ≡ i = search rules in
    forwarded c.is_number_spelled.result h (λ s n. unifies l (spelled k (number_text (to_z w64 (of_z w64 i)))) s) (λ s n. spell k t l s) (c.is_number_spelled.ensures.is h)
    (λ s n. ap (λ j. unifies l (spelled k (number_text j)) s) given ∙ sym (ap (λ u. spell k u l s) number))

pub returns-in-Integer-clause-there : goal.returns-in-Integer-clause-there
returns-in-Integer-clause-there c = c.is_number_spelled.ensures.there c.args.heap.now c.requires.list

pub returns-in_ok-term-in-Atom-clause-is : goal.returns-in_ok-term-in-Atom-clause-is
returns-in_ok-term-in-Atom-clause-is c =
    let h = c.args.heap.now in
    let t = value h c.args.text in
    let l = value h c.args.list in
    let k = c.args.k in
    let name = atom_at h.names c.in-Atom.name in
    let atomic : t ≡ atom name = search rules in
    let same : c.in_ok-term-in-Atom.term ≡ spelled k name = search rules in
    forwarded c.is_term.result h (λ s n. unifies l c.in_ok-term-in-Atom.term s) (λ s n. spell k t l s) (c.is_term.ensures.is h)
    (λ s n. ap (λ u. unifies l u s) same ∙ sym (ap (λ u. spell k u l s) atomic))

pub returns-in_ok-term-in-Atom-clause-there : goal.returns-in_ok-term-in-Atom-clause-there
returns-in_ok-term-in-Atom-clause-there c = c.is_term.ensures.there c.args.heap.now c.requires.list

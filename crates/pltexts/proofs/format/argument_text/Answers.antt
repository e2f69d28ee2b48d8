use Rattle.std.proofs.Common.{◌≡◌, Ok, sym, ap, ap₂, ◌∙◌, rules}
use Rattle.platoms.specs.Names.{atom_at}
use Rattle.plterm.specs.Tree.{atom, int}
use Rattle.plcells.specs.Store.{value}
use Rattle.plwrite.specs.Writing.{written}
use Rattle.plbuiltin.specs.Format.{argument_text}
use Rattle.plbuiltin.specs.Texts.{number_text}
use Rattle.pltexts.specs.Format.{directive_as}
use Rattle.pltexts.specs.declared.format.Directive.{Directive as Held}
use Rattle.pltexts.proofs.format.argument_text.Goals as goal

pub returns-in_ok-write_term-in-Written-default : goal.returns-in_ok-write_term-in-Written-default
returns-in_ok-write_term-in-Written-default c =
    let s = c.args.settings.now in
    ap Ok (c.in_ok-write_term-in-Written-default.ensures ∙ ap (written s.operators c.in-Written-default.style) c.in_ok-term-in-Written-default.ensures)
    ∙ sym (ap (λ (d : Held). argument_text (directive_as d) (value c.args.heap.now c.args.v) s) c.in-Written-default.is-0)

pub returns-in_ok-from_slice-in-Name-Atom : goal.returns-in_ok-from_slice-in-Name-Atom
returns-in_ok-from_slice-in-Name-Atom c =
    let h = c.args.heap.now in
    let name = atom_at h.names c.in-Name-Atom.name in
    let atomic : value h c.args.v ≡ atom name = search rules in
    let text : c.in_ok-from_slice-in-Name-Atom.field-0.items ≡ name = search rules in
    ap Ok text ∙ sym (ap₂ (λ (d : Held) t. argument_text (directive_as d) t c.args.settings.now) c.in-Name-Atom.is-0 atomic)

pub returns-in_ok-from_slice-in-Number-Integer : goal.returns-in_ok-from_slice-in-Number-Integer
returns-in_ok-from_slice-in-Number-Integer c =
    let h = c.args.heap.now in
    let i = c.in-Number-Integer.number in
    let number : value h c.args.v ≡ int i = search rules in
    let text : c.in_ok-from_slice-in-Number-Integer.field-0.items ≡ number_text i = search rules in
    ap Ok text ∙ sym (ap₂ (λ (d : Held) t. argument_text (directive_as d) t c.args.settings.now) c.in-Number-Integer.is-0 number)

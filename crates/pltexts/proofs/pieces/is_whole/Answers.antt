use Rattle.std.proofs.Common.{◌≡◌, Ok, sym, ap, ap₂, ◌∙◌, rules}
use Rattle.plterm.specs.Tree.{atom}
use Rattle.plcells.specs.Store.{value}
use Rattle.plbuiltin.specs.Pieces.{whole}
use Rattle.plbuiltin.specs.Solution.{unifies}
use Rattle.plbuiltin.specs.Texts.{atom_of, number_text}
use Rattle.planswers.proofs.Forwarding.{forwarded}
use Rattle.pltexts.proofs.Dividing.{whole-term}
use Rattle.pltexts.proofs.pieces.is_whole.Goals as goal

pub returns-in_default-clause-is : goal.returns-in_default-clause-is
returns-in_default-clause-is c =
    let h = c.args.heap.now in
    let v = value h c.args.v in
    let t = c.in-Ok.term in
    let found : Ok t ≡ atom_of c.args.text.now = search rules in
    forwarded c.is_term.result h (λ s n. unifies v t s) (λ s n. whole (atom_of c.args.text.now) v s) (c.is_term.ensures.is h)
    (λ s n. whole-term h v t s c.shape_of.result c.shape_of.ensures c.in_default.not-Integer ∙ ap (λ r. whole r v s) found)

pub returns-in_default-clause-there : goal.returns-in_default-clause-there
returns-in_default-clause-there c = c.is_term.ensures.there c.args.heap.now c.requires

pub returns-in_ok-atom-in-Integer-clause-there : goal.returns-in_ok-atom-in-Integer-clause-there
returns-in_ok-atom-in-Integer-clause-there c = c.are_terms.ensures.there c.args.heap.now

pub returns-in-Err-clause-is : goal.returns-in-Err-clause-is
returns-in-Err-clause-is c = λ s n. ap (λ r. whole r (value c.args.heap.now c.args.v) s) (sym c.in-Err.is ∙ c.in_ok-term.ensures)

pub returns-in_ok-atom-in-Integer-clause-is : goal.returns-in_ok-atom-in-Integer-clause-is
returns-in_ok-atom-in-Integer-clause-is c = λ s n.
    let h = c.args.heap.now in
    let t = c.in-Ok.term in
    let found : Ok t ≡ atom_of c.args.text.now = sym c.in-Ok.is ∙ c.in_ok-term.ensures in
    let left : c.in_ok-atom-in-Integer.field-0 ≡ atom (number_text c.in-Integer.i) = search rules in
    c.are_terms.ensures.is h s n
    ∙ ap (λ u. unifies u t s) left
    ∙ ap₂ (λ r u. whole r u s) found (sym c.in-Integer.ensures)

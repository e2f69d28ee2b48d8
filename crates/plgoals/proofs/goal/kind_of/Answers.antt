use Rattle.std.proofs.Common.{◌∙◌, sym, ap, subst, inl, inr, Some}
use Rattle.std.specs.Prelude.{codes}
use Rattle.plterm.specs.Tree.{compound, none, more}
use Rattle.plclause.specs.Conversion.{converted}
use Rattle.plcells.specs.Store.{IsEnd, value}
use Rattle.plgoals.specs.Goals.{IsKind}
use Rattle.plgoals.proofs.Shapes.{end-variable}
use Rattle.plgoals.proofs.goal.kind_of.Goals as goal

pub returns-then-is_construct : goal.returns-then-is_construct
unfolding IsKind
returns-then-is_construct c =
    let h = c.args.heap.now in
    (sym c.in-Str.ensures.same, c.is_construct.ensures.yes c.if-is_construct.true)

pub returns-else-is_construct : goal.returns-else-is_construct
unfolding IsKind
returns-else-is_construct c =
    let h = c.args.heap.now in
    let same = c.in-Str.ensures.same in
    (c.in-Str.ensures.fits, same, ap converted (sym same) ∙ c.is_construct.ensures.no c.if-is_construct.false ∙ ap Some same)

pub returns-in-Ref : goal.returns-in-Ref
unfolding IsKind
returns-in-Ref c =
    let h = c.args.heap.now in
    let j = c.in-Ref.field-0 in
    let x = end-variable h j c.root-root.ensures.heap (subst (IsEnd h) c.in-Ref.is c.root-root.ensures.end) in
    let here = ap (value h) c.in-Ref.is ∙ x.1 in
    (c.root-root.ensures.fits, ap converted (sym c.root-root.ensures.same ∙ here) ∙ ap (λ u. Some (compound (codes "call") (more u none))) (sym here))

pub returns-in-Atom : goal.returns-in-Atom
unfolding IsKind
returns-in-Atom c =
    let h = c.args.heap.now in
    let here = ap (value h) c.in-Atom.is in
    let same = c.root-root.ensures.same in
    (c.root-root.ensures.fits, same, ap converted (sym same ∙ here) ∙ ap Some (sym here ∙ same))

pub returns-in-Int : goal.returns-in-Int
unfolding IsKind
returns-in-Int c =
    let h = c.args.heap.now in
    let same = ap converted (sym c.root-root.ensures.same) in
    elim c.in-Int.is [ inl i ↦ same ∙ ap (λ r. converted (value h r)) i.1 | inr p ↦ same ∙ ap (λ r. converted (value h r)) p.1 ]

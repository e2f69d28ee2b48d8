use Rattle.std.proofs.Common.{reverse, ap, sym, arith, subst, List}
use Rattle.std.proofs.lemmas.List.{length-reverse}
use Rattle.plterm.specs.Reading.{reading}
use Rattle.plcode.specs.declared.node.Node.{Node}
use Rattle.plcode.proofs.Placing.{Placing, placing_none, placing_fits, placing_room, placing_next}
use Rattle.plcode.proofs.lay.put_all.Goals as goal

pub terms-init : goal.terms-init
terms-init c =
    let P : List Node → Type 0 = λ w. Placing c.args.names.now c.args.names.now c.args.nodes.now.items c.args.nodes.now.items w c.args.terms.items c.args.terms.items in
    subst P (sym (ap (reverse {A = Node}) c.requires.none)) (placing_none c.args.names.now c.args.nodes.now.items c.args.terms.items c.requires.laid)

pub put_read-requires-clause-fits : goal.put_read-requires-clause-fits
put_read-requires-clause-fits c = placing_fits _ _ _ _ _ _ _ _ c.in-Some.node c.requires.forest c.terms.invariant c.in-Some.ensures.items

pub put_read-requires-clause-room : goal.put_read-requires-clause-room
put_read-requires-clause-room c =
    omega (arith, length-reverse c.terms.waiting.items, placing_room _ _ _ _ _ _ _ _ c.in-Some.node c.requires.forest c.terms.invariant c.in-Some.ensures.items)

pub terms-preserved : goal.terms-preserved
terms-preserved c =
    let e = c.in_ok-put_read.ensures in
    placing_next _ _ _ _ _ _ _ _ c.in-Some.node c.requires.forest c.terms.invariant c.in-Some.ensures.items _ _ _ c.put_read.ensures.names e.grows (e.waits (reading c.terms.invariant.done) c.terms.invariant.waits)

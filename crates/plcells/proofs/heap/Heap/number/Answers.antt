use Rattle.std.proofs.Common.{◌∙◌, map, sym, ap, arith}
use Rattle.std.proofs.lemmas.List.{length-map, get_or_read}
use Rattle.plterm.specs.Tree.{var}
use Rattle.plcells.specs.Skipping.{plain}
use Rattle.plcells.proofs.Values.{read-plain, variable-within, variable-place, number-term, place-within}
use Rattle.plcells.proofs.heap.Heap.number.Goals as goal

pub unreachable-requires : goal.unreachable-requires
unreachable-requires c =
    let v = rw (← c.self.view_is) at c.requires in
    let within = variable-within (map plain c.self.inside.cells.items) c.args.c v in
    let here = read-plain c.self.inside.cells.items c.args.c c.index.result.now (omega (arith, within, length-map c.self.inside.cells.items plain)) (rw c.place.ensures.is at c.index.ensures) in
    let p = variable-place _ v in
    c.place_of.ensures.none c.in-None.is p.0 (sym here ∙ p.1)

pub returns-clause-is : goal.returns-clause-is
returns-clause-is c =
    let v = rw (← c.self.view_is) at c.requires in
    rw (← c.self.view_is) (
    let within = variable-within (map plain c.self.inside.cells.items) c.args.c v in
    let here = read-plain c.self.inside.cells.items c.args.c c.index.result.now (omega (arith, within, length-map c.self.inside.cells.items plain)) (rw c.place.ensures.is at c.index.ensures) in
    let e = c.place_of.ensures.some c.in-Some.place c.in-Some.is in
    let lt = place-within _ c.self.invariant.heap c.args.c c.in-Some.place within (here ∙ e) in
    number-term _ c.self.invariant.heap c.args.c c.index.result.now within here c.in-Some.place e ∙ ap var (sym (get_or_read c.self.inside.numbers.items c.in-Some.place _ lt (rw c.get.ensures at c.index-in-Some.ensures) 0)))

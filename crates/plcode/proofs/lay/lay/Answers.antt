use Rattle.std.proofs.Common.{List, take, arith, subst, length-take}
use Rattle.std.proofs.lemmas.List.{take_all}
use Rattle.plterm.specs.Tree.{Tree}
use Rattle.plcode.specs.Laying.{IsRow}
use Rattle.plcode.proofs.Placing.{Grows-trans}
use Rattle.plcode.proofs.lay.lay.Goals as goal

pub returns-clause-row : goal.returns-clause-row
returns-clause-row c =
    let k = c.args.count in
    let ts = take k c.args.terms.now in
    let P : List Tree → Type 0 = IsRow c.stacked.new.names c.lay_row.new.nodes.items c.in_ok-at.at k in
    subst P (take_all k ts (omega (arith, length-take k c.args.terms.now))) (c.in_ok-at.ensures.row c.stacked.new.names ts c.in_ok-waiting.ensures.waits)

pub returns-clause-laid : goal.returns-clause-laid
returns-clause-laid c = c.in_ok-at.ensures.laid c.stacked.new.names (take c.args.count c.args.terms.now) c.in_ok-waiting.ensures.waits

pub lay_row-requires : goal.lay_row-requires
lay_row-requires c = omega (arith, c.in_ok-waiting.ensures.count)

pub returns-clause-rest : goal.returns-clause-rest
returns-clause-rest c = c.in_ok-waiting.ensures.rest

pub returns-clause-grows : goal.returns-clause-grows
returns-clause-grows c =
    Grows-trans c.args.nodes.now.items c.stacked.new.nodes.items c.lay_row.new.nodes.items c.in_ok-waiting.ensures.grows c.in_ok-at.ensures.grows

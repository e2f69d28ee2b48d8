use Rattle.std.proofs.Common.{◌≡◌, ◌<◌, ◌^◌, ◌++◌, ℕ, List, length, take, reverse, sym, arith, subst}
use Rattle.std.proofs.lemmas.List.{length-reverse}
use Rattle.plcode.specs.declared.node.Node.{Node}
use Rattle.plcode.specs.Laying.{IsRow}
use Rattle.plcode.proofs.Placing.{row_laid, row_there}
use Rattle.plcode.proofs.lay.lay_row.Goals as goal

pub returns-clause-row : goal.returns-clause-row
returns-clause-row c t ts waits =
    let w = reverse c.args.waiting.now.items in
    let nodes = c.args.nodes.now.items in
    let count = c.args.count in
    let start : c.in-Ok.at ≡ length nodes = omega (arith, c.in-Ok.ensures.1, c.len.ensures, c.args.nodes.now.ok.0) in
    let P : ℕ → Type 0 = λ at. IsRow t (nodes ++ take count w) at count (take count ts) in
    rw c.in_ok-put_row.ensures.nodes (subst P (sym start) (row_there t nodes w ts count waits (omega (arith, length-reverse c.args.waiting.now.items, c.requires))))

pub returns-clause-laid : goal.returns-clause-laid
returns-clause-laid c t ts waits =
    let w = reverse c.args.waiting.now.items in
    let Few : List Node → Type 0 = λ ns. length ns < 2 ^ 32 in
    let few = subst Few c.in_ok-put_row.ensures.nodes c.in_ok-put_row.ensures.few in
    rw c.in_ok-put_row.ensures.nodes (row_laid t c.args.nodes.now.items w ts c.args.count waits (omega (arith, length-reverse c.args.waiting.now.items, c.requires)) few)

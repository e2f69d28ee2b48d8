use Rattle.std.proofs.Common.{map, ◌+◌, ◌<◌, length, arith}
use Rattle.plsubst.specs.Subst.{bind}
use Rattle.plenv.specs.Env.{over}
use Rattle.plenv.specs.Rows.{row_at}
use Rattle.plenv.proofs.Packing.{arity-same}
use Rattle.plenv.proofs.Rows.{for-values}
use Rattle.plenv.proofs.Calling.{arguments_at, row-covered, block-callable, block-called, block-few}
use Rattle.plenv.proofs.env.Environment.put_arguments.Goals as goal

pub put_row-requires-clause-covers : goal.put_row-requires-clause-covers
put_row-requires-clause-covers c =
    let nodes = c.args.nodes.now in
    let b = c.requires.block.1.1.1 in
    let many = arity-same nodes c.requires.block.0 c.args.root _ _ c.in-Fun.f c.in-Fun.count b c.in-Fun.is in
    let within : c.args.root + c.in-Fun.count < length nodes = omega (arith, b.within, many) in
    row-covered c.args.self.now c.args.self.now c.args.base nodes c.args.root c.in-Fun.f c.in-Fun.count c.requires.laid within c.in-Fun.is c.requires.covers

pub returns-clause-callable : goal.returns-clause-callable
returns-clause-callable c =
    let nodes = c.args.nodes.now in
    let b = c.requires.block.1.1.1 in
    let many = arity-same nodes c.requires.block.0 c.args.root _ _ c.in-Fun.f c.in-Fun.count b c.in-Fun.is in
    let within : c.args.root + c.in-Fun.count < length nodes = omega (arith, b.within, many) in
    block-callable c.args.self.now c.put_row.new.self c.args.base nodes c.args.root c.in-Fun.f c.in-Fun.count c.requires.laid within c.in-Fun.is c.put_row.new.values.items c.put_row.ensures.names c.in_ok-put_row.ensures.ok

pub returns-clause-is : goal.returns-clause-is
returns-clause-is c =
    let nodes = c.args.nodes.now in
    let b = c.requires.block.1.1.1 in
    let many = arity-same nodes c.requires.block.0 c.args.root _ _ c.in-Fun.f c.in-Fun.count b c.in-Fun.is in
    let within : c.args.root + c.in-Fun.count < length nodes = omega (arith, b.within, many) in
    block-called c.args.self.now c.put_row.new.self c.args.base nodes c.args.root c.in-Fun.f c.in-Fun.count c.requires.laid within c.in-Fun.is c.put_row.new.values.items c.put_row.ensures.names c.in_ok-put_row.ensures.ok

pub returns-clause-values : goal.returns-clause-values
returns-clause-values c =
    let now = c.args.self.now in
    for-values c.put_row.new.self.heap c.put_row.new.values.items
    (map (bind (over now c.args.base)) (row_at now.heap.names c.args.nodes.now (arguments_at c.args.root c.in-Fun.count))) c.in_ok-put_row.ensures.ok.are

pub returns-clause-few : goal.returns-clause-few
returns-clause-few c =
    let nodes = c.args.nodes.now in
    let b = c.requires.block.1.1.1 in
    let many = arity-same nodes c.requires.block.0 c.args.root _ _ c.in-Fun.f c.in-Fun.count b c.in-Fun.is in
    let within : c.args.root + c.in-Fun.count < length nodes = omega (arith, b.within, many) in
    block-few c.args.self.now c.put_row.new.self c.args.base nodes c.args.root c.in-Fun.f c.in-Fun.count c.requires.laid within c.in-Fun.is c.put_row.new.values.items c.put_row.ensures.names c.in_ok-put_row.ensures.ok

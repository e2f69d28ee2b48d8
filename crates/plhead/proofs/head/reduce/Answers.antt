use Rattle.std.proofs.Common.{arith, subst, sym}
use Rattle.plcells.specs.Store.{Store, value}
use Rattle.plenv.specs.Rows.{tree_at}
use Rattle.plhead.specs.Equations.{Pushes}
use Rattle.plhead.specs.Fitting.{HasArgs}
use Rattle.plhead.proofs.Steps.{alone-args, alone-met, alone-never, alone-split}
use Rattle.plhead.proofs.head.reduce.Goals as goal

-- the arguments that are left of the equation
parts : (c : goal.After-heap) → HasArgs c.heap.result.now c.args.nodes.now (tree_at c.args.env.now.heap.names c.args.nodes.now) (tree_at c.args.env.now.heap.names c.args.nodes.now c.args.equation.0) (value c.args.env.now.heap c.args.equation.1) c.in-Args.first c.in-Args.cells c.in-Args.count
parts c =
    let e = c.args.env.now in
    let nodes = c.args.nodes.now in
    let w = tree_at e.heap.names nodes in
    let p = c.args.equation in
    subst (λ (h : Store). HasArgs h nodes w (w p.0) (value e.heap p.1) c.in-Args.first c.in-Args.cells c.in-Args.count) (sym c.heap.ensures.is)
    (alone-args e c.meet.new.env c.args.base nodes p.0 p.1 c.args.work.now.items c.in_ok-meet.field-0 c.in_ok-meet.ensures.comes c.in-Args.first c.in-Args.cells c.in-Args.count c.in-Args.is)

pub push_arguments-requires-clause-few : goal.push_arguments-requires-clause-few
push_arguments-requires-clause-few c = let has = parts c in omega (arith, has.nodes_within, c.requires.few)

pub push_arguments-requires-clause-room : goal.push_arguments-requires-clause-room
push_arguments-requires-clause-room c = let has = parts c in omega (arith, has.cells_within, has.heap.few)

pub push_arguments-requires-clause-within : goal.push_arguments-requires-clause-within
push_arguments-requires-clause-within c = (parts c).cells_within

pub push_arguments-requires-clause-plain : goal.push_arguments-requires-clause-plain
push_arguments-requires-clause-plain c = (parts c).plain

pub returns-in-Same-clause-yes : goal.returns-in-Same-clause-yes
returns-in-Same-clause-yes c = λ q.
    alone-met c.args.env.now c.meet.new.env c.args.base c.args.nodes.now c.args.equation.0 c.args.equation.1 c.args.work.now.items c.in_ok-meet.field-0 c.in_ok-meet.ensures.comes c.in-Same.is

pub returns-in-Clash-clause-no : goal.returns-in-Clash-clause-no
returns-in-Clash-clause-no c = λ q.
    alone-never c.args.env.now c.meet.new.env c.args.base c.args.nodes.now c.args.equation.0 c.args.equation.1 c.args.work.now.items c.in_ok-meet.field-0 c.in_ok-meet.ensures.comes c.in-Clash.is

pub returns-in_ok-push_arguments-in-Args-clause-yes : goal.returns-in_ok-push_arguments-in-Args-clause-yes
returns-in_ok-push_arguments-in-Args-clause-yes c = λ q.
    let pushed = subst (λ (h : Store). Pushes h c.args.work.now.items c.push_arguments.new.work.items c.in-Args.first c.in-Args.cells c.in-Args.count) c.heap.ensures.is c.in_ok-push_arguments-in-Args.ensures in
    alone-split c.args.env.now c.meet.new.env c.args.base c.args.nodes.now c.args.equation.0 c.args.equation.1 c.args.work.now.items c.in_ok-meet.field-0 c.in_ok-meet.ensures.comes c.in-Args.first c.in-Args.cells c.in-Args.count c.in-Args.is c.push_arguments.new.work.items c.requires.is pushed

use Rattle.std.proofs.Common.{◌++◌, IfOk, sym, ap, subst}
use Rattle.plterm.specs.Tree.{Tree}
use Rattle.plcode.proofs.Waiting.{IsLaid-names}
use Rattle.plenv.specs.Rows.{row_at, tree_at}
use Rattle.plhead.specs.Equations.{pairs, AreEquations}
use Rattle.plhead.specs.Fitting.{Answers, Stands}
use Rattle.plhead.proofs.Trees.{row-spread}
use Rattle.plhead.proofs.Slots.{keeps-trans}
use Rattle.plhead.proofs.Steps.{equations-now, stood-onward}
use Rattle.plhead.proofs.Rows.{row-equations, row-no, row-yes}
use Rattle.plhead.proofs.head.Matcher.fit.Goals as goal

pub meet_values-requires-clause-equations : goal.meet_values-requires-clause-equations
meet_values-requires-clause-equations c =
    let e = c.args.env.now in
    let r = c.args.head.row in
    let t = e.heap.names in
    let ns = c.args.nodes.now in
    subst (λ ws. AreEquations e c.args.head.base ns (tree_at t ns) (ws ++ pairs r.at c.args.values.now)) (sym c.clear.ensures.items)
    (row-equations e c.args.head.base (tree_at t ns) ns r.at r.count c.args.values.now (row_at t ns r) (row-spread t ns r.at r.count c.requires.row) c.requires.count c.requires.values c.requires.row c.requires.whole c.requires.covers)

pub solve-requires-clause-laid : goal.solve-requires-clause-laid
solve-requires-clause-laid c =
    IsLaid-names c.args.env.now.heap.names c.meet_values.new.env.heap.names c.args.nodes.now c.meet_values.ensures.keeps.names c.known.ensures.heap.names c.requires.laid

pub solve-requires-clause-equations : goal.solve-requires-clause-equations
solve-requires-clause-equations c =
    equations-now c.args.env.now c.meet_values.new.env c.args.nodes.now c.requires.laid c.meet_values.ensures.keeps c.args.head.base c.meet_values.new.work.items c.in_ok-meet_values.ensures.ok.equations

-- what the head's arguments and their values come to
answered : (c : goal.After-solve) → let e = c.args.env.now in let w = tree_at e.heap.names c.args.nodes.now in
    IfOk c.solve.result (λ b. (s u : Tree) → Stands e c.args.head.base w (pairs c.args.head.row.at c.args.values.now) s u → Answers e c.solve.new.env s u b)
answered c =
    let e = c.args.env.now in
    let w = tree_at e.heap.names c.args.nodes.now in
    let alone = ap (λ ws. ws ++ pairs c.args.head.row.at c.args.values.now) c.clear.ensures.items in
    subst (λ ws. IfOk c.solve.result (λ b. (s u : Tree) → Stands e c.args.head.base w ws s u → Answers e c.solve.new.env s u b)) alone
    (stood-onward e c.meet_values.new.env c.args.nodes.now c.requires.laid c.meet_values.ensures.keeps c.solve.new.env c.args.head.base (c.clear.new.self.items ++ pairs c.args.head.row.at c.args.values.now) c.meet_values.new.work.items c.in_ok-meet_values.ensures.ok c.solve.result c.solve.ensures.answers)

pub returns-clause-yes : goal.returns-clause-yes
returns-clause-yes c =
    let r = c.args.head.row in
    let t = c.args.env.now.heap.names in
    let ns = c.args.nodes.now in
    row-yes c.args.env.now c.args.head.base (tree_at t ns) ns r.at r.count c.args.values.now (row_at t ns r) (row-spread t ns r.at r.count c.requires.row) c.requires.count c.solve.new.env c.solve.result (answered c)

pub returns-clause-no : goal.returns-clause-no
returns-clause-no c =
    let r = c.args.head.row in
    let t = c.args.env.now.heap.names in
    let ns = c.args.nodes.now in
    row-no c.args.env.now c.args.head.base (tree_at t ns) ns r.at r.count c.args.values.now (row_at t ns r) (row-spread t ns r.at r.count c.requires.row) c.requires.count c.solve.new.env c.solve.result (answered c)

pub returns-clause-keeps : goal.returns-clause-keeps
returns-clause-keeps c = keeps-trans c.args.env.now c.meet_values.new.env c.solve.new.env c.meet_values.ensures.keeps c.solve.ensures.keeps

use Rattle.std.proofs.Common.{arith, refl}
use Rattle.plcells.specs.Store.{value}
use Rattle.plorder.proofs.Occurring.{visits-variable, visits-other, visits-block}
use Rattle.plorder.proofs.occurrences.visit.Goals as goal

pub returns-in_ok-note-in-Variable-clause-visits : goal.returns-in_ok-note-in-Variable-clause-visits
returns-in_ok-note-in-Variable-clause-visits c =
    visits-variable c.args.heap.now c.args.work.now.items c.args.found.now.numbers c.note.new.found.numbers (value c.args.heap.now c.args.v) c.in-Variable.number
    c.in-Variable.ensures c.in_ok-note-in-Variable.ensures.numbers

pub returns-in_ok-push-in-Compound-clause-visits : goal.returns-in_ok-push-in-Compound-clause-visits
returns-in_ok-push-in-Compound-clause-visits c =
    let is = c.in-Compound.ensures in
    visits-block c.args.heap.now c.args.work.now.items c.push.new.self.items c.args.found.now.numbers (value c.args.heap.now c.args.v) c.in-Compound.block _ is.0 is.1 is.2 (omega arith) refl
    c.in_ok-push-in-Compound.ensures.items

pub returns-in_default-clause-visits : goal.returns-in_default-clause-visits
returns-in_default-clause-visits c =
    visits-other c.args.heap.now c.args.work.now.items c.args.found.now.numbers (value c.args.heap.now c.args.v) c.shape_of.result c.shape_of.ensures c.in_default.not-Variable c.in_default.not-Compound

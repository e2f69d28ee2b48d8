use Rattle.std.proofs.Common.{arith}
use Rattle.plcells.specs.Store.{value}
use Rattle.plorder.proofs.Looking.{taken}
use Rattle.plorder.proofs.Occurring.{occurs-more, lighter-more}
use Rattle.plorder.proofs.occurrences.variables_of.Goals as goal

pub push_rest-requires : goal.push_rest-requires
push_rest-requires c =
    let is = taken c.args.heap.now c.spans.work.items c.pop.new.self.items c.in-Some.span c.in-Some.ensures.items c.spans.invariant.inside in
    omega (arith, is.within, is.few)

pub argument-requires-clause-within : goal.argument-requires-clause-within
argument-requires-clause-within c =
    let is = taken c.args.heap.now c.spans.work.items c.pop.new.self.items c.in-Some.span c.in-Some.ensures.items c.spans.invariant.inside in
    omega (arith, is.within, is.some)

pub argument-requires-clause-plain : goal.argument-requires-clause-plain
argument-requires-clause-plain c =
    let is = taken c.args.heap.now c.spans.work.items c.pop.new.self.items c.in-Some.span c.in-Some.ensures.items c.spans.invariant.inside in
    is.plain c.in-Some.span.first (omega arith) (omega (arith, is.some))

pub spans-smaller : goal.spans-smaller
spans-smaller c =
    lighter-more c.args.heap.now c.spans.work.items c.pop.new.self.items c.push_rest.new.work.items c.in-Some.span c.spans.found (value c.args.heap.now c.args.v)
    c.in-Some.ensures.items c.in_ok-push_rest.ensures c.spans.invariant
    c.visit-in-Some.new.work.items c.visit-in-Some.new.found (value c.args.heap.now c.argument.result) c.argument.ensures.same c.in_ok-visit-2.ensures.visits

pub spans-preserved : goal.spans-preserved
spans-preserved c =
    occurs-more c.args.heap.now c.spans.work.items c.pop.new.self.items c.push_rest.new.work.items c.in-Some.span c.spans.found (value c.args.heap.now c.args.v)
    c.in-Some.ensures.items c.in_ok-push_rest.ensures c.spans.invariant
    c.visit-in-Some.new.work.items c.visit-in-Some.new.found (value c.args.heap.now c.argument.result) c.argument.ensures.same c.in_ok-visit-2.ensures.visits
    c.in_ok-visit-2.ensures.found

use Rattle.std.proofs.Common.{◌∙◌, sym, ap, subst, arith}
use Rattle.plterm.specs.Ground.{is_ground}
use Rattle.plcells.specs.Store.{value}
use Rattle.plorder.specs.Spans.{IsLooked, Looks}
use Rattle.plorder.proofs.Looking.{taken, left-taken, on-variable, on-looked, spans-looked, lighter-looked}
use Rattle.plorder.proofs.variables.look_through.Goals as goal

pub push_rest-requires : goal.push_rest-requires
push_rest-requires c =
    let is = taken c.args.heap.now c.spans.work.items c.pop.new.self.items c.in-Some.span c.in-Some.ensures.items c.spans.invariant.inside in
    omega (arith, is.within, is.few)

pub argument-requires-clause-within : goal.argument-requires-clause-within
argument-requires-clause-within c =
    let is = taken c.args.heap.now c.spans.work.items c.pop.new.self.items c.in-Some.span c.in-Some.ensures.items c.spans.invariant.inside in
    omega (arith, is.within, is.some)

pub argument-requires-clause-plain : goal.argument-requires-clause-plain
argument-requires-clause-plain c =
    let is = taken c.args.heap.now c.spans.work.items c.pop.new.self.items c.in-Some.span c.in-Some.ensures.items c.spans.invariant.inside in
    is.plain c.in-Some.span.first (omega arith) (omega (arith, is.some))

pub returns-then-not-branch : goal.returns-then-not-branch
returns-then-not-branch c =
    let h = c.args.heap.now in
    let a = c.in-Some.span.first in
    let left = left-taken h c.spans.work.items c.pop.new.self.items c.in-Some.span c.in-Some.ensures.items c.spans.invariant.inside c.push_rest.new.work.items c.in_ok-push_rest.ensures in
    let said = subst (Looks h c.push_rest.new.work.items c.look.new.work.items (value h c.argument.result)) c.if-not-branch.true c.in_ok-look.ensures in
    on-variable h c.args.work.now.items c.spans.work.items c.push_rest.new.work.items c.look.new.work.items a left c.spans.invariant.same (ap is_ground (sym c.argument.ensures.same) ∙ said)

pub spans-smaller : goal.spans-smaller
spans-smaller c =
    let h = c.args.heap.now in
    let a = c.in-Some.span.first in
    let left = left-taken h c.spans.work.items c.pop.new.self.items c.in-Some.span c.in-Some.ensures.items c.spans.invariant.inside c.push_rest.new.work.items c.in_ok-push_rest.ensures in
    let said = subst (Looks h c.push_rest.new.work.items c.look.new.work.items (value h c.argument.result)) c.if-not-branch.false c.in_ok-look.ensures in
    let looked = subst (IsLooked h c.push_rest.new.work.items c.look.new.work.items) c.argument.ensures.same said in
    lighter-looked h c.args.work.now.items c.spans.work.items c.push_rest.new.work.items c.look.new.work.items a left c.spans.invariant.same looked

pub spans-preserved : goal.spans-preserved
spans-preserved c =
    let h = c.args.heap.now in
    let a = c.in-Some.span.first in
    let left = left-taken h c.spans.work.items c.pop.new.self.items c.in-Some.span c.in-Some.ensures.items c.spans.invariant.inside c.push_rest.new.work.items c.in_ok-push_rest.ensures in
    let said = subst (Looks h c.push_rest.new.work.items c.look.new.work.items (value h c.argument.result)) c.if-not-branch.false c.in_ok-look.ensures in
    let looked = subst (IsLooked h c.push_rest.new.work.items c.look.new.work.items) c.argument.ensures.same said in
    record {
      inside = spans-looked h c.args.work.now.items c.spans.work.items c.push_rest.new.work.items c.look.new.work.items a left c.spans.invariant.same looked;
      same = on-looked h c.args.work.now.items c.spans.work.items c.push_rest.new.work.items c.look.new.work.items a left c.spans.invariant.same looked;
    }

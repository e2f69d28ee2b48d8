use Rattle.std.proofs.Common.{◌∙◌, sym, arith}
use Rattle.plcells.specs.Store.{term, value}
use Rattle.plorder.specs.Runs.{IsComparison}
use Rattle.plorder.specs.declared.compare.Verdict.TheVariants.{Decided, Arguments}
use Rattle.plorder.proofs.Settling.{says-along, differs, equal, taken, left-taken, on-equal, lighter-equal, on-decided, runs-more, on-more, lighter-more}
use Rattle.plorder.proofs.compare.settle.Goals as goal

pub push_rest-requires-clause-left : goal.push_rest-requires-clause-left
push_rest-requires-clause-left c =
    let is = taken c.args.heap.now c.runs.work.items c.pop.new.self.items c.in-Some.next c.in-Some.ensures.items c.runs.invariant.inside in
    omega (arith, is.left, is.few)

pub push_rest-requires-clause-right : goal.push_rest-requires-clause-right
push_rest-requires-clause-right c =
    let is = taken c.args.heap.now c.runs.work.items c.pop.new.self.items c.in-Some.next c.in-Some.ensures.items c.runs.invariant.inside in
    omega (arith, is.right, is.few)

pub argument-requires-clause-within : goal.argument-requires-clause-within
argument-requires-clause-within c =
    let is = taken c.args.heap.now c.runs.work.items c.pop.new.self.items c.in-Some.next c.in-Some.ensures.items c.runs.invariant.inside in
    omega (arith, is.left, is.some)

pub argument-requires-clause-plain : goal.argument-requires-clause-plain
argument-requires-clause-plain c =
    let is = taken c.args.heap.now c.runs.work.items c.pop.new.self.items c.in-Some.next c.in-Some.ensures.items c.runs.invariant.inside in
    is.left_plain c.in-Some.next.left (omega arith) (omega (arith, is.some))

pub argument-requires-in-Some-clause-within : goal.argument-requires-in-Some-clause-within
argument-requires-in-Some-clause-within c =
    let is = taken c.args.heap.now c.runs.work.items c.pop.new.self.items c.in-Some.next c.in-Some.ensures.items c.runs.invariant.inside in
    omega (arith, is.right, is.some)

pub argument-requires-in-Some-clause-plain : goal.argument-requires-in-Some-clause-plain
argument-requires-in-Some-clause-plain c =
    let is = taken c.args.heap.now c.runs.work.items c.pop.new.self.items c.in-Some.next c.in-Some.ensures.items c.runs.invariant.inside in
    is.right_plain c.in-Some.next.right (omega arith) (omega (arith, is.some))

pub returns-then-is_ne : goal.returns-then-is_ne
unfolding IsComparison
returns-then-is_ne c =
    let h = c.args.heap.now in
    let r = c.in-Some.next in
    let rest = c.pop.new.self.items in
    let left = left-taken h c.runs.work.items rest r c.in-Some.ensures.items c.runs.invariant.inside c.push_rest.new.work.items c.in_ok-push_rest.ensures in
    let says = says-along h (value h c.argument.result) (value h c.argument-in-Some.result) (term h r.left) (term h r.right) (Decided c.in-Decided.decided) c.argument.ensures.same c.argument-in-Some.ensures.same c.in-Decided.ensures in
    on-decided h c.args.work.now.items c.runs.work.items c.push_rest.new.work.items r.left r.right left c.runs.invariant.same c.in-Decided.decided says (differs c.in-Decided.decided (sym c.is_ne.ensures ∙ c.if-is_ne.true))

pub runs-smaller-else-is_ne : goal.runs-smaller-else-is_ne
runs-smaller-else-is_ne c =
    let h = c.args.heap.now in
    let r = c.in-Some.next in
    let rest = c.pop.new.self.items in
    let left = left-taken h c.runs.work.items rest r c.in-Some.ensures.items c.runs.invariant.inside c.push_rest.new.work.items c.in_ok-push_rest.ensures in
    lighter-equal h c.args.work.now.items c.runs.work.items c.push_rest.new.work.items r.left r.right left c.runs.invariant.same

pub runs-preserved-else-is_ne : goal.runs-preserved-else-is_ne
unfolding IsComparison
runs-preserved-else-is_ne c =
    let h = c.args.heap.now in
    let r = c.in-Some.next in
    let rest = c.pop.new.self.items in
    let left = left-taken h c.runs.work.items rest r c.in-Some.ensures.items c.runs.invariant.inside c.push_rest.new.work.items c.in_ok-push_rest.ensures in
    let says = says-along h (value h c.argument.result) (value h c.argument-in-Some.result) (term h r.left) (term h r.right) (Decided c.in-Decided.decided) c.argument.ensures.same c.argument-in-Some.ensures.same c.in-Decided.ensures in
    record {
      inside = left.runs;
      same = on-equal h c.args.work.now.items c.runs.work.items c.push_rest.new.work.items r.left r.right left c.runs.invariant.same (sym (equal c.in-Decided.decided (sym c.is_ne.ensures ∙ c.if-is_ne.false)) ∙ says);
    }

pub runs-smaller : goal.runs-smaller
unfolding IsComparison
runs-smaller c =
    let h = c.args.heap.now in
    let r = c.in-Some.next in
    let rest = c.pop.new.self.items in
    let left = left-taken h c.runs.work.items rest r c.in-Some.ensures.items c.runs.invariant.inside c.push_rest.new.work.items c.in_ok-push_rest.ensures in
    let says = says-along h (value h c.argument.result) (value h c.argument-in-Some.result) (term h r.left) (term h r.right) (Arguments c.in-Arguments.inner) c.argument.ensures.same c.argument-in-Some.ensures.same c.in-Arguments.ensures in
    lighter-more h c.args.work.now.items c.runs.work.items c.push_rest.new.work.items r.left r.right left c.runs.invariant.same c.in-Arguments.inner says c.push.new.self.items c.in_ok-push-in-Arguments.ensures.items

pub runs-preserved : goal.runs-preserved
unfolding IsComparison
runs-preserved c =
    let h = c.args.heap.now in
    let r = c.in-Some.next in
    let rest = c.pop.new.self.items in
    let left = left-taken h c.runs.work.items rest r c.in-Some.ensures.items c.runs.invariant.inside c.push_rest.new.work.items c.in_ok-push_rest.ensures in
    let says = says-along h (value h c.argument.result) (value h c.argument-in-Some.result) (term h r.left) (term h r.right) (Arguments c.in-Arguments.inner) c.argument.ensures.same c.argument-in-Some.ensures.same c.in-Arguments.ensures in
    record {
      inside = runs-more h c.args.work.now.items c.runs.work.items c.push_rest.new.work.items r.left r.right left c.runs.invariant.same c.in-Arguments.inner says c.push.new.self.items c.in_ok-push-in-Arguments.ensures.items;
      same = on-more h c.args.work.now.items c.runs.work.items c.push_rest.new.work.items r.left r.right left c.runs.invariant.same c.in-Arguments.inner says c.push.new.self.items c.in_ok-push-in-Arguments.ensures.items;
    }

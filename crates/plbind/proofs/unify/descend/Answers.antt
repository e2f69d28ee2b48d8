use Rattle.std.proofs.Common.{◌+◌, arith, subst}
use Rattle.std.proofs.lemmas.List.{nil_from_length}
use Rattle.plcells.specs.Store.{term, value}
use Rattle.plbind.specs.declared.unify.Verdict.TheVariants.{Same, Clash, Binds, Args}
use Rattle.plbind.specs.Unifying.{IsVerdict, Leaves}
use Rattle.plbind.proofs.Verdicts.{says-along}
use Rattle.plbind.proofs.Work.{taken_inside, taken_left, taken_right, taken_lighter, equal_same, equal_args, inside_args, lighter_args, leaves_clash, leaves_near, leaves_none, Equal}
use Rattle.plbind.proofs.unify.descend.Goals as goal

pub argument-requires-clause-within : goal.argument-requires-clause-within
argument-requires-clause-within c = (taken_left c.args.heap.now c.args.work.now.items c.loop-pair.work.items c.pop.new.self.items c.in-Some.pair.0 c.in-Some.pair.1 c.in-Some.ensures.items c.loop-pair.invariant.inside).0

pub argument-requires-clause-plain : goal.argument-requires-clause-plain
argument-requires-clause-plain c = (taken_left c.args.heap.now c.args.work.now.items c.loop-pair.work.items c.pop.new.self.items c.in-Some.pair.0 c.in-Some.pair.1 c.in-Some.ensures.items c.loop-pair.invariant.inside).1

pub argument-requires-in-Some-clause-within : goal.argument-requires-in-Some-clause-within
argument-requires-in-Some-clause-within c = (taken_right c.args.heap.now c.args.work.now.items c.loop-pair.work.items c.pop.new.self.items c.in-Some.pair.0 c.in-Some.pair.1 c.in-Some.ensures.items c.loop-pair.invariant.inside).0

pub argument-requires-in-Some-clause-plain : goal.argument-requires-in-Some-clause-plain
argument-requires-in-Some-clause-plain c = (taken_right c.args.heap.now c.args.work.now.items c.loop-pair.work.items c.pop.new.self.items c.in-Some.pair.0 c.in-Some.pair.1 c.in-Some.ensures.items c.loop-pair.invariant.inside).1

pub loop-pair-smaller-in-Same : goal.loop-pair-smaller-in-Same
loop-pair-smaller-in-Same c = taken_lighter c.args.heap.now c.args.work.now.items c.loop-pair.work.items c.pop.new.self.items c.in-Some.pair.0 c.in-Some.pair.1 c.in-Some.ensures.items

pub loop-pair-preserved-in-Same : goal.loop-pair-preserved-in-Same
unfolding IsVerdict
loop-pair-preserved-in-Same c =
    let h = c.args.heap.now in
    let says = says-along h (value h c.argument.result) (value h c.argument-in-Some.result) (term h c.in-Some.pair.0) (term h c.in-Some.pair.1) Same c.argument.ensures.same c.argument-in-Some.ensures.same c.in-Same.ensures in
    record {
      inside = taken_inside h c.args.work.now.items c.loop-pair.work.items c.pop.new.self.items c.in-Some.pair.0 c.in-Some.pair.1 c.in-Some.ensures.items c.loop-pair.invariant.inside;
      same = equal_same h c.args.work.now.items c.loop-pair.work.items c.pop.new.self.items c.in-Some.pair.0 c.in-Some.pair.1 c.in-Some.ensures.items says c.loop-pair.invariant.same;
    }

pub arg-requires : goal.arg-requires
unfolding IsVerdict
arg-requires c = omega (arith, c.in-Args.ensures.left, c.in-Args.ensures.few)

pub arg-requires-in-Args : goal.arg-requires-in-Args
unfolding IsVerdict
arg-requires-in-Args c = omega (arith, c.in-Args.ensures.right, c.in-Args.ensures.few)

pub push_pairs-requires-clause-left : goal.push_pairs-requires-clause-left
unfolding IsVerdict
push_pairs-requires-clause-left c = omega (arith, c.in-Args.ensures.left, c.in-Args.ensures.few)

pub push_pairs-requires-clause-right : goal.push_pairs-requires-clause-right
unfolding IsVerdict
push_pairs-requires-clause-right c = omega (arith, c.in-Args.ensures.right, c.in-Args.ensures.few)

pub loop-pair-smaller : goal.loop-pair-smaller
unfolding IsVerdict
loop-pair-smaller c =
    let h = c.args.heap.now in
    let says = says-along h (value h c.argument.result) (value h c.argument-in-Some.result) (term h c.in-Some.pair.0) (term h c.in-Some.pair.1) (Args c.in-Args.p c.in-Args.q c.in-Args.k) c.argument.ensures.same c.argument-in-Some.ensures.same c.in-Args.ensures in
    rw (c.in_ok-push_pairs-in-Args.ensures, c.arg.ensures, c.arg-in-Args.ensures) (
    lighter_args h c.args.work.now.items c.loop-pair.work.items c.pop.new.self.items c.in-Some.pair.0 c.in-Some.pair.1 c.in-Some.ensures.items c.in-Args.p c.in-Args.q c.in-Args.k (c.in-Args.p + 1) (c.in-Args.q + 1) says (omega arith) (omega arith))

pub loop-pair-preserved : goal.loop-pair-preserved
unfolding IsVerdict
loop-pair-preserved c =
    let h = c.args.heap.now in
    let says = says-along h (value h c.argument.result) (value h c.argument-in-Some.result) (term h c.in-Some.pair.0) (term h c.in-Some.pair.1) (Args c.in-Args.p c.in-Args.q c.in-Args.k) c.argument.ensures.same c.argument-in-Some.ensures.same c.in-Args.ensures in
    rw (c.in_ok-push_pairs-in-Args.ensures, c.arg.ensures, c.arg-in-Args.ensures) (record {
      inside = inside_args h c.args.work.now.items c.loop-pair.work.items c.pop.new.self.items c.in-Some.pair.0 c.in-Some.pair.1 c.in-Some.ensures.items c.in-Args.p c.in-Args.q c.in-Args.k (c.in-Args.p + 1) (c.in-Args.q + 1) says (omega arith) (omega arith) c.loop-pair.invariant.inside;
      same = equal_args h c.args.work.now.items c.loop-pair.work.items c.pop.new.self.items c.in-Some.pair.0 c.in-Some.pair.1 c.in-Some.ensures.items c.in-Args.p c.in-Args.q c.in-Args.k (c.in-Args.p + 1) (c.in-Args.q + 1) says (omega arith) (omega arith) c.loop-pair.invariant.same;
    })

pub returns-in-Clash-clause-inside : goal.returns-in-Clash-clause-inside
returns-in-Clash-clause-inside c = taken_inside c.args.heap.now c.args.work.now.items c.loop-pair.work.items c.pop.new.self.items c.in-Some.pair.0 c.in-Some.pair.1 c.in-Some.ensures.items c.loop-pair.invariant.inside

pub returns-in-Clash-clause-leaves : goal.returns-in-Clash-clause-leaves
unfolding IsVerdict Leaves
returns-in-Clash-clause-leaves c =
    let h = c.args.heap.now in
    let says = says-along h (value h c.argument.result) (value h c.argument-in-Some.result) (term h c.in-Some.pair.0) (term h c.in-Some.pair.1) Clash c.argument.ensures.same c.argument-in-Some.ensures.same c.in-Clash.ensures in
    leaves_clash h c.args.work.now.items c.loop-pair.work.items c.pop.new.self.items c.in-Some.pair.0 c.in-Some.pair.1 c.in-Some.ensures.items c.loop-pair.invariant.same says

pub returns-in-Binds-clause-inside : goal.returns-in-Binds-clause-inside
returns-in-Binds-clause-inside c = taken_inside c.args.heap.now c.args.work.now.items c.loop-pair.work.items c.pop.new.self.items c.in-Some.pair.0 c.in-Some.pair.1 c.in-Some.ensures.items c.loop-pair.invariant.inside

pub returns-in-Binds-clause-leaves : goal.returns-in-Binds-clause-leaves
unfolding IsVerdict Leaves
returns-in-Binds-clause-leaves c =
    let h = c.args.heap.now in
    let says = says-along h (value h c.argument.result) (value h c.argument-in-Some.result) (term h c.in-Some.pair.0) (term h c.in-Some.pair.1) (Binds c.in-Binds.x c.in-Binds.v) c.argument.ensures.same c.argument-in-Some.ensures.same c.in-Binds.ensures in
    leaves_near h c.args.work.now.items c.loop-pair.work.items c.pop.new.self.items c.in-Some.pair.0 c.in-Some.pair.1 c.in-Some.ensures.items c.in-Binds.x c.in-Binds.v c.loop-pair.invariant.same says

pub returns-clause-leaves : goal.returns-clause-leaves
unfolding Leaves
returns-clause-leaves c =
    let none = nil_from_length c.loop-pair.work.items (omega (arith, c.in_default.ensures.cases, c.loop-pair.work.ok.0)) in
    leaves_none c.args.heap.now c.args.work.now.items (subst (λ w. Equal c.args.heap.now c.args.work.now.items w) none c.loop-pair.invariant.same)

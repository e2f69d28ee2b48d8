use Rattle.std.proofs.Common.{length, sym, ap, subst, arith}
use Rattle.plcells.specs.Store.{AreValues}
use Rattle.plgoals.specs.Callables.{IsNoGoal}
use Rattle.plgoals.proofs.Calling.{compound-callable, compound-few, end-no-goal}
use Rattle.plgoals.proofs.callable.arguments_of.Goals as goal

pub returns-in_ok-read_arguments-in-Str-clause-callable : goal.returns-in_ok-read_arguments-in-Str-clause-callable
returns-in_ok-read_arguments-in-Str-clause-callable c = compound-callable c.args.heap.now c.in-Str.p c.block-f.result.0 c.block-f.result.1 c.read_arguments.new.args.items c.block-f.ensures.heap c.block-f.ensures.block c.in_ok-read_arguments-in-Str.ensures

pub returns-in_ok-read_arguments-in-Str-clause-few : goal.returns-in_ok-read_arguments-in-Str-clause-few
returns-in_ok-read_arguments-in-Str-clause-few c = compound-few c.args.heap.now c.in-Str.p c.block-f.result.0 c.block-f.result.1 c.read_arguments.new.args.items c.block-f.ensures.heap c.block-f.ensures.block c.in_ok-read_arguments-in-Str.ensures

pub returns-in_default : goal.returns-in_default
returns-in_default c =
    let h = c.args.heap.now in
    let e = c.root.ensures in
    record {
      callable = tt;
      is = tt;
      none = subst IsNoGoal e.same (end-no-goal h c.root.result e.heap e.end c.in_default.not-Atom c.in_default.not-Str);
      values = subst (AreValues h) (sym c.clear.ensures.items) tt;
      few = omega (arith, ap length c.clear.ensures.items);
    }

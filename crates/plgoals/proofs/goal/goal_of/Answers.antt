use Rattle.std.proofs.Common.{◌∙◌, ap, sym, refl, Some}
use Rattle.plcells.proofs.Putting.{Preserves-refl, adds-none}
use Rattle.plgoals.specs.Goals.{IsKind}
use Rattle.plgoals.proofs.goal.goal_of.Goals as goal

pub returns-in_err-is_own_goal-in-Construct-clause-preserves : goal.returns-in_err-is_own_goal-in-Construct-clause-preserves
returns-in_err-is_own_goal-in-Construct-clause-preserves c = Preserves-refl c.args.heap.now

pub returns-then-branch-clause-adds : goal.returns-then-branch-clause-adds
returns-then-branch-clause-adds c = adds-none c.args.heap.now

pub returns-then-branch-clause-preserves : goal.returns-then-branch-clause-preserves
returns-then-branch-clause-preserves c = Preserves-refl c.args.heap.now

pub returns-in-Number-clause-adds : goal.returns-in-Number-clause-adds
returns-in-Number-clause-adds c = adds-none c.args.heap.now

pub returns-in-Number-clause-preserves : goal.returns-in-Number-clause-preserves
returns-in-Number-clause-preserves c = Preserves-refl c.args.heap.now

pub returns-in-Goal-clause-adds : goal.returns-in-Goal-clause-adds
returns-in-Goal-clause-adds c = adds-none c.args.heap.now

pub returns-in-Goal-clause-preserves : goal.returns-in-Goal-clause-preserves
returns-in-Goal-clause-preserves c = Preserves-refl c.args.heap.now

pub returns-then-branch-clause-some : goal.returns-then-branch-clause-some
unfolding IsKind
returns-then-branch-clause-some c =
    let is = c.in-Construct.ensures.0 in
    record { is = c.in_ok-is_own_goal-in-Construct.ensures c.if-branch.true ∙ ap Some is; fits = c.in-Construct.ensures.1.fits }

pub returns-in-Number-clause-none : goal.returns-in-Number-clause-none
unfolding IsKind
returns-in-Number-clause-none c = (c.in-Number.ensures, refl)

pub returns-in-Goal-clause-some : goal.returns-in-Goal-clause-some
unfolding IsKind
returns-in-Goal-clause-some c = record { is = c.in-Goal.ensures.2 ∙ ap Some (sym c.in-Goal.ensures.1); fits = c.in-Goal.ensures.0 }

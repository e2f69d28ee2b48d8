use Rattle.std.proofs.Common.{ap, arith, inr, subst}
use Rattle.plsolver.specs.Solver.{IsSelected}
use Rattle.plsolver.proofs.progress.Progress.past_conjunction.Goals as goal

pub pass_both-requires-clause-first : goal.pass_both-requires-clause-first
pass_both-requires-clause-first c = subst (IsSelected c.args.self.now.machine) c.in-Both.is c.requires.first

pub pass_both-requires-clause-within : goal.pass_both-requires-clause-within
pass_both-requires-clause-within c = omega (arith, c.requires.left, c.requires.within)

pub returns-in-Both-clause-left : goal.returns-in-Both-clause-left
returns-in-Both-clause-left c = omega (arith, c.requires.left, c.if-self-until.false, ap (λ x. x.used) c.pass_both.ensures.frame)

pub returns-in-Both-clause-rises : goal.returns-in-Both-clause-rises
returns-in-Both-clause-rises c = omega (arith, ap (λ x. x.used) c.pass_both.ensures.frame)

pub returns-in-Both-clause-goes : goal.returns-in-Both-clause-goes
returns-in-Both-clause-goes c = λ P. (c.pass_both.ensures.steps P).stepped.goes

pub returns-in-Both-clause-limit : goal.returns-in-Both-clause-limit
returns-in-Both-clause-limit c = ap (λ x. x.limit) c.pass_both.ensures.frame

pub returns-in-Both-clause-places : goal.returns-in-Both-clause-places
returns-in-Both-clause-places c = ap (λ x. x.places.items) c.pass_both.ensures.frame

pub returns-in-Both-clause-steps : goal.returns-in-Both-clause-steps
returns-in-Both-clause-steps c = inr c.pass_both.ensures.steps

use Rattle.std.proofs.Common.{◌≡◌, None, Some, subst, sym, ◌∙◌}
use Rattle.plstack.specs.declared.frame.Spot.{Spot}
use Rattle.plstack.specs.Walks.{IsWalking}
use Rattle.plstack.proofs.Going.{place-framed}
use Rattle.plstack.proofs.Walking.{same-spot}
use Rattle.plstack.proofs.stack.Stack.go_on_walk.Goals as goal

pub returns-in-None-clause-goes : goal.returns-in-None-clause-goes
returns-in-None-clause-goes c = rw c.in-None.is c.end_walk.ensures.goes

pub returns-in-None-clause-moves : goal.returns-in-None-clause-moves
returns-in-None-clause-moves c = rw c.in-None.is c.end_walk.ensures.moves

pub returns-in-None-clause-same : goal.returns-in-None-clause-same
returns-in-None-clause-same c spot is = let e : None ≡ Some spot = sym c.in-None.is ∙ is in absurd cc

pub returns-in-None-clause-walking : goal.returns-in-None-clause-walking
returns-in-None-clause-walking c p w on spot is = let e : None ≡ Some spot = sym c.in-None.is ∙ is in absurd cc

pub returns-in-Some-clause-place : goal.returns-in-Some-clause-place
returns-in-Some-clause-place c = place-framed c.args.self.now c.replace_walk.new.self c.replace_walk.ensures.same

pub returns-in-Some-clause-walking : goal.returns-in-Some-clause-walking
returns-in-Some-clause-walking c p w on spot is = subst (λ (x : Spot). IsWalking c.replace_walk.new.self p (record w { spot = x })) (same-spot c.in-Some.spot spot (sym c.in-Some.is ∙ is)) (c.replace_walk.ensures.walking p w on)

pub returns-in-Some-clause-goes : goal.returns-in-Some-clause-goes
returns-in-Some-clause-goes c = rw c.in-Some.is c.replace_walk.ensures.goes

pub returns-in-Some-clause-moves : goal.returns-in-Some-clause-moves
returns-in-Some-clause-moves c = rw c.in-Some.is c.replace_walk.ensures.moves

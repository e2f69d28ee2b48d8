use Rattle.std.proofs.Common.{◌∙◌, refl}
use Rattle.plstack.specs.Places.{clause_by}
use Rattle.plstack.proofs.Stacks.{inside}
use Rattle.plstack.proofs.Going.{level-of}
use Rattle.plstack.proofs.Reopening.{on_err}
use Rattle.plstack.proofs.Walking.{at-framed, at-walking, each-walk, fitted-at, plain-end, value-framed, was-left, went-in, went-past}
use Rattle.plstack.proofs.Ending.{moves-between}
use Rattle.plstack.proofs.stack.Stack.try_walk.Goals as goal

pub is_apart-requires : goal.is_apart-requires
is_apart-requires c = (at-walking (inside c.self.inside) c.requires.at.0 c.in-Some.at.point c.requires.at.1 c.in-Some.at.walk (rw (← c.self.view_is) at c.requires.at.2) (rw (← c.self.view_is) at c.in-Some.ensures.some)).goal

pub go_on_walk-requires-clause-walking : goal.go_on_walk-requires-clause-walking
go_on_walk-requires-clause-walking c = (c.in-Some.at.point, c.in-Some.at.walk, c.in-Some.ensures.some)

pub go_on_walk-requires-2-clause-walking : goal.go_on_walk-requires-2-clause-walking
go_on_walk-requires-2-clause-walking c = (c.requires.at.0, c.requires.at.1, (c.in_ok-fits.ensures.left c.requires.at.0 c.requires.at.1 c.requires.at.2).walking)

pub returns-then-is_apart-clause-none : goal.returns-then-is_apart-clause-none
returns-then-is_apart-clause-none c =
    let s = c.args.self.now in
    let q = c.in-Some.at.point in
    let u = c.in-Some.at.walk in
    each-walk _ s q u c.in-Some.ensures.some
    (λ at db finds.
    went-past db s s c.go_on_walk.new.self q u at refl (λ d xs. refl) c.args.next.now c.args.rest (c.go_on_walk.ensures.goes q u at.walking db) finds (rw (← c.self.view_is) (c.is_apart.ensures c.if-is_apart.true)))

pub returns-then-is_apart-clause-last : goal.returns-then-is_apart-clause-last
returns-then-is_apart-clause-last c = λ none db.
    plain-end db c.args.self.now c.go_on_walk.new.self c.in-Some.at.point c.in-Some.at.walk c.args.rest none (c.go_on_walk.ensures.goes c.in-Some.at.point c.in-Some.at.walk c.in-Some.ensures.some db)

pub returns-then-is_apart-clause-at_next : goal.returns-then-is_apart-clause-at_next
returns-then-is_apart-clause-at_next c = λ p w at spot is.
    at-framed c.args.self.now c.go_on_walk.new.self p w spot (c.go_on_walk.ensures.same spot is) (c.go_on_walk.ensures.walking p w at.walking spot is) at

pub returns-then-is_apart-clause-values : goal.returns-then-is_apart-clause-values
returns-then-is_apart-clause-values c = λ p w at spot is. value-framed c.args.self.now c.go_on_walk.new.self w.goal (c.go_on_walk.ensures.same spot is)

pub returns-then-is_apart-clause-moves : goal.returns-then-is_apart-clause-moves
returns-then-is_apart-clause-moves c = λ p w at. c.go_on_walk.ensures.moves p w at.walking

pub returns-in_err-fits-clause-err : goal.returns-in_err-fits-clause-err
returns-in_err-fits-clause-err c = on_err _ c.from_residual.result c.fit_walk.ensures.cases

pub returns-then-not-fits-clause-none : goal.returns-then-not-fits-clause-none
returns-then-not-fits-clause-none c = λ p w at db finds.
    let left = c.in_ok-fits.ensures.left p w at in
    went-past db c.args.self.now c.fit_walk.new.self c.go_on_walk-2.new.self p w at (c.fit_walk.ensures.cases db) left.left c.args.next.now c.args.rest (c.go_on_walk-2.ensures.goes p w left.walking db) finds
    (c.in_ok-fits.ensures.no c.if-not-fits.true p w at)

pub returns-then-not-fits-clause-last : goal.returns-then-not-fits-clause-last
returns-then-not-fits-clause-last c = λ none db.
    let at = c.requires.at in
    plain-end db c.fit_walk.new.self c.go_on_walk-2.new.self at.0 at.1 c.args.rest none (c.go_on_walk-2.ensures.goes at.0 at.1 (c.in_ok-fits.ensures.left at.0 at.1 at.2).walking db)

pub returns-then-not-fits-clause-at_next : goal.returns-then-not-fits-clause-at_next
returns-then-not-fits-clause-at_next c = λ p w at spot is.
    at-framed c.fit_walk.new.self c.go_on_walk-2.new.self p w spot (c.go_on_walk-2.ensures.same spot is) (c.go_on_walk-2.ensures.walking p w (c.in_ok-fits.ensures.left p w at).walking spot is) (c.in_ok-fits.ensures.at c.if-not-fits.true p w at)

pub returns-then-not-fits-clause-values : goal.returns-then-not-fits-clause-values
returns-then-not-fits-clause-values c = λ p w at spot is.
    value-framed c.fit_walk.new.self c.go_on_walk-2.new.self w.goal (c.go_on_walk-2.ensures.same spot is) ∙ c.in_ok-fits.ensures.value c.if-not-fits.true p w at

pub returns-clause-some : goal.returns-clause-some
returns-clause-some c = λ p w at db finds.
    let s = c.args.self.now in
    let left = c.in_ok-fits.ensures.left p w at in
    let goes = c.go_on_walk-2.ensures.goes p w left.walking db in
    let was = was-left db s c.fit_walk.new.self c.go_on_walk-2.new.self p w at (c.fit_walk.ensures.cases db) left.left c.args.next.now c.args.rest goes finds in
    let level = c.down-level.ensures ∙ level-of db (inside c.self.inside) s c.self.inside.depth c.self.invariant c.self.view_is _ goes.below was in
    went-in db s c.fit_walk.new.self c.go_on_walk-2.new.self p w at (c.fit_walk.ensures.cases db) left.left c.args.next.now c.args.rest goes finds
    (fitted-at c.args.self.now c.fit_walk.new.self p w _ _ level (clause_by c.args.next.now.uses c.args.next.now.clause) (c.in_ok-fits.ensures.yes c.if-not-fits.false p w at)) c.go_on_walk-2.ensures.place

pub returns-then-not-fits-clause-moves : goal.returns-then-not-fits-clause-moves
returns-then-not-fits-clause-moves c = λ p w at.
    moves-between c.args.self.now c.fit_walk.new.self c.go_on_walk-2.new.self c.go_on_walk-2.new.self w c.args.rest c.fit_walk.ensures.frames refl (c.go_on_walk-2.ensures.moves p w (c.in_ok-fits.ensures.left p w at).walking)

pub returns-clause-moves : goal.returns-clause-moves
returns-clause-moves c = λ p w at.
    moves-between c.args.self.now c.fit_walk.new.self c.go_on_walk-2.new.self c.go_on_walk-2.new.self w c.args.rest c.fit_walk.ensures.frames refl (c.go_on_walk-2.ensures.moves p w (c.in_ok-fits.ensures.left p w at).walking)

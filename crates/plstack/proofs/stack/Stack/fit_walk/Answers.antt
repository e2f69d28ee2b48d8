use Rattle.std.proofs.Common.{refl, ◌∙◌}
use Rattle.plstack.specs.Places.{clause_by}
use Rattle.plstack.specs.State.{State, goals_of, kinds_in, place_of}
use Rattle.plstack.specs.Walks.{AtWalk}
use Rattle.plcells.specs.Store.{value}
use Rattle.plstack.proofs.Naming.{resolve-fits}
use Rattle.plstack.proofs.Reopening.{unchanged-stack, unchanged-extends}
use Rattle.plstack.proofs.Stacks.{inside}
use Rattle.plstack.proofs.Walking.{at-walking, each-walk, fits-goes, fitted-stack, fitted-cases, left-same, listed-cases, mark-there, walk-precedes, back-at, back-goes, back-value}
use Rattle.plstack.proofs.stack.Stack.fit_walk.Goals as goal
use Rattle.plstack.proofs.stack.Stack.fit_walk.Goals.{In-Some}

-- the walk that is read from the newest frame
read : (c : In-Some) → AtWalk (inside c.self.inside) c.in-Some.at.point c.in-Some.at.walk
read c =
    let at = c.requires.at in
    at-walking (inside c.self.inside) at.0 c.in-Some.at.point at.1 c.in-Some.at.walk (rw (← c.self.view_is) at at.2) (rw (← c.self.view_is) at c.in-Some.ensures.some)

pub resolve_clause-requires-clause-goal : goal.resolve_clause-requires-clause-goal
resolve_clause-requires-clause-goal c = (read (goal.at.resolve_clause-requires-clause-goal c).In-Some).goal

pub resolve_clause-requires-clause-mark : goal.resolve_clause-requires-clause-mark
resolve_clause-requires-clause-mark c = mark-there (inside c.self.inside) c.self.inside.depth c.self.invariant c.in-Some.at.point c.in-Some.at.walk (read (goal.at.resolve_clause-requires-clause-mark c).In-Some)

pub resolve_clause-requires-clause-now : goal.resolve_clause-requires-clause-now
resolve_clause-requires-clause-now c = (read (goal.at.resolve_clause-requires-clause-now c).In-Some).now

pub resolve_clause-requires-clause-rest : goal.resolve_clause-requires-clause-rest
resolve_clause-requires-clause-rest c = (read (goal.at.resolve_clause-requires-clause-rest c).In-Some).list.there

pub invariant_of-self-in-Some-2 : goal.invariant_of-self-in-Some-2
invariant_of-self-in-Some-2 c =
    let s : State = inside c.self.inside in
    let p = c.in-Some.at.point in
    let w = c.in-Some.at.walk in
    let level = rw (← c.self.view_is) at c.requires.level in
    let at = read (goal.at.invariant_of-self-in-Some-2 c).In-Some in
    let fits = (rw c.in-Some-2.is at c.in_ok-list.ensures.some) s c.self.invariant.0 refl refl at.list in
    fitted-stack s c.self.inside.depth c.self.invariant p w at c.resolve_clause.new.env c.resolve_clause.new.links.items (fits-goes s _ _ _ _ _ _ _ fits) c.in-Some-2.list fits.there
    (resolve-fits (kinds_in s) c.args.level s.env.count (value s.env.heap w.goal) (goals_of s p.list) (clause_by c.args.next.now.uses c.args.next.now.clause) (place_of (record s { env = c.resolve_clause.new.env; links = c.resolve_clause.new.links.items; goals = c.in-Some-2.list })) (walk-precedes s c.self.inside.depth c.self.invariant p w at c.args.level level) fits.place)

pub invariant_of-self-in-None : goal.invariant_of-self-in-None
invariant_of-self-in-None c = unchanged-stack (inside c.self.inside) c.self.inside.depth c.self.invariant c.resolve_clause.new.env c.resolve_clause.new.links.items c.resolve_clause.ensures.env (rw c.in-None.is at c.in_ok-list.ensures.back)

pub returns-in_err-list-clause-cases : goal.returns-in_err-list-clause-cases
returns-in_err-list-clause-cases c = λ db.
    rw (← c.self.view_is) ((unchanged-extends (inside c.self.inside) c.self.inside.depth c.self.invariant c.resolve_clause.new.env c.resolve_clause.new.links.items c.resolve_clause.ensures.env c.in_err-list.ensures.err).cases db)

pub invariant_of-self : goal.invariant_of-self
invariant_of-self c = unchanged-stack (inside c.self.inside) c.self.inside.depth c.self.invariant c.resolve_clause.new.env c.resolve_clause.new.links.items c.resolve_clause.ensures.env c.in_err-list.ensures.err

pub returns-in-Some-2-clause-yes : goal.returns-in-Some-2-clause-yes
returns-in-Some-2-clause-yes c _ =
    let s : State = inside c.self.inside in
    rw (← c.self.view_is)
    (each-walk _ s c.in-Some.at.point c.in-Some.at.walk (rw (← c.self.view_is) at c.in-Some.ensures.some)
    (λ at. ((rw c.in-Some-2.is at c.in_ok-list.ensures.some) s c.self.invariant.0 refl refl at.list).place))

pub returns-in-Some-2-clause-left : goal.returns-in-Some-2-clause-left
returns-in-Some-2-clause-left c =
    let s : State = inside c.self.inside in
    let p = c.in-Some.at.point in
    let w = c.in-Some.at.walk in
    rw (← c.self.view_is)
    (each-walk _ s p w (rw (← c.self.view_is) at c.in-Some.ensures.some)
    (λ at.
    let fits = (rw c.in-Some-2.is at c.in_ok-list.ensures.some) s c.self.invariant.0 refl refl at.list in
    left-same s c.self.inside.depth c.self.invariant p w at c.resolve_clause.new.env c.resolve_clause.new.links.items c.in-Some-2.list (fits-goes s _ _ _ _ _ _ _ fits)))

pub returns-in-Some-2-clause-cases : goal.returns-in-Some-2-clause-cases
returns-in-Some-2-clause-cases c = λ db.
    let s : State = inside c.self.inside in
    let p = c.in-Some.at.point in
    let w = c.in-Some.at.walk in
    let at = read (goal.at.returns-in-Some-2-clause-cases c).In-Some in
    let fits = (rw c.in-Some-2.is at c.in_ok-list.ensures.some) s c.self.invariant.0 refl refl at.list in
    rw (← c.self.view_is) (listed-cases db s c.resolve_clause.new.env c.resolve_clause.new.links.items c.in-Some-2.list ∙ fitted-cases s c.self.inside.depth c.self.invariant p w at c.resolve_clause.new.env c.resolve_clause.new.links.items (fits-goes s _ _ _ _ _ _ _ fits) db)

pub returns-in-None-clause-no : goal.returns-in-None-clause-no
returns-in-None-clause-no c _ =
    let s : State = inside c.self.inside in
    rw (← c.self.view_is) (each-walk _ s c.in-Some.at.point c.in-Some.at.walk (rw (← c.self.view_is) at c.in-Some.ensures.some) (λ at. rw c.in-None.is at c.in_ok-list.ensures.none))

pub returns-in-None-clause-left : goal.returns-in-None-clause-left
returns-in-None-clause-left c =
    let s : State = inside c.self.inside in
    let p = c.in-Some.at.point in
    let w = c.in-Some.at.walk in
    rw (← c.self.view_is)
    (each-walk _ s p w (rw (← c.self.view_is) at c.in-Some.ensures.some)
    (λ at. left-same s c.self.inside.depth c.self.invariant p w at c.resolve_clause.new.env c.resolve_clause.new.links.items s.goals (back-goes s c.self.inside.depth c.self.invariant p w at c.resolve_clause.new.env c.resolve_clause.new.links.items c.resolve_clause.ensures.env (rw c.in-None.is at c.in_ok-list.ensures.back))))

pub returns-in-None-clause-at : goal.returns-in-None-clause-at
returns-in-None-clause-at c _ =
    let s : State = inside c.self.inside in
    let p = c.in-Some.at.point in
    let w = c.in-Some.at.walk in
    rw (← c.self.view_is)
    (each-walk _ s p w (rw (← c.self.view_is) at c.in-Some.ensures.some)
    (λ at. back-at s c.self.inside.depth c.self.invariant p w at c.resolve_clause.new.env c.resolve_clause.new.links.items c.resolve_clause.ensures.env (rw c.in-None.is at c.in_ok-list.ensures.back)))

pub returns-in-None-clause-value : goal.returns-in-None-clause-value
returns-in-None-clause-value c _ =
    let s : State = inside c.self.inside in
    let p = c.in-Some.at.point in
    let w = c.in-Some.at.walk in
    rw (← c.self.view_is)
    (each-walk _ s p w (rw (← c.self.view_is) at c.in-Some.ensures.some)
    (λ at. back-value s c.self.inside.depth c.self.invariant p w at c.resolve_clause.new.env c.resolve_clause.new.links.items c.resolve_clause.ensures.env (rw c.in-None.is at c.in_ok-list.ensures.back)))

pub returns-in-None-clause-cases : goal.returns-in-None-clause-cases
returns-in-None-clause-cases c = λ db.
    rw (← c.self.view_is) ((unchanged-extends (inside c.self.inside) c.self.inside.depth c.self.invariant c.resolve_clause.new.env c.resolve_clause.new.links.items c.resolve_clause.ensures.env (rw c.in-None.is at c.in_ok-list.ensures.back)).cases db)

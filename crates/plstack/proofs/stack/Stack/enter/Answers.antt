use Rattle.std.proofs.Common.{ap, sym, subst, ◌∙◌, inr}
use Rattle.plsubst.specs.Subst.{bind}
use Rattle.plsearch.specs.Moves.{before_rest, is_true}
use Rattle.plenv.specs.Env.{over}
use Rattle.pllinks.specs.Links.{alone}
use Rattle.plstack.specs.State.{State, place_of, goals_of, kinds_in}
use Rattle.plstack.specs.Levels.{FitsIn}
use Rattle.plstack.proofs.Naming.{before-fits}
use Rattle.plstack.proofs.Entering.{enters-precede}
use Rattle.plstack.proofs.Stacks.{inside}
use Rattle.plstack.proofs.Going.{goes_visited, level-of}
use Rattle.plstack.proofs.stack.Stack.enter.Goals as goal

pub returns-clause-enters : goal.returns-clause-enters
returns-clause-enters c = λ db.
    let s : State = c.args.self.now in
    let goes = goes_visited db s c.go_on.new.self c.body_list-list.result c.args.at.point c.args.at.call c.args.hit.next (rw c.visit.ensures.is at (c.go_on.ensures.goes db)) in
    let level = level-of db (inside c.self.inside) s c.self.inside.depth c.self.invariant c.self.view_is _ goes.below goes.was in
    record {
      goes = goes;
      place = λ x code.
          c.go_on.ensures.place
          ∙ ap place_of c.visit.ensures.is
          ∙ ap (λ gs. record { goals = gs; variables = s.env.count }) (c.body_list-list.ensures.is x code)
          ∙ ap (λ l. record { goals = before_rest (is_true x.body) l (bind (over s.env c.args.hit.base) x.body) (goals_of s (alone c.args.behind)); variables = s.env.count }) (c.down-level.ensures ∙ level);
    }

pub visit-requires-clause-fits : goal.visit-requires-clause-fits
visit-requires-clause-fits c =
    let s : State = inside c.self.inside in
    let h = rw (← c.self.view_is) at c.requires.hit in
    let f = rw (← c.self.view_is) at c.requires.fits in
    let calling = rw (← c.self.view_is) at c.requires.calling in
    let goals = rw (← c.self.view_is) at (c.body_list-list.ensures.is c.requires.hit.0 c.requires.hit.1) in
    let p = enters-precede s c.self.inside.depth c.self.invariant c.args.at.point c.args.at.call calling _ c.down-level.ensures (goals_of s (alone c.args.behind)) f in
    rw (← c.self.view_is) (inr (subst (FitsIn (kinds_in s)) (sym goals) (before-fits (kinds_in s) _ _ _ (goals_of s (alone c.args.behind)) p)))

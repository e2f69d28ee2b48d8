use Rattle.std.proofs.Common.{sym, subst, refl}
use Rattle.plcells.specs.Store.{value}
use Rattle.plstack.specs.StaticCalls.{database_of}
use Rattle.plstack.specs.Walks.{GoesOn, Moves}
use Rattle.plstack.proofs.Walking.{each-walk}
use Rattle.plviews.specs.declared.lookup.Reach.TheVariants as reaches
use Rattle.plmachine.specs.Machine.{IsPlain}
use Rattle.plsolver.specs.Knowing.{StepsFound}
use Rattle.plsolver.proofs.Asked.{walk-found}
use Rattle.plsolver.proofs.Behind.{behind-left}
use Rattle.plsolver.proofs.Trying.{same-cases, went-on}
use Rattle.plsolver.proofs.Walking.{behind-viewed, looks-viewed}
use Rattle.plsolver.proofs.progress.Progress.walked_behind.Goals as goal

pub go_on_walk-requires-clause-walking : goal.go_on_walk-requires-clause-walking
go_on_walk-requires-clause-walking c = (c.in-Some.at.point, c.in-Some.at.walk, c.in-Some.ensures.some)

pub returns-clause-ok : goal.returns-clause-ok
returns-clause-ok c = λ P v cur.
    let s = c.args.self.now.machine in
    let st = c.go_on_walk.new.self in
    let q = c.in-Some.at.point in
    let u = c.in-Some.at.walk in
    let g = c.args.view in
    let db = database_of P v s.layer.own.updates in
    let step = subst (λ h. StepsFound s.layer.own.updates h g c.args.found c.in_ok-step.step) c.head_at.ensures.is c.in_ok-step.ensures in
    each-walk _ s.stack q u c.in-Some.ensures.some
    (λ at ordered looks e.
    record {
      used = refl;
      limit = refl;
      rest = went-on P v s st c.requires.fails
          (same-cases db s.stack st q u _ at
          (subst (GoesOn db s.stack st q u) c.spot_behind-spot.ensures (c.go_on_walk.ensures.goes q u at.walking db))
          (behind-left db u.uses (value s.stack.env.heap u.goal) g u.spot (reaches.Base cur) c.in_ok-step.step looks (step.tells (v g.place) cur (ordered.ordered g.place) (ordered.under g.place) e)));
    })

pub returns-clause-asked : goal.returns-clause-asked
returns-clause-asked c = λ v cur.
    let s = c.args.self.now.machine in
    let st = c.go_on_walk.new.self in
    let q = c.in-Some.at.point in
    let u = c.in-Some.at.walk in
    let g = c.args.view in
    let step = subst (λ h. StepsFound s.layer.own.updates h g c.args.found c.in_ok-step.step) c.head_at.ensures.is c.in_ok-step.ensures in
    each-walk _ s.stack q u c.in-Some.ensures.some
    (λ at ordered looks e.
    walk-found v u s (record s { stack = st }) (subst IsPlain (sym c.requires.fails) tt) (looks-viewed u.spot g (reaches.Base cur) looks) g cur c.args.found c.in_ok-step.step looks
    (λ x is. behind-viewed u.spot x g (reaches.Base cur) c.in_ok-step.step looks is) (ordered.ordered g.place) (sym e) step.leads (subst (Moves s.stack st u) c.spot_behind-spot.ensures (c.go_on_walk.ensures.moves q u at.walking)))

use Rattle.std.proofs.Common.{◌≡◌, subst}
use Rattle.std.specs.Prelude.{IfOk}
use Rattle.plstore.specs.declared.query.Found.{Found}
use Rattle.plworld.proofs.Push.{look-now}
use Rattle.plworld.proofs.world.World.look.Goals as goal

pub returns : goal.returns
returns c =
    let w = c.self.inside in
    rw (← c.self.view_is) (subst (λ (v : Found). IfOk c.look.result (λ f. f ≡ v)) (look-now c.args.g c.args.query.now w.journal.items w.standing w.store c.self.invariant) c.look.ensures)

use Rattle.std.proofs.Common.{ap, sym, ◌∙◌}
use Rattle.pltx.specs.Own.{all_made}
use Rattle.plviews.specs.Layers.{Layered}
use Rattle.plmachine.specs.declared.machine.Mode.TheVariants as modes
use Rattle.plmachine.proofs.Updating.{makes}
use Rattle.plmachine.proofs.machine.Machine.publish.Goals as goal

pub returns-then-is_open-clause-ok : goal.returns-then-is_open-clause-ok
returns-then-is_open-clause-ok c P =
    let s = c.args.self.now in
    makes P s c.go_on.new.self c.args.updates.items c.args.rest (sym c.if-is_open.ensures) c.requires.tied c.go_on.ensures.own
    (c.go_on.ensures.is ∙ ap (λ (x : Layered). record s { layer = x; stack = record s.stack { goals = c.args.rest }; mode = modes.Visit }) (c.in_ok-make.ensures.made ∙ ap (λ us. record s.layer { own = all_made us s.layer.own }) c.deref.ensures.value))

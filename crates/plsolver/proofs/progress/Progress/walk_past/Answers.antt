use Rattle.std.proofs.Common.{◌∙◌, sym, subst}
use Rattle.plsolver.specs.Going.{WalkedTo}
use Rattle.plsolver.proofs.Asked.{ahead-further, moves-further}
use Rattle.plsolver.proofs.Walking.{ahead-viewed, known-viewed, over, walks-past}
use Rattle.plsolver.proofs.progress.Progress.walk_past.Goals as goal

pub returns-clause-to : goal.returns-clause-to
returns-clause-to c =
    let s = c.args.self.now.machine in
    let p = c.requires.gone in
    subst (WalkedTo s (over s c.go_on_walk.new.self) c.args.at.now) (sym c.walked_to.ensures)
    (walks-past s c.go_on_walk.new.self c.args.at.now c.requires.at p.0 p.1 p.2 p.3 c.args.rest p.4 p.5 c.requires.seen (c.go_on_walk.ensures.goes c.args.at.now.point c.args.at.now.walk c.requires.at.walking) c.go_on_walk.ensures.basis c.go_on_walk.ensures.same (c.go_on_walk.ensures.walking c.args.at.now.point c.args.at.now.walk c.requires.at.walking))

pub returns-clause-walks : goal.returns-clause-walks
returns-clause-walks c =
    let p = c.requires.gone in
    moves-further c.args.self.now.machine.stack c.go_on_walk.new.self c.args.at.now.walk c.args.rest (known-viewed c.args.at.now.walk.spot p.0 p.1 p.2 p.3) (c.go_on_walk.ensures.moves c.args.at.now.point c.args.at.now.walk c.requires.at.walking)
    (λ z e.
    let is = sym p.4 ∙ e in
    (ahead-viewed p.0 p.2 z is, ahead-further c.args.at.now.walk z p.0 p.1 p.2 p.3 is))

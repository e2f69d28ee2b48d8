use Rattle.std.proofs.Common.{◌∙◌, refl, sym}
use Rattle.plsolver.proofs.Asked.{behind-further, moves-further}
use Rattle.plsolver.proofs.Behind.{not-asks}
use Rattle.plsolver.proofs.Walking.{asks-behind, behind-viewed, ends-behind, looks-viewed, walks-behind}
use Rattle.plsolver.proofs.progress.Progress.walk_behind.Goals as goal

pub returns-in_default-clause-to : goal.returns-in_default-clause-to
returns-in_default-clause-to c =
    let p = c.requires.step in
    ends-behind c.args.self.now.machine c.go_on_walk.new.self c.args.at.now c.requires.at p.0 p.1 p.2 c.args.step p.3 (sym c.spot_behind.ensures ∙ c.in_default.is) (c.go_on_walk.ensures.goes c.args.at.now.point c.args.at.now.walk c.requires.at.walking)

pub returns-in_default-clause-walks : goal.returns-in_default-clause-walks
returns-in_default-clause-walks c =
    let p = c.requires.step in
    moves-further c.args.self.now.machine.stack c.go_on_walk.new.self c.args.at.now.walk _ (looks-viewed c.args.at.now.walk.spot p.0 p.1 p.2) (c.go_on_walk.ensures.moves c.args.at.now.point c.args.at.now.walk c.requires.at.walking) (λ x e. absurd (cc))

pub returns-in-Next : goal.returns-in-Next
returns-in-Next c =
    let s = c.args.self.now.machine in
    let p = c.requires.step in
    let is = sym c.spot_behind.ensures ∙ c.in-Some.is in
    let st = c.go_on_walk-2.new.self in
    record {
      to = walks-behind s st c.args.at.now c.requires.at p.0 p.1 p.2 c.args.step p.3 c.in-Some.spot is (not-asks c.args.step c.in-Next.is) c.requires.seen (c.go_on_walk-2.ensures.goes c.args.at.now.point c.args.at.now.walk c.requires.at.walking) (c.go_on_walk-2.ensures.same c.in-Some.spot refl) (c.go_on_walk-2.ensures.walking c.args.at.now.point c.args.at.now.walk c.requires.at.walking c.in-Some.spot refl);
      basis = c.go_on_walk-2.ensures.basis;
      frame = refl;
      walks = moves-further s.stack st c.args.at.now.walk _ (looks-viewed c.args.at.now.walk.spot p.0 p.1 p.2) (c.go_on_walk-2.ensures.moves c.args.at.now.point c.args.at.now.walk c.requires.at.walking)
          (λ x e.
          let is = sym c.spot_behind.ensures ∙ c.in-Some.is ∙ e in
          (behind-viewed c.args.at.now.walk.spot x p.0 p.1 c.args.step p.2 is, behind-further c.args.at.now.walk x p.0 p.1 c.args.step p.2 p.3.leads is));
    }

pub returns-in-Asks-clause-to : goal.returns-in-Asks-clause-to
returns-in-Asks-clause-to c =
    let p = c.requires.step in
    asks-behind c.args.self.now.machine c.go_on_walk-2.new.self c.args.at.now c.requires.at p.0 p.1 p.2 c.args.step p.3 c.in-Some.spot c.in-Asks.field-0 c.in-Asks.is (sym c.spot_behind.ensures ∙ c.in-Some.is) c.requires.fails (c.go_on_walk-2.ensures.goes c.args.at.now.point c.args.at.now.walk c.requires.at.walking)
    (c.go_on_walk-2.ensures.same c.in-Some.spot refl) (c.go_on_walk-2.ensures.walking c.args.at.now.point c.args.at.now.walk c.requires.at.walking c.in-Some.spot refl)

pub returns-in-Asks-clause-walks : goal.returns-in-Asks-clause-walks
returns-in-Asks-clause-walks c =
    let p = c.requires.step in
    moves-further c.args.self.now.machine.stack c.go_on_walk-2.new.self c.args.at.now.walk _ (looks-viewed c.args.at.now.walk.spot p.0 p.1 p.2) (c.go_on_walk-2.ensures.moves c.args.at.now.point c.args.at.now.walk c.requires.at.walking)
    (λ x e.
    let is = sym c.spot_behind.ensures ∙ c.in-Some.is ∙ e in
    (behind-viewed c.args.at.now.walk.spot x p.0 p.1 c.args.step p.2 is, behind-further c.args.at.now.walk x p.0 p.1 c.args.step p.2 p.3.leads is))

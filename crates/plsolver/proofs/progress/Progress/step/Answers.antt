use Rattle.std.proofs.Common.{◌+◌, ◌∙◌, ap}
use Rattle.plsolver.specs.declared.progress.Progress.{Progress}
use Rattle.plsolver.specs.Solver.{Stepped}
use Rattle.plsolver.proofs.Runs.{selected-goal, steps, steps_on, stays_latest, stays_of}
use Rattle.plsolver.proofs.Advancing.{selects_on}
use Rattle.plsolver.proofs.Ending.{ends_same, ends_trans}
use Rattle.plsolver.proofs.progress.Progress.step.Goals as goal

pub returns-clause-ok : goal.returns-clause-ok
returns-clause-ok c =
    let s = c.args.self.now in
    let P = c.args.program.now in
    let first = selected-goal s.machine c.args.selected c.requires.goal in
    let t : Progress = record c.select.new.self { used = c.select.new.self.used + 1 } in
    let stepped : Stepped P s t = steps P s t first.0 first.1 first.2 c.requires.goal.0 first.3 c.requires.left c.in_ok-select.ensures.ok
    (ap (λ x. x.used + 1) c.select.ensures.frame) (ap (λ x. x.limit) c.select.ensures.frame) (ap (λ x. x.places) c.select.ensures.frame) in
    record {
      selected = c.args.selected;
      first = c.requires.goal;
      selects = selects_on P s.machine t.machine c.give_back.new.self.machine c.in_ok-select.ensures.ok (c.give_back.ensures.stays P).there c.give_back.ensures.mode;
      stepped = steps_on P s t c.give_back.new.self c.select.ensures.of stepped (c.give_back.ensures.stays P);
    }

pub returns-clause-of : goal.returns-clause-of
returns-clause-of c = stays_of c.args.program.now (record c.select.new.self { used = c.select.new.self.used + 1 }) c.give_back.new.self c.select.ensures.of (c.give_back.ensures.stays c.args.program.now)

pub returns-clause-latest : goal.returns-clause-latest
returns-clause-latest c = stays_latest c.args.program.now (record c.select.new.self { used = c.select.new.self.used + 1 }) c.give_back.new.self (c.give_back.ensures.stays c.args.program.now) ∙ c.select.ensures.latest

pub returns-clause-walks : goal.returns-clause-walks
returns-clause-walks c = ends_trans _ _ _ c.select.ensures.walks (ends_same _ _ (c.give_back.ensures.stays c.args.program.now).there.walks)

use Rattle.std.proofs.Common.{◌∙◌, ap, sym}
use Rattle.plstack.specs.State.{State, goals_of}
use Rattle.plmachine.specs.declared.machine.Mode.TheVariants as modes
use Rattle.plmachine.proofs.Moves.{grown-stays, on_err, moved-views}
use Rattle.plmachine.proofs.Seeking.{seeks}
use Rattle.plmachine.proofs.Updating.{seek-closed}
use Rattle.plmachine.specs.Machine.{below_in, depth_of, local_of, lookup_of}
use Rattle.plmachine.proofs.machine.Machine.seek.Goals as goal

pub returns-in_err-find-clause-err : goal.returns-in_err-find-clause-err
returns-in_err-find-clause-err c P = on_err _ (grown-stays P c.args.self.now c.find_of.new.self c.find_of.ensures.grown c.find_of.ensures.frame)

pub returns-clause-ok : goal.returns-clause-ok
returns-clause-ok c P =
    let t = c.find_of.new.self in
    seeks P c.args.self.now t c.args.lookup c.view-view.result c.in_ok-find.find c.args.rest (sym c.if-not-is_open.ensures) c.view-view.ensures.place c.requires.tied c.view-view.ensures.is c.requires.rest c.requires.fits c.find_of.ensures.grown
    c.in_ok-find.ensures.ok _ c.find_of.ensures.frame
    (ap (λ (st : State). record t { stack = st; mode = modes.Find c.in_ok-find.find }) (c.visit.ensures.is ∙ ap (λ (st : State). record st { goals = c.args.rest }) c.sees.ensures))

pub returns-then-not-is_open-clause-ok : goal.returns-then-not-is_open-clause-ok
returns-then-not-is_open-clause-ok c P =
    let s = c.args.self.now in
    moved-views P s c.ask.new.self _ _ (λ v. seek-closed (below_in v s) (lookup_of s.stack.env.heap c.args.lookup) (depth_of s) (goals_of s.stack c.args.rest) s.stack.env.count (local_of s) (sym c.is_open.ensures ∙ c.if-not-is_open.true)) (c.ask.ensures P)

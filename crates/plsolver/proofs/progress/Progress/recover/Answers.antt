use Rattle.std.proofs.Common.{◌≡◌, ap, subst, sym, ◌∙◌, reverse, ◌∷◌, length}
use Rattle.plsearch.specs.Collecting.{kept_below}
use Rattle.plcells.specs.Store.{value}
use Rattle.plsearch.specs.Running.{runnable, Raises, Runs}
use Rattle.plmachine.specs.declared.machine.Mode.TheVariants as modes
use Rattle.plmachine.specs.Lists.{Grown}
use Rattle.plmachine.proofs.Moves.{on_ok_map, on_err_map}
use Rattle.plsolver.proofs.Runs.{err_stays}
use Rattle.plsolver.specs.Solver.{Stays, Recovered, Rethrown}
use Rattle.plsolver.proofs.Catches.{recovered-raises, recovered-runs, grown-stays, recovery-fits, fits-grown-behind, level-kinds}
use Rattle.plstack.specs.Places.{walks_of}
use Rattle.plstack.specs.State.{walks_in}
use Rattle.plsolver.proofs.Ending.{ends_same, ends_trans}
use Rattle.plmachine.proofs.Levels.{same-kinds}
use Rattle.plsearch.specs.Types.{Goal}
use Rattle.plsolver.proofs.progress.Progress.recover.Goals as goal

pub rethrow-requires-clause-fits : goal.rethrow-requires-clause-fits
rethrow-requires-clause-fits c =
    let s = c.args.self.now.machine.stack in
    let g = c.ready.ensures.grown in
    fits-grown-behind s c.ready.new.self.stack c.args.list g c.requires.list c.requires.fits

pub returns-in_err-error-clause-err : goal.returns-in_err-error-clause-err
returns-in_err-error-clause-err c =
    let s = c.args.self.now in
    err_stays s _ _ (λ P. grown-stays P s (record s { machine = c.ready.new.self }) c.ready.ensures.grown (ap (λ m. record s { machine = m }) c.ready.ensures.frame))

pub returns-in_err-made-in-Runs-clause-err : goal.returns-in_err-made-in-Runs-clause-err
returns-in_err-made-in-Runs-clause-err c =
    let s = c.args.self.now in
    let same : c.link.new.self ≡ c.ready.new.self.stack = c.in_err-made-in-Runs.ensures.err in
    err_stays s _ _ (λ P. grown-stays P s (record s { machine = record c.ready.new.self { stack = c.link.new.self } }) (subst (Grown s.machine.stack) (sym same) c.ready.ensures.grown)
    (ap (λ m. record s { machine = record m { stack = c.link.new.self } }) c.ready.ensures.frame))

pub returns-in-Raises-clause-err : goal.returns-in-Raises-clause-err
returns-in-Raises-clause-err c =
    let s = c.args.self.now in
    on_err_map c.rethrow.result (λ e P. subst (Stays P s) (sym e) (grown-stays P s (record s { machine = c.ready.new.self }) c.ready.ensures.grown (ap (λ m. record s { machine = m }) c.ready.ensures.frame))) c.rethrow.ensures.err

pub returns-in-Raises-clause-ok : goal.returns-in-Raises-clause-ok
returns-in-Raises-clause-ok c =
    let s = c.args.self.now in
    let runs : runnable (value s.machine.stack.env.heap c.args.recovery) ≡ Raises c.in-Raises.error = rw c.in-Raises.is at c.in_ok-error.ensures.ok.is in
    on_ok_map c.rethrow.result
    (λ did P. recovered-raises P s c.rethrow.new.self c.ready.new.self.stack c.in-Raises.error c.args.recovery c.args.list c.ready.ensures.grown c.requires.list runs
    (subst (λ m. Rethrown P (record s { machine = m }) c.rethrow.new.self c.in-Raises.error c.args.list) c.ready.ensures.frame (did P))) c.rethrow.ensures.ok

pub returns-in_ok-made-in-Runs-clause-ok : goal.returns-in_ok-made-in-Runs-clause-ok
returns-in_ok-made-in-Runs-clause-ok c =
    let s = c.args.self.now in
    let t = c.ready.new.self in
    let adds = c.in_ok-made-in-Runs.ensures.ok in
    let runs : runnable (value s.machine.stack.env.heap c.args.recovery) ≡ Runs (value t.stack.env.heap c.in-Runs.goal) = rw c.in-Runs.is at c.in_ok-error.ensures.ok.is in
    λ P. subst (λ m. Recovered P s (record s { machine = record m { stack = c.recover.new.self; mode = modes.Visit; kept = c.drop_from.new.self } }) c.args.recovery c.args.list) (sym c.ready.ensures.frame)
    (recovered-runs P s t.stack c.link.new.self c.recover.new.self c.args.recovery c.args.list c.in-Runs.goal c.level-level.result c.in_ok-made-in-Runs.made c.ready.ensures.grown c.requires.list runs c.level-level.ensures
    adds.stays adds.env adds.is c.recover.ensures.recovers c.recover.ensures.basis c.drop_from.new.self (c.drop_from.ensures ∙ ap (λ m. kept_below c.level-level.result m.kept) c.ready.ensures.frame))

pub returns-in_err-error-clause-walks : goal.returns-in_err-error-clause-walks
returns-in_err-error-clause-walks c = ends_same _ _ (ap (λ fs. walks_of (reverse fs)) c.ready.ensures.grown.extends.frames)

pub returns-in_err-made-in-Runs-clause-walks : goal.returns-in_err-made-in-Runs-clause-walks
returns-in_err-made-in-Runs-clause-walks c = ends_same _ _ (ap walks_in c.in_err-made-in-Runs.ensures.err ∙ ap (λ fs. walks_of (reverse fs)) c.ready.ensures.grown.extends.frames)

pub returns-in-Raises-clause-walks : goal.returns-in-Raises-clause-walks
returns-in-Raises-clause-walks c = ends_trans _ _ _ (ends_same _ _ (ap (λ fs. walks_of (reverse fs)) c.ready.ensures.grown.extends.frames)) c.rethrow.ensures.walks

pub returns-in_ok-made-in-Runs-clause-walks : goal.returns-in_ok-made-in-Runs-clause-walks
returns-in_ok-made-in-Runs-clause-walks c = ends_same _ _ (c.recover.ensures.walks ∙ ap (λ fs. walks_of (reverse fs)) (c.in_ok-made-in-Runs.ensures.ok.stays.frames ∙ c.ready.ensures.grown.extends.frames))

pub recover-requires-clause-fits : goal.recover-requires-clause-fits
recover-requires-clause-fits c =
    let s = c.args.self.now.machine.stack in
    let t = c.ready.new.self.stack in
    let g = c.ready.ensures.grown in
    let adds = c.in_ok-made-in-Runs.ensures.ok in
    recovery-fits s c.link.new.self c.level-level.result _ c.args.list c.in_ok-made-in-Runs.made (adds.stays.frames ∙ g.extends.frames)
    (level-kinds t c.level-level.result c.level-level.ensures ∙ ap (λ n. n) (ap length (same-kinds s t g.extends)))
    (adds.is ∙ ap (λ es. Goal c.level-level.result (value t.env.heap c.in-Runs.goal) ∷ es) (g.extends.lists c.args.list c.requires.list).1) c.requires.fits

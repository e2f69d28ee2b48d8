use Rattle.std.proofs.Common.{ap, sym, subst, ◌∙◌, reverse}
use Rattle.plsearch.specs.Collecting.{kept_below}
use Rattle.plstack.specs.State.{AtHandler}
use Rattle.plmachine.specs.declared.machine.Outcome.TheVariants as outcomes
use Rattle.plmachine.specs.declared.machine.Mode.TheVariants as modes
use Rattle.plsolver.proofs.Runs.{err_stays}
use Rattle.plsolver.specs.Solver.{Stays, QuietIn}
use Rattle.plsolver.proofs.Quiets.{db_in, stays-back}
use Rattle.plsolver.proofs.Catches.{closed-basis, closed-below, bound-fits, handler-stays}
use Rattle.plsolver.proofs.Gathering.{gathers-it, gathers-other}
use Rattle.plstack.specs.Places.{walks_of}
use Rattle.plsolver.proofs.Ending.{ends_same, ends_trans}
use Rattle.plsolver.proofs.progress.Progress.gather.Goals as goal

pub returns-in_err-fits-clause-err : goal.returns-in_err-fits-clause-err
returns-in_err-fits-clause-err c =
    let s = c.args.self.now in
    let e = c.in_err-fits.ensures.err in
    err_stays s _ _ (λ P. subst (λ m. Stays P s (record s { machine = m })) (sym c.gather.ensures.frame)
    (stays-back P s c.gather.new.self.stack outcomes.Fail c.requires.fails (e.basis ∙ c.rewind-handler.ensures.basis) (ap (λ fs. walks_of (reverse fs)) e.frames ∙ c.rewind-handler.ensures.walks) (λ db. e.cases db ∙ c.rewind-handler.ensures.cases db)))

pub returns-then-not-fits-clause-ok : goal.returns-then-not-fits-clause-ok
returns-then-not-fits-clause-ok c =
    let s = c.args.self.now in
    let put = c.gather.new.self.stack in
    let here = subst (λ x. AtHandler c.rewind-handler.new.self x c.rewind-handler.result.list) c.in-Gather.is c.rewind-handler.ensures.at in
    λ P v ordered. subst (λ m. QuietIn P v s (record s { machine = record m { stack = c.close.new.self; kept = c.drop_from.new.self } })) (sym c.gather.ensures.frame)
    (gathers-other P v s c.requires.fails c.rewind-handler.new.self c.rewind-handler.result.list c.in-Gather.whole c.rewind-handler.ensures.basis c.rewind-handler.ensures.cases here c.level-level.result c.level-level.ensures
    put c.close.new.self c.drop_from.new.self (c.in_ok-fits.ensures.same c.if-not-fits.true) (c.in_ok-fits.ensures.no c.if-not-fits.true)
    (λ h below was. closed-below (db_in P v s.machine) put c.close.new.self h below c.close.result c.close.ensures.some c.close.ensures.none was)
    (closed-basis put c.close.new.self c.close.result c.close.ensures.some c.close.ensures.none c.close.ensures.basis (handler-stays c.rewind-handler.new.self put (c.in_ok-fits.ensures.same c.if-not-fits.true).frames here.has))
    (c.drop_from.ensures ∙ ap (λ m. kept_below c.level-level.result m.kept) c.gather.ensures.frame))

pub returns-clause-ok : goal.returns-clause-ok
returns-clause-ok c =
    let s = c.args.self.now in
    let here = subst (λ x. AtHandler c.rewind-handler.new.self x c.rewind-handler.result.list) c.in-Gather.is c.rewind-handler.ensures.at in
    λ P v ordered. subst (λ m. QuietIn P v s (record s { machine = record m { stack = c.leave.new.self; mode = modes.Visit; kept = c.drop_from.new.self } })) (sym c.gather.ensures.frame)
    (gathers-it P v s c.requires.fails c.rewind-handler.new.self c.rewind-handler.result.list c.in-Gather.whole c.rewind-handler.ensures.basis c.rewind-handler.ensures.cases here c.level-level.result c.level-level.ensures
    c.gather.new.self.stack (c.in_ok-fits.ensures.yes c.if-not-fits.false) c.leave.new.self c.drop_from.new.self c.leave.ensures.leaves c.leave.ensures.basis
    (c.drop_from.ensures ∙ ap (λ m. kept_below c.level-level.result m.kept) c.gather.ensures.frame))

pub returns-in_err-fits-clause-walks : goal.returns-in_err-fits-clause-walks
returns-in_err-fits-clause-walks c = ends_same _ _ (ap (λ fs. walks_of (reverse fs)) c.in_err-fits.ensures.err.frames ∙ c.rewind-handler.ensures.walks)

pub returns-then-not-fits-clause-walks : goal.returns-then-not-fits-clause-walks
returns-then-not-fits-clause-walks c = ends_trans _ _ _ (ends_same _ _ (ap (λ fs. walks_of (reverse fs)) (c.in_ok-fits.ensures.same c.if-not-fits.true).frames ∙ c.rewind-handler.ensures.walks)) c.close.ensures.walks

pub returns-clause-walks : goal.returns-clause-walks
returns-clause-walks c = ends_same _ _ (c.leave.ensures.walks ∙ ap (λ fs. walks_of (reverse fs)) (c.in_ok-fits.ensures.yes c.if-not-fits.false).frames ∙ c.rewind-handler.ensures.walks)

pub leave-requires-clause-fits : goal.leave-requires-clause-fits
leave-requires-clause-fits c =
    let here = c.rewind-handler.ensures.at in
    let g = c.in_ok-fits.ensures.yes c.if-not-fits.false in
    let list = c.rewind-handler.result.list in
    bound-fits c.rewind-handler.new.self c.gather.new.self.stack list g.unifier g.frames (g.lists list here.list_there).1 here.list_fits

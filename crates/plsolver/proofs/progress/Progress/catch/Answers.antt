use Rattle.std.proofs.Common.{◌≡◌, ◌-◌, true, ap, ◌∙◌, subst, refl, reverse}
use Rattle.plcells.specs.Store.{Store, value}
use Rattle.plbind.specs.Apart.{AreApart}
use Rattle.plbind.proofs.Clashing.{apart-copied}
use Rattle.plsearch.specs.Handlers.{has}
use Rattle.plstack.specs.State.{cases_of, AtHandler}
use Rattle.plmachine.specs.declared.machine.Outcome.TheVariants as outcomes
use Rattle.plmachine.specs.declared.machine.Mode.TheVariants as modes
use Rattle.plmachine.specs.Machine.{depth_of}
use Rattle.plsolver.proofs.Runs.{err_stays}
use Rattle.plsolver.specs.Solver.{throws_to}
use Rattle.plsolver.proofs.Quiets.{at_stack, stays-back}
use Rattle.plsolver.proofs.Catches.{closed-basis, closed-below, handler-stays, catches-none, catches-other, catches-it, stays-after, bound-fits}
use Rattle.plstack.specs.Places.{walks_of}
use Rattle.plstack.specs.State.{walks_in}
use Rattle.plsolver.proofs.Ending.{ends_same, ends_trans}
use Rattle.plsearch.specs.Lists.{bind_goals}
use Rattle.plsolver.proofs.progress.Progress.catch.Goals as goal

pub returns-in_err-v-clause-err : goal.returns-in_err-v-clause-err
returns-in_err-v-clause-err c =
    let s = c.args.self.now in
    let at : s.machine.mode ≡ modes.Back (outcomes.Throw c.in-Throw.ball c.in-Throw.field-1) = c.in-Back.is ∙ ap modes.Back c.in-Throw.is in
    err_stays s _ _ (λ P. stays-back P s c.put_copy.new.self _ at (c.put_copy.ensures.stays.basis ∙ c.rewind-handler.ensures.basis) (ap (λ fs. walks_of (reverse fs)) c.put_copy.ensures.stays.frames ∙ c.rewind-handler.ensures.walks) (λ db. c.put_copy.ensures.stays.cases db ∙ c.rewind-handler.ensures.cases db))

pub returns-in_err-unify-clause-err : goal.returns-in_err-unify-clause-err
returns-in_err-unify-clause-err c =
    let s = c.args.self.now in
    let at : s.machine.mode ≡ modes.Back (outcomes.Throw c.in-Throw.ball c.in-Throw.field-1) = c.in-Back.is ∙ ap modes.Back c.in-Throw.is in
    let same : c.unify.new.self ≡ c.put_copy.new.self = c.in_err-unify.ensures.err in
    err_stays s _ _ (λ P. stays-back P s c.unify.new.self _ at (ap (λ x. x.basis) same ∙ c.put_copy.ensures.stays.basis ∙ c.rewind-handler.ensures.basis) (ap walks_in same ∙ ap (λ fs. walks_of (reverse fs)) c.put_copy.ensures.stays.frames ∙ c.rewind-handler.ensures.walks) (λ db. ap (cases_of db) same ∙ c.put_copy.ensures.stays.cases db ∙ c.rewind-handler.ensures.cases db))

pub returns-in_err-recover-clause-err : goal.returns-in_err-recover-clause-err
returns-in_err-recover-clause-err c =
    let s = c.args.self.now in
    let at : s.machine.mode ≡ modes.Back (outcomes.Throw c.in-Throw.ball c.in-Throw.field-1) = c.in-Back.is ∙ ap modes.Back c.in-Throw.is in
    let u = c.in_ok-unify.ensures.yes c.if-branch.true in
    err_stays s _ _ (λ P. let stay = stays-back P s c.unify.new.self _ at (u.basis ∙ c.put_copy.ensures.stays.basis ∙ c.rewind-handler.ensures.basis) (ap (λ fs. walks_of (reverse fs)) (u.frames ∙ c.put_copy.ensures.stays.frames) ∙ c.rewind-handler.ensures.walks) (λ db. u.cases db ∙ c.put_copy.ensures.stays.cases db ∙ c.rewind-handler.ensures.cases db) in
    stays-after P s (at_stack s c.unify.new.self) c.recover.new.self stay (c.in_err-recover.ensures.err P))

pub returns-in_ok-recover-clause-ok : goal.returns-in_ok-recover-clause-ok
returns-in_ok-recover-clause-ok c =
    let s = c.args.self.now in
    let at : s.machine.mode ≡ modes.Back (outcomes.Throw c.in-Throw.ball c.in-Throw.field-1) = c.in-Back.is ∙ ap modes.Back c.in-Throw.is in
    let active : has (depth_of s.machine - 1) c.in-Throw.field-1.items ≡ true = subst (λ m. throws_to (depth_of s.machine - 1) m ≡ true) at c.requires.throws in
    λ P v ordered. catches-it P v s _ c.in-Throw.ball c.in-Throw.field-1.items at refl c.rewind-handler.new.self c.rewind-handler.result c.rewind-handler.ensures.basis c.rewind-handler.ensures.cases c.in-Catch.catcher (subst (λ x. AtHandler c.rewind-handler.new.self x c.rewind-handler.result.list) c.in-Catch.is c.rewind-handler.ensures.at) active
    c.put_copy.new.self c.put_copy.ensures.stays c.in_ok-v.v c.in_ok-v.ensures.is c.in_ok-v.ensures.count c.unify.new.self (c.in_ok-unify.ensures.yes c.if-branch.true) c.recover.new.self (c.in_ok-recover.ensures.ok P)

pub returns-then-is_apart-clause-ok : goal.returns-then-is_apart-clause-ok
returns-then-is_apart-clause-ok c =
    let s = c.args.self.now in
    let st = c.rewind-handler.new.self in
    let x = c.in-Catch.catcher in
    let ball = c.in-Throw.ball in
    let at : s.machine.mode ≡ modes.Back (outcomes.Throw ball c.in-Throw.field-1) = c.in-Back.is ∙ ap modes.Back c.in-Throw.is in
    let active : has (depth_of s.machine - 1) c.in-Throw.field-1.items ≡ true = subst (λ m. throws_to (depth_of s.machine - 1) m ≡ true) at c.requires.throws in
    let seen : AreApart (value st.env.heap x.catcher) c.root.result = subst (λ (h : Store). AreApart (value h x.catcher) c.root.result) (c.heap-heap.ensures.is ∙ ap (λ e. e.heap) c.env.ensures) (c.is_apart.ensures c.if-is_apart.true) in
    let none = apart-copied (value st.env.heap x.catcher) ball st.env.count (subst (AreApart (value st.env.heap x.catcher)) c.root.ensures seen) in
    λ P v ordered. catches-none P v s _ ball c.in-Throw.field-1.items at refl st c.rewind-handler.result c.rewind-handler.ensures.basis c.rewind-handler.ensures.cases x (subst (λ y. AtHandler st y c.rewind-handler.result.list) c.in-Catch.is c.rewind-handler.ensures.at) active
    c.close.new.self (closed-basis st c.close.new.self c.close.result c.close.ensures.some c.close.ensures.none c.close.ensures.basis c.rewind-handler.ensures.at.has) none
    (λ db h below was. closed-below db st c.close.new.self h below c.close.result c.close.ensures.some c.close.ensures.none was)

pub returns-then-is_apart-clause-walks : goal.returns-then-is_apart-clause-walks
returns-then-is_apart-clause-walks c = ends_trans _ _ _ (ends_same _ _ c.rewind-handler.ensures.walks) c.close.ensures.walks

pub returns-else-branch-clause-ok : goal.returns-else-branch-clause-ok
returns-else-branch-clause-ok c =
    let s = c.args.self.now in
    let at : s.machine.mode ≡ modes.Back (outcomes.Throw c.in-Throw.ball c.in-Throw.field-1) = c.in-Back.is ∙ ap modes.Back c.in-Throw.is in
    let active : has (depth_of s.machine - 1) c.in-Throw.field-1.items ≡ true = subst (λ m. throws_to (depth_of s.machine - 1) m ≡ true) at c.requires.throws in
    let no = c.in_ok-unify.ensures.no c.if-branch.false in
    λ P v ordered. catches-other P v s _ c.in-Throw.ball c.in-Throw.field-1.items at refl c.rewind-handler.new.self c.rewind-handler.result c.rewind-handler.ensures.basis c.rewind-handler.ensures.cases c.in-Catch.catcher (subst (λ x. AtHandler c.rewind-handler.new.self x c.rewind-handler.result.list) c.in-Catch.is c.rewind-handler.ensures.at) active
    c.put_copy.new.self c.put_copy.ensures.stays c.in_ok-v.v c.in_ok-v.ensures.is c.close-else-branch.new.self (closed-basis c.unify.new.self c.close-else-branch.new.self c.close-else-branch.result c.close-else-branch.ensures.some c.close-else-branch.ensures.none c.close-else-branch.ensures.basis (handler-stays c.rewind-handler.new.self c.unify.new.self (ap (λ x. x.frames) no.1 ∙ c.put_copy.ensures.stays.frames) c.rewind-handler.ensures.at.has) ∙ ap (λ x. x.basis) no.1) no.0
    (λ db h below was. closed-below db c.unify.new.self c.close-else-branch.new.self h below c.close-else-branch.result c.close-else-branch.ensures.some c.close-else-branch.ensures.none (ap (cases_of db) no.1 ∙ was))

pub returns-in_err-v-clause-walks : goal.returns-in_err-v-clause-walks
returns-in_err-v-clause-walks c = ends_same _ _ (ap (λ fs. walks_of (reverse fs)) c.put_copy.ensures.stays.frames ∙ c.rewind-handler.ensures.walks)

pub returns-in_err-unify-clause-walks : goal.returns-in_err-unify-clause-walks
returns-in_err-unify-clause-walks c = ends_same _ _ (ap walks_in c.in_err-unify.ensures.err ∙ ap (λ fs. walks_of (reverse fs)) c.put_copy.ensures.stays.frames ∙ c.rewind-handler.ensures.walks)

pub returns-in_err-recover-clause-walks : goal.returns-in_err-recover-clause-walks
returns-in_err-recover-clause-walks c = ends_trans _ _ _ (ends_same _ _ (ap (λ fs. walks_of (reverse fs)) ((c.in_ok-unify.ensures.yes c.if-branch.true).frames ∙ c.put_copy.ensures.stays.frames) ∙ c.rewind-handler.ensures.walks)) c.recover.ensures.walks

pub returns-in_ok-recover-clause-walks : goal.returns-in_ok-recover-clause-walks
returns-in_ok-recover-clause-walks c = ends_trans _ _ _ (ends_same _ _ (ap (λ fs. walks_of (reverse fs)) ((c.in_ok-unify.ensures.yes c.if-branch.true).frames ∙ c.put_copy.ensures.stays.frames) ∙ c.rewind-handler.ensures.walks)) c.recover.ensures.walks

pub returns-else-branch-clause-walks : goal.returns-else-branch-clause-walks
returns-else-branch-clause-walks c = ends_trans _ _ _ (ends_same _ _ (ap walks_in (c.in_ok-unify.ensures.no c.if-branch.false).1 ∙ ap (λ fs. walks_of (reverse fs)) c.put_copy.ensures.stays.frames ∙ c.rewind-handler.ensures.walks)) c.close-else-branch.ensures.walks

pub recover-requires-clause-fits : goal.recover-requires-clause-fits
recover-requires-clause-fits c =
    let here = c.rewind-handler.ensures.at in
    let u = c.in_ok-unify.ensures.yes c.if-branch.true in
    let x = c.put_copy.ensures.stays in
    let list = c.rewind-handler.result.list in
    bound-fits c.rewind-handler.new.self c.unify.new.self list u.unifier (u.frames ∙ x.frames) ((u.lists list (x.lists list here.list_there).0).1 ∙ ap (bind_goals u.unifier) (x.lists list here.list_there).1) here.list_fits

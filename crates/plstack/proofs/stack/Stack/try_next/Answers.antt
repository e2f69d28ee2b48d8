use Rattle.std.proofs.Common.{sym, ap, subst, ◌∙◌, ◌∷◌, [], reverse}
use Rattle.plsearch.specs.Types.{Choice}
use Rattle.plstack.specs.Basis.{Basis}
use Rattle.plstack.specs.StaticCalls.{AreStatics}
use Rattle.plstack.proofs.Entering.{behind-fits, behind-found, calling-found, retries-entered, none-entered}
use Rattle.plstack.specs.Places.{walks_of}
use Rattle.plstack.specs.State.{walks_in}
use Rattle.plstack.proofs.stack.Stack.try_next.Goals as goal

pub enter-requires-clause-behind : goal.enter-requires-clause-behind
enter-requires-clause-behind c =
    behind-found c.args.self.now c.number_of.new.self c.args.at.point c.args.at.call c.in_ok-behind.behind c.requires.at c.in_ok-behind.ensures.ok c.find.new.self c.find.ensures.same (rw c.in-Some.is at c.in_ok-hit.ensures.binds)

pub enter-requires-clause-fits : goal.enter-requires-clause-fits
enter-requires-clause-fits c =
    behind-fits c.args.self.now c.number_of.new.self c.args.at.point c.args.at.call c.in_ok-behind.behind c.requires.at c.in_ok-behind.ensures.ok c.find.new.self c.find.ensures.same (rw c.in-Some.is at c.in_ok-hit.ensures.binds)

pub returns-in-Some-clause-yes : goal.returns-in-Some-clause-yes
returns-in-Some-clause-yes c = λ _ db own.
    let adds = c.in_ok-behind.ensures.ok in
    let then = subst (λ (b : Basis). AreStatics b.code db) (sym adds.stays.basis) own in
    retries-entered c.args.self.now c.number_of.new.self c.args.at.point c.args.at.call c.in_ok-behind.behind c.requires.at adds c.find.new.self c.find.ensures.same (rw c.in-Some.is at c.in_ok-hit.ensures.binds)
    db c.enter.new.self c.in-Some.hit (c.find.ensures.cases db) ((rw c.in-Some.is at c.in_ok-hit.ensures.some) db then) (c.enter.ensures.enters db)

pub returns-in-None-clause-no : goal.returns-in-None-clause-no
returns-in-None-clause-no c = λ _ db own.
    let adds = c.in_ok-behind.ensures.ok in
    let then = subst (λ (b : Basis). AreStatics b.code db) (sym adds.stays.basis) own in
    let calling = calling-found c.args.self.now c.number_of.new.self c.args.at.point c.args.at.call c.in_ok-behind.behind c.requires.at adds c.find.new.self c.find.ensures.same in
    let e = none-entered db c.find.new.self c.args.at.point c.args.at.call calling ((rw c.in-None.is at c.in_ok-hit.ensures.none) db then) in
    sym (c.find.ensures.cases db ∙ adds.stays.cases db) ∙ e.1 ∙ ap (λ xs. Choice [] ∷ xs) (sym (c.leave_call.ensures.cases db (Choice []) e.0 e.1))

pub returns-in-Some-clause-walks : goal.returns-in-Some-clause-walks
returns-in-Some-clause-walks c = c.enter.ensures.walks ∙ ap walks_in c.find.ensures.same ∙ ap (λ fs. walks_of (reverse fs)) c.in_ok-behind.ensures.ok.stays.frames

pub returns-in-None-clause-walks : goal.returns-in-None-clause-walks
returns-in-None-clause-walks c = c.leave_call.ensures.walks ∙ ap walks_in c.find.ensures.same ∙ ap (λ fs. walks_of (reverse fs)) c.in_ok-behind.ensures.ok.stays.frames

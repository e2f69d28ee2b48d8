use Rattle.std.proofs.Common.{refl, reverse, ap, ◌∙◌}
use Rattle.plstack.proofs.Returning.{retries_settled}
use Rattle.plstack.specs.Places.{walks_of}
use Rattle.plstack.proofs.stack.Stack.retry_answers.Goals as goal

pub returns-in-Some-clause-yes : goal.returns-in-Some-clause-yes
returns-in-Some-clause-yes c = λ _ db.
    let opens = rw c.in-Some.is at c.in_ok-opened.ensures.some in
    retries_settled db c.args.self.now c.reopen_answers.new.self c.settle_opened.new.self (opens refl db) c.settle_opened.ensures

pub returns-in-Some-clause-walks : goal.returns-in-Some-clause-walks
returns-in-Some-clause-walks c = ap (λ fs. walks_of (reverse fs)) c.settle_opened.ensures.frames ∙ c.reopen_answers.ensures.walks

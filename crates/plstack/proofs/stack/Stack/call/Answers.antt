use Rattle.std.proofs.Common.{sym, subst, ◌∙◌, reverse, ap}
use Rattle.plstack.specs.Basis.{Basis}
use Rattle.plstack.specs.StaticCalls.{AreStatics}
use Rattle.plstack.proofs.Growing.{if_ok}
use Rattle.plstack.proofs.Opened.{calls-none-then, calls-then, marked-values}
use Rattle.plstack.specs.Places.{walks_of}
use Rattle.plstack.proofs.stack.Stack.call.Goals as goal

pub open_call-requires-clause-values : goal.open_call-requires-clause-values
open_call-requires-clause-values c =
    marked-values c.args.self.now c.number_of.new.self c.marks.new.self c.marks.new.self c.in_ok-behind.behind c.args.rest c.in_ok-behind.ensures.ok c.marks.ensures.stays c.marks.ensures.count c.args.values.now c.requires.values

pub returns-clause-yes : goal.returns-clause-yes
returns-clause-yes c =
    if_ok _ _ c.open_call.result
    (λ yes calls is db own.
    let then = subst (λ (b : Basis). AreStatics b.code db) (sym (c.marks.ensures.stays.basis ∙ c.in_ok-behind.ensures.ok.stays.basis)) own in
    calls-then c.args.self.now c.number_of.new.self c.marks.new.self c.open_call.new.self c.in_ok-behind.behind c.args.rest c.in_ok-behind.ensures.ok c.marks.ensures.stays c.marks.ensures.count db c.args.procedure c.args.values.now c.requires.values
    (rw c.alone.ensures at (calls is db then)))
    c.open_call.ensures.yes

pub returns-clause-no : goal.returns-clause-no
returns-clause-no c =
    if_ok _ _ c.open_call.result
    (λ no calls is db own.
    let then = subst (λ (b : Basis). AreStatics b.code db) (sym (c.marks.ensures.stays.basis ∙ c.in_ok-behind.ensures.ok.stays.basis)) own in
    calls-none-then c.args.self.now c.number_of.new.self c.marks.new.self c.open_call.new.self c.in_ok-behind.behind c.args.rest c.in_ok-behind.ensures.ok c.marks.ensures.stays c.marks.ensures.count db c.args.procedure c.args.values.now c.requires.values
    (rw c.alone.ensures at (calls is db then)))
    c.open_call.ensures.no

pub returns-clause-walks : goal.returns-clause-walks
returns-clause-walks c = c.open_call.ensures.walks ∙ ap (λ fs. walks_of (reverse fs)) (c.marks.ensures.stays.frames ∙ c.in_ok-behind.ensures.ok.stays.frames)

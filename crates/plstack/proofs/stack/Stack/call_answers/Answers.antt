use Rattle.std.proofs.Common.{refl, reverse, ap, ◌∙◌}
use Rattle.plgenerator.proofs.Staying.{turn_stays}
use Rattle.plstack.proofs.Opened.{values_stay}
use Rattle.plstack.proofs.Answered.{answered_marked, answered_settled, unanswered_marked}
use Rattle.plstack.specs.Places.{walks_of}
use Rattle.plstack.proofs.stack.Stack.call_answers.Goals as goal

pub open_answers-requires-clause-values : goal.open_answers-requires-clause-values
open_answers-requires-clause-values c = (values_stay c.args.self.now.env.heap c.marks-marks.new.self.env.heap c.args.values.now c.marks-marks.ensures.stays.values c.requires.values).0

pub open_answers-requires-clause-turn : goal.open_answers-requires-clause-turn
open_answers-requires-clause-turn c = turn_stays c.args.self.now.env.heap c.marks-marks.new.self.env.heap c.marks-marks.ensures.stays.values c.args.values.now c.requires.values c.args.turn c.requires.turn

pub returns-in-Some-clause-yes : goal.returns-in-Some-clause-yes
returns-in-Some-clause-yes c = λ _ db.
    let opens = rw c.in-Some.is at c.in_ok-opened.ensures.some in
    answered_marked c.args.self.now c.marks-marks.new.self c.settle_opened.new.self c.marks-marks.ensures.stays c.marks-marks.ensures.count db c.args.values.now c.requires.values c.args.rest c.requires.rest c.args.turn
    (answered_settled db c.marks-marks.new.self c.open_answers.new.self c.settle_opened.new.self c.args.values.now c.args.rest c.args.turn (opens refl db) c.settle_opened.ensures)

pub returns-in-None-clause-no : goal.returns-in-None-clause-no
returns-in-None-clause-no c = λ _ db.
    let none = rw c.in-None.is at c.in_ok-opened.ensures.none in
    unanswered_marked c.args.self.now c.marks-marks.new.self c.open_answers.new.self c.marks-marks.ensures.stays c.marks-marks.ensures.count db c.args.values.now c.requires.values c.args.rest c.requires.rest c.args.turn (none db)

pub returns-in-Some-clause-walks : goal.returns-in-Some-clause-walks
returns-in-Some-clause-walks c = ap (λ fs. walks_of (reverse fs)) c.settle_opened.ensures.frames ∙ c.open_answers.ensures.walks ∙ ap (λ fs. walks_of (reverse fs)) c.marks-marks.ensures.stays.frames

pub returns-in-None-clause-walks : goal.returns-in-None-clause-walks
returns-in-None-clause-walks c = c.open_answers.ensures.walks ∙ ap (λ fs. walks_of (reverse fs)) c.marks-marks.ensures.stays.frames

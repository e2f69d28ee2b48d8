use Rattle.plstack.specs.State.{State}
use Rattle.plstack.proofs.Stacks.{inside}
use Rattle.plstack.proofs.Reopening.{on_err}
use Rattle.plstack.proofs.Answered.{stays-stack, stays-at, none-stack, none-answered, called-stack, called-answered, called-within, called-older}
use Rattle.plstack.proofs.Ending.{answer-walks}
use Rattle.plstack.proofs.stack.Stack.open_answers.Goals as goal

pub invariant_of-self-in_err-taken : goal.invariant_of-self-in_err-taken
invariant_of-self-in_err-taken c =
    rw (c.reserve-2.ensures.items, c.reserve.ensures.items) (stays-stack (inside c.self.inside) c.self.inside.depth c.self.invariant c.take_answer.new.env c.take_answer.ensures.env c.in_err-taken.ensures.err)

pub returns-in_err-taken-clause-err : goal.returns-in_err-taken-clause-err
returns-in_err-taken-clause-err c =
    on_err _ c.from_residual-in_err-taken.result
    (rw (← c.self.view_is, c.reserve-2.ensures.items, c.reserve.ensures.items) (stays-at (inside c.self.inside) c.self.inside.depth c.self.invariant c.take_answer.new.env c.take_answer.ensures.env c.in_err-taken.ensures.err))

pub invariant_of-self-in_default : goal.invariant_of-self-in_default
invariant_of-self-in_default c =
    rw (c.reserve-2.ensures.items, c.reserve.ensures.items) (none-stack (inside c.self.inside) c.self.inside.depth c.self.invariant c.args.values.now c.args.turn c.take_answer.new.env c.take_answer.ensures.env (rw c.in_default.is at c.in_ok-taken.ensures.none))

pub returns-in_default-clause-none : goal.returns-in_default-clause-none
returns-in_default-clause-none c = λ db.
    rw (← c.self.view_is, c.reserve-2.ensures.items, c.reserve.ensures.items)
    (none-answered (inside c.self.inside) c.self.inside.depth c.self.invariant c.args.values.now c.args.turn c.take_answer.new.env c.take_answer.ensures.env (rw c.in_default.is at c.in_ok-taken.ensures.none) c.args.point.list db)

pub invariant_of-self-2 : goal.invariant_of-self-2
invariant_of-self-2 c =
    let s : State = inside c.self.inside in
    let m = rw (← c.self.view_is) at c.requires.marks in
    let i = rw (← c.self.view_is) at c.requires.list in
    let f = rw (← c.self.view_is) at c.requires.fits in
    let fit = rw (← c.self.view_is) at c.requires.values in
    let turns = rw (← c.self.view_is) at c.requires.turn in
    let t = rw c.in-Some.is at c.in_ok-taken.ensures.some in
    let pushes = rw c.reserve.ensures.items at c.push_answers-is_last.ensures.pushes in
    rw (c.keep_values.ensures, c.reserve-2.ensures.items, c.in_ok-depth.ensures.ok)
    (called-stack s c.self.inside.depth c.self.invariant c.args.point m i f c.args.values.now fit c.args.turn turns c.take_answer.new.env c.take_answer.ensures.env c.in-Some.taken.rest t c.push_answers-is_last.new.frames.items pushes)

pub returns-clause-some : goal.returns-clause-some
returns-clause-some c = λ _ db.
    let s : State = inside c.self.inside in
    let m = rw (← c.self.view_is) at c.requires.marks in
    let i = rw (← c.self.view_is) at c.requires.list in
    let f = rw (← c.self.view_is) at c.requires.fits in
    let fit = rw (← c.self.view_is) at c.requires.values in
    let turns = rw (← c.self.view_is) at c.requires.turn in
    let t = rw c.in-Some.is at c.in_ok-taken.ensures.some in
    let pushes = rw c.reserve.ensures.items at c.push_answers-is_last.ensures.pushes in
    rw (← c.self.view_is, c.keep_values.ensures, c.reserve-2.ensures.items)
    (called-answered s c.self.inside.depth c.self.invariant c.args.point m i f c.args.values.now fit c.args.turn turns c.take_answer.new.env c.take_answer.ensures.env c.in-Some.taken.rest t c.push_answers-is_last.new.frames.items pushes db)

pub returns-clause-opened : goal.returns-clause-opened
returns-clause-opened c = λ last.
    let s : State = inside c.self.inside in
    let m = rw (← c.self.view_is) at c.requires.marks in
    let i = rw (← c.self.view_is) at c.requires.list in
    let f = rw (← c.self.view_is) at c.requires.fits in
    let fit = rw (← c.self.view_is) at c.requires.values in
    let turns = rw (← c.self.view_is) at c.requires.turn in
    let t = rw c.in-Some.is at c.in_ok-taken.ensures.some in
    let pushes = rw c.reserve.ensures.items at c.push_answers-is_last.ensures.pushes in
    record {
      within = called-within s c.self.inside.depth c.self.invariant c.args.point m i f c.args.values.now fit c.args.turn turns c.take_answer.new.env c.take_answer.ensures.env c.in-Some.taken.rest t c.push_answers-is_last.new.frames.items pushes;
      older = called-older s c.self.inside.depth c.self.invariant c.args.point m i f c.args.values.now fit c.args.turn turns c.take_answer.new.env c.take_answer.ensures.env c.in-Some.taken.rest t c.push_answers-is_last.new.frames.items pushes (c.push_answers-is_last.ensures.last last);
    }

pub returns-clause-walks : goal.returns-clause-walks
returns-clause-walks c =
    let pushes = rw c.reserve.ensures.items at c.push_answers-is_last.ensures.pushes in
    rw (← c.self.view_is) (answer-walks c.args.point _ c.in-Some.taken.rest (inside c.self.inside).frames c.push_answers-is_last.new.frames.items pushes)

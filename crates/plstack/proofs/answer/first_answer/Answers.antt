use Rattle.plenv.proofs.Keeping.{Keeps-trans}
use Rattle.plenv.proofs.Renaming.{IsMark-kept}
use Rattle.plstack.proofs.Taking.{passed-none, values-now, turn-now, takes-none, takes, passes-last, passes, fewer-then, taken-back}
use Rattle.plstack.proofs.answer.first_answer.Goals as goal

pub answers-init : goal.answers-init
answers-init c = passed-none c.args.env.now c.args.call.now.values.now c.args.call.now.turn c.requires.turn

pub next-requires-clause-args : goal.next-requires-clause-args
next-requires-clause-args c = rw c.heap-in-answers.ensures.is (values-now c.args.env.now c.args.call.now.values.now c.requires.values c.args.call.now.turn c.answers.env c.answers.left c.answers.invariant)

pub next-requires-clause-turn : goal.next-requires-clause-turn
next-requires-clause-turn c = rw c.heap-in-answers.ensures.is (turn-now c.args.env.now c.args.call.now.values.now c.requires.values c.args.call.now.turn c.answers.env c.answers.left c.answers.invariant)

pub returns-in_default-clause-none : goal.returns-in_default-clause-none
returns-in_default-clause-none c =
    takes-none c.args.env.now c.args.call.now.values.now c.requires.values c.args.call.now.turn c.answers.env c.answers.left c.answers.invariant
    (rw (c.in_default.is, c.heap-in-answers.ensures.is) at c.in_ok-found.ensures.none)

pub returns-then-branch-clause-some : goal.returns-then-branch-clause-some
returns-then-branch-clause-some c =
    let finds = rw (c.in-Some.is, c.heap-in-answers.ensures.is) at c.in_ok-found.ensures.some in
    takes c.args.env.now c.args.call.now.values.now c.requires.values c.args.call.now.turn c.answers.env c.answers.left c.answers.invariant c.in-Some.found finds
    c.solve_sides.new.env c.heap-in-answers.ensures.env (c.in_ok-solve_sides.ensures.yes c.if-branch.true)

pub undo-requires : goal.undo-requires
undo-requires c = IsMark-kept c.args.call.now.mark c.args.env.now c.solve_sides.new.env (Keeps-trans _ _ _ c.answers.invariant.stays.extends.keeps c.solve_sides.ensures.keeps) c.heap-in-answers-2.ensures.env.heap.names c.requires.mark

pub returns-in_err-solve_sides-clause-keeps : goal.returns-in_err-solve_sides-clause-keeps
returns-in_err-solve_sides-clause-keeps c = Keeps-trans _ _ _ c.answers.invariant.stays.extends.keeps c.solve_sides.ensures.keeps

pub returns-then-branch-clause-keeps : goal.returns-then-branch-clause-keeps
returns-then-branch-clause-keeps c = Keeps-trans _ _ _ c.answers.invariant.stays.extends.keeps c.solve_sides.ensures.keeps

pub returns-in_default-rest-clause-none : goal.returns-in_default-rest-clause-none
returns-in_default-rest-clause-none c =
    let old = c.args.env.now in
    let finds = rw (c.in-Some.is, c.heap-in-answers.ensures.is) at c.in_ok-found.ensures.some in
    let keeps = Keeps-trans _ _ _ c.answers.invariant.stays.extends.keeps c.solve_sides.ensures.keeps in
    let back = taken-back old c.solve_sides.new.env c.undo.new.self c.args.call.now.mark c.heap.ensures.env c.heap-in-answers-2.ensures.env.heap.names keeps c.requires.mark.within c.requires.now c.undo.ensures in
    passes-last old c.args.call.now.values.now c.requires.values c.args.call.now.turn c.answers.env c.answers.left c.answers.invariant c.in-Some.found finds
    (c.in_ok-solve_sides.ensures.no c.if-branch.false) c.undo.new.self back c.in_default-rest.is

pub returns-in_default-rest-clause-keeps : goal.returns-in_default-rest-clause-keeps
returns-in_default-rest-clause-keeps c =
    let keeps = Keeps-trans _ _ _ c.answers.invariant.stays.extends.keeps c.solve_sides.ensures.keeps in
    (taken-back c.args.env.now c.solve_sides.new.env c.undo.new.self c.args.call.now.mark c.heap.ensures.env c.heap-in-answers-2.ensures.env.heap.names keeps c.requires.mark.within c.requires.now c.undo.ensures).extends.keeps

pub answers-smaller : goal.answers-smaller
answers-smaller c =
    let finds = rw (c.in-Some.is, c.heap-in-answers.ensures.is) at c.in_ok-found.ensures.some in
    rw c.in-Some-rest.is at (fewer-then c.args.env.now c.args.call.now.values.now c.requires.values c.args.call.now.turn c.answers.env c.answers.left c.answers.invariant c.in-Some.found finds)

pub answers-preserved : goal.answers-preserved
answers-preserved c =
    let old = c.args.env.now in
    let finds = rw (c.in-Some.is, c.heap-in-answers.ensures.is) at c.in_ok-found.ensures.some in
    let keeps = Keeps-trans _ _ _ c.answers.invariant.stays.extends.keeps c.solve_sides.ensures.keeps in
    let back = taken-back old c.solve_sides.new.env c.undo.new.self c.args.call.now.mark c.heap.ensures.env c.heap-in-answers-2.ensures.env.heap.names keeps c.requires.mark.within c.requires.now c.undo.ensures in
    passes old c.args.call.now.values.now c.requires.values c.args.call.now.turn c.answers.env c.answers.left c.answers.invariant c.in-Some.found finds
    (c.in_ok-solve_sides.ensures.no c.if-branch.false) c.undo.new.self back c.in-Some-rest.rest c.in-Some-rest.is

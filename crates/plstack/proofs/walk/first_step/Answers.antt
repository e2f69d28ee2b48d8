use Rattle.plenv.proofs.Renaming.{IsMark-kept}
use Rattle.plstack.specs.Places.{clause_by}
use Rattle.plstack.proofs.Stepping.{fits-call}
use Rattle.plstack.proofs.Walking.{undone, undone-back}
use Rattle.plstack.proofs.walk.first_step.Goals as goal

pub undo-requires : goal.undo-requires
undo-requires c = IsMark-kept _ _ _ c.in_ok-body.ensures.keeps c.heap.ensures.env.heap.names c.requires.mark

pub returns-in_default-clause-back : goal.returns-in_default-clause-back
returns-in_default-clause-back c = undone-back c.args.env.now c.try_copy.new.env c.args.call.now.mark c.undo.new.self c.args.links.now.items c.requires.mark c.requires.now c.in_ok-body.ensures.keeps c.undo.ensures

pub returns-in_default-clause-keeps : goal.returns-in_default-clause-keeps
returns-in_default-clause-keeps c = (undone c.args.env.now c.try_copy.new.env c.args.call.now.mark c.undo.new.self c.requires.mark c.requires.now c.in_ok-body.ensures.keeps c.undo.ensures).1

pub returns-clause-some : goal.returns-clause-some
returns-clause-some c = λ s is se sl there.
    let x = clause_by c.args.next.now.uses c.args.next.now.clause in
    let r = rw c.in-Some.is at c.in_ok-body.ensures.some in
    fits-call c.args.env.now c.try_copy.new.env c.args.links.now.items c.list_body.new.links.items c.heap-2.ensures.env c.in_ok-body.ensures.keeps c.args.call.now.goal x c.in-Some.body r
    c.args.call.now.rest c.args.call.now.level c.in_ok-list.list c.in_ok-list.ensures.ok s is se sl there

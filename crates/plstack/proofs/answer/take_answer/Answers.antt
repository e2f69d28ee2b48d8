use Rattle.plenv.proofs.Renaming.{IsMark-kept}
use Rattle.plstack.proofs.Taking.{taken-back}
use Rattle.plstack.proofs.answer.take_answer.Goals as goal

pub undo-requires : goal.undo-requires
undo-requires c = IsMark-kept c.args.call.now.mark c.args.env.now c.first_answer.new.env c.first_answer.ensures.keeps c.heap-in-Err.ensures.env.heap.names c.requires.mark

pub returns-in-Err-clause-err : goal.returns-in-Err-clause-err
returns-in-Err-clause-err c =
    taken-back c.args.env.now c.first_answer.new.env c.undo.new.self c.args.call.now.mark c.heap.ensures.env c.heap-in-Err.ensures.env.heap.names c.first_answer.ensures.keeps c.requires.mark.within c.requires.now c.undo.ensures

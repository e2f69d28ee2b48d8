use Rattle.plenv.proofs.Renaming.{IsMark-kept}
use Rattle.plstack.proofs.Heads.{came-keeps}
use Rattle.plstack.proofs.head.fits_head.Goals as goal

pub undo-requires : goal.undo-requires
undo-requires c = IsMark-kept _ _ _ c.try_head-has.ensures.keeps c.heap.ensures.env.heap.names c.requires.mark

pub returns-clause-keeps : goal.returns-clause-keeps
returns-clause-keeps c = came-keeps c.args.env.now c.try_head-has.new.env c.undo.new.self c.args.mark c.requires.mark c.requires.now c.try_head-has.ensures.keeps c.undo.ensures

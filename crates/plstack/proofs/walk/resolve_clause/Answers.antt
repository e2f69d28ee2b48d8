use Rattle.plenv.proofs.Renaming.{IsMark-kept}
use Rattle.plstack.proofs.walk.resolve_clause.Goals as goal

pub undo-requires : goal.undo-requires
undo-requires c = IsMark-kept _ _ _ c.in-Err.ensures.keeps c.heap-in-Err.ensures.env.heap.names c.requires.mark

pub returns-in-Err-clause-env : goal.returns-in-Err-clause-env
returns-in-Err-clause-env c = rw c.undo.ensures (IsMark-kept _ _ _ c.in-Err.ensures.keeps c.heap-in-Err.ensures.env.heap.names c.requires.mark).env

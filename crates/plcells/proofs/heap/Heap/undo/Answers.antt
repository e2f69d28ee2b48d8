use Rattle.std.proofs.Common.{◌∙◌}
use Rattle.plcells.proofs.Marking.{own-kept, cut-bounded}
use Rattle.plcells.proofs.heap.Heap.undo.Goals as goal

pub cut_back-requires-clause-kept : goal.cut_back-requires-clause-kept
cut_back-requires-clause-kept c = own-kept c.args.mark c.args.self.now c.requires

pub returns : goal.returns
returns c = c.cut_back.ensures.cut ∙ cut-bounded c.args.mark c.args.self.now

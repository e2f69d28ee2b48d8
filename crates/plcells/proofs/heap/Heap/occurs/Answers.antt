use Rattle.std.proofs.Common.{◌∙◌, ap, sym}
use Rattle.plsubst.specs.Subst.{occurs}
use Rattle.plcells.proofs.Searching.{leaf, variable-occurs}
use Rattle.plcells.proofs.heap.Heap.occurs.Goals as goal

pub returns-in-Ref-clause-is : goal.returns-in-Ref-clause-is
returns-in-Ref-clause-is c = λ n numbered.
    let h = c.args.self.now in
    c.eq.ensures ∙ variable-occurs h c.root.ensures.heap c.args.x n c.requires.variable numbered c.in-Ref.c c.in-Ref.ensures.end ∙ ap (occurs n) c.in-Ref.ensures.same

pub returns-in_default-clause-is : goal.returns-in_default-clause-is
returns-in_default-clause-is c = λ n numbered.
    let h = c.args.self.now in
    sym (ap (occurs n) (sym c.root.ensures.same) ∙ leaf h n c.root.result c.root.ensures.fits c.in_default.not-Ref c.in_default.not-Str)

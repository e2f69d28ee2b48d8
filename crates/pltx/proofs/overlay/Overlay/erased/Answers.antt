use Rattle.std.proofs.Common.{◌∙◌, sym, ap, arith}
use Rattle.pltx.proofs.Marking.{mark-below, number_below}
use Rattle.pltx.proofs.overlay.Overlay.erased.Goals as goal

pub returns-in-Some : goal.returns-in-Some
returns-in-Some c =
    let t = c.args.target in
    let m = c.args.m in
    ap (number_below m) (sym c.in-Some.is ∙ c.marked.ensures ∙ c.requires.marks t) ∙ mark-below t m 0 m c.args.self.now.updates.items (omega arith)

pub returns-in-None : goal.returns-in-None
returns-in-None c =
    let t = c.args.target in
    let m = c.args.m in
    ap (number_below m) (sym c.in-None.is ∙ c.marked.ensures ∙ c.requires.marks t) ∙ mark-below t m 0 m c.args.self.now.updates.items (omega arith)

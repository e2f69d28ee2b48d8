use Rattle.std.proofs.Common.{arith}
use Rattle.plpacked.proofs.Nesting.{end-last}
use Rattle.plpacked.proofs.unfinished.Unfinished.stage.Goals as goal

pub returns-then-count-gt0 : goal.returns-then-count-gt0
returns-then-count-gt0 c =
    let w = c.args.self.now in
    let n = w.compounds.ok.0 in
    let last = c.index-innermost.ensures in
    let other = c.if-innermost-len.false in
    let e = end-last 1 w.compounds.items c.index-innermost.result.now c.index-innermost.result.now (omega (arith, c.if-count-gt0.true, c.len-count.ensures, n)) (rw (c.len-count.ensures, n) at last) in
    omega (arith, e, c.requires.1.room, other, c.len.ensures, w.values.ok.0)

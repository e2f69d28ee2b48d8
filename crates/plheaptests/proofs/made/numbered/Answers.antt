use Rattle.std.proofs.Common.{◌≡◌, ap, length, arith}
use Rattle.plterm.specs.Variables.{variables}
use Rattle.plterm.proofs.Belows.{AllBelow-copied_0}
use Rattle.plheaptests.proofs.made.numbered.Goals as goal

pub returns : goal.returns
returns c =
    let g = c.args.term.now in
    let many : c.from.result ≡ length (variables g) = grind (arith, c.from.ensures, c.in-Ok.ensures, c.len.ensures, ap length c.in_ok-variables.ensures) in
    rw (c.in_ok-copy.ensures, many) (AllBelow-copied_0 g)

use Rattle.std.proofs.Common.{arith}
use Rattle.pllex.specs.declared.token.Base.TheVariants.{Decimal}
use Rattle.pllex.specs.declared.token.Class.TheVariants.{Digit}
use Rattle.pllex.proofs.RunEnds.{run_some}
use Rattle.pllex.proofs.number.decimal.Goals as goal

pub integer-requires : goal.integer-requires
integer-requires c = omega (arith, run_some (Digit Decimal) c.args.start c.args.text.now c.requires.within c.requires.digit, c.run_end-end.ensures.end)

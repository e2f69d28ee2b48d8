use Rattle.std.proofs.Common.{◌+◌, arith, sym}
use Rattle.pllex.proofs.Decoded.{kept_at}
use Rattle.pllex.proofs.number.bare_code.Goals as goal

pub code_at-requires-clause-utf8 : goal.code_at-requires-clause-utf8
code_at-requires-clause-utf8 c = kept_at c.args.text.now (c.args.start + 2) c.in-Some.rest (omega arith) (sym c.in-Some.ensures.value)

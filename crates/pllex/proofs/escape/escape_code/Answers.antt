use Rattle.std.proofs.Common.{arith, sym, ◌∙◌}
use Rattle.pllex.proofs.Escapes.{code_is}
use Rattle.pllex.proofs.escape.escape_code.Goals as goal

pub returns-in-Is-clause-value : goal.returns-in-Is-clause-value
returns-in-Is-clause-value c = sym (code_is c.loop-place.escape c.in-Is.c c.loop-place.place c.args.text.now (omega arith) (sym c.in-Is.ensures)) ∙ c.loop-place.invariant.same

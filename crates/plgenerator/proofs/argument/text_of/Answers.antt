use Rattle.std.proofs.Common.{sym, arith, subst}
use Rattle.std.proofs.lemmas.Str.{is_utf8-from_IsUtf8}
use Rattle.plterm.specs.Reading.{IsName}
use Rattle.plgenerator.proofs.argument.text_of.Goals as goal

pub returns-in_ok-new-in-Integer-clause-name : goal.returns-in_ok-new-in-Integer-clause-name
returns-in_ok-new-in-Integer-clause-name c =
    subst IsName (sym c.in_ok-new-in-Integer.ensures) (omega (arith, c.format.ensures.short), is_utf8-from_IsUtf8 c.format.result.now c.format.utf8)

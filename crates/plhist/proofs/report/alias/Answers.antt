use Rattle.std.proofs.Common.{◌∙◌, sym, ap}
use Rattle.plhist.specs.Report.{alias_text}
use Rattle.plhist.proofs.Aliases.{alias-main, alias-none}
use Rattle.plhist.proofs.report.alias.Goals as goal

pub returns-then-number-eq1 : goal.returns-then-number-eq1
returns-then-number-eq1 c = λ h. sym (ap alias_text (alias-main h c.args.thread (sym c.get-number.ensures ∙ c.if-number-eq1.true)))

pub returns-else-number-eq1 : goal.returns-else-number-eq1
returns-else-number-eq1 c = λ h. sym (ap alias_text (alias-none h c.args.thread (λ is. c.if-number-eq1.false (c.get-number.ensures ∙ is))))

use Rattle.std.proofs.Common.{◌∙◌, ap, sym}
use Rattle.plnames.specs.Names.{kept, rows}
use Rattle.plnames.proofs.Entries.{flat, kind_noted}
use Rattle.plnames.proofs.table.NameTable.kind_of.Goals as goal

pub returns-in_err-noted : goal.returns-in_err-noted
returns-in_err-noted c = c.from_residual.ensures ∙ sym (ap flat c.in_err-noted.was) ∙ ap flat c.noted.ensures ∙ kind_noted rows kept c.args.name.now c.args.arity

pub returns : goal.returns
returns c = sym (ap flat c.in_ok-noted.was) ∙ ap flat c.noted.ensures ∙ kind_noted rows kept c.args.name.now c.args.arity

use Rattle.std.proofs.Common.{◌∙◌, sym}
use Rattle.plclause.proofs.Conversions.{converted_again}
use Rattle.plclause.proofs.form.form_of.Goals as goal

pub new-requires-clause-goal : goal.new-requires-clause-goal
new-requires-clause-goal c = rw c.root.ensures (converted_again c.args.body.now c.in-Some.goal (sym c.in_ok-convert.ensures ∙ c.in-Some.is))

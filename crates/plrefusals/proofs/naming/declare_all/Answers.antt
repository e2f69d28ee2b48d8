use Rattle.std.proofs.Common.{Some, ap, sym, ◌∙◌}
use Rattle.std.specs.Option.{option_map}
use Rattle.plerror.specs.Errors.{static_error}
use Rattle.plrefusals.proofs.naming.declare_all.Goals as goal

pub returns-in-Some : goal.returns-in-Some
returns-in-Some c = ap (option_map static_error) (sym (rw (c.in-Some.is, c.deref.ensures.value) at c.first_static.ensures)) ∙ ap Some (sym c.in_ok-error.ensures)

pub returns : goal.returns
returns c = (ap (option_map static_error) (sym (rw (c.in_default.is, c.deref.ensures.value) at c.first_static.ensures)), c.in_ok-updates.ensures)

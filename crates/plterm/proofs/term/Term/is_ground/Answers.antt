use Rattle.std.proofs.Common.{◌∙◌, ap, not}
use Rattle.std.specs.List.{list_any}
use Rattle.plterm.specs.Ground.{is_ground, is_var}
use Rattle.plterm.proofs.Grounds.{ground-is}
use Rattle.plterm.proofs.term.Term.is_ground.Goals as goal

pub returns : goal.returns
returns c =
    ap not (c.has_variable.ensures ∙ ap (list_any is_var) c.deref.ensures.value)
    ∙ ground-is c.self.inside.nodes.items c.self.invariant
    ∙ ap is_ground c.self.view_is

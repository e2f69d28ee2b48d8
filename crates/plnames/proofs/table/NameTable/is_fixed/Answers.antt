use Rattle.std.proofs.Common.{◌∙◌, ap, is_some, List, ℕ}
use Rattle.plnames.specs.Names.{kept, rows, is_fixed}
use Rattle.plnames.specs.declared.kind.Kind.{Kind}
use Rattle.plnames.proofs.Entries.{fixed_noted}
use Rattle.plnames.proofs.table.NameTable.is_fixed.Goals as goal

pub returns : goal.returns
returns c =
    c.is_some.ensures ∙ ap is_some c.noted.ensures
    ∙ fixed_noted rows kept (record { name = c.as_str.result.now; arity = c.args.indicator.now.arity })
    ∙ ap (λ (n : List ℕ). is_fixed (record { name = n; arity = c.args.indicator.now.arity })) c.as_str.ensures

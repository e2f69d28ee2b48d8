use Rattle.std.proofs.Common.{sym, ◌∙◌, ap, nat_eq, length}
use Rattle.plterm.proofs.Forests.{list_of-trees}
use Rattle.plrecords.proofs.record.has_arity.Goals as goal

pub returns : goal.returns
returns c = ap (λ n. nat_eq n c.args.arity) (c.len.ensures ∙ ap length (sym (list_of-trees c.args.args.now)))

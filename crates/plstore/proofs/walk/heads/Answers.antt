use Rattle.std.proofs.Common.{sym, subst}
use Rattle.plstore.specs.Merged.{MayBegin}
use Rattle.plstore.proofs.walk.heads.Goals as goal

pub returns-then-is_one-clause-any : goal.returns-then-is_one-clause-any
returns-then-is_one-clause-any c =
    subst (λ ch. MayBegin c.args.tables.now c.args.sought.now ch c.args.part c.start-own.result) (sym (c.is_one.ensures c.if-is_one.true)) c.start-own.ensures

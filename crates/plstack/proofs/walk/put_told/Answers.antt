use Rattle.std.proofs.Common.{◌∙◌, subst, sym}
use Rattle.std.specs.Prelude.{IfOk}
use Rattle.plenv.specs.Changes.{Puts}
use Rattle.plstack.proofs.Pairing.{true_over}
use Rattle.plstack.proofs.walk.put_told.Goals as goal

pub returns-then-is_true-clause-ok : goal.returns-then-is_true-clause-ok
returns-then-is_true-clause-ok c =
    subst (λ t. IfOk c.put_true.result (λ v. Puts c.args.env.now c.put_true.new.env v t)) (sym (true_over c.args.env.now.heap c.args.values.now c.args.body.now (sym c.is_true.ensures ∙ c.if-is_true.true))) c.put_true.ensures.ok

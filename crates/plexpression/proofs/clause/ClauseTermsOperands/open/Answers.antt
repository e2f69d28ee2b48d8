use Rattle.std.proofs.Common.{sym, subst}
use Rattle.std.proofs.lemmas.Result.{IfOk-weaker}
use Rattle.plcells.specs.Store.{value}
use Rattle.plarith.specs.Operands.{Opens}
use Rattle.plarith.specs.declared.operand.Operand.{Operand}
use Rattle.plexpression.specs.Nodes.{IsOperand, tree}
use Rattle.plexpression.proofs.Clauses.{opens_value}
use Rattle.plexpression.proofs.clause.ClauseTermsOperands.open.Goals as goal

pub returns-in-Value : goal.returns-in-Value
returns-in-Value c =
    let e = c.args.self.now.env.now in
    let nodes = c.args.self.now.nodes.now in
    let base = c.args.self.now.base in
    let found = rw c.heap.ensures.is at c.open_value.ensures in
    IfOk-weaker _ _ _ (λ o opens. subst (λ (p : Operand). Opens (tree e nodes base) (IsOperand e nodes base) (tree e nodes base p) o) (sym c.in-Value.is) (opens_value e nodes base (value e.heap c.in-Value.v) o opens)) found

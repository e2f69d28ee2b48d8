use Rattle.std.proofs.Common.{◌≡◌, ap, sym, ◌∙◌, subst}
use Rattle.platoms.specs.Names.{IsTable}
use Rattle.plnames.specs.declared.kind.BuiltIn.TheVariants as predicates
use Rattle.plcode.specs.Callees.{callee_at}
use Rattle.plcode.specs.declared.callee.Callee.TheVariants as callees
use Rattle.plcode.specs.declared.callee.Number.TheVariants.{Functor}
use Rattle.plstack.specs.Arguments.{IsArgument}
use Rattle.plmachine.specs.Calculating.{IsArithmetic}
use Rattle.plmachine.specs.Selected.{StandsFor}
use Rattle.plmachine.proofs.Calculating.{arithmetic-callee, calculation-is, if-none, node-of}
use Rattle.plmachine.proofs.machine.Machine.calculation.Goals as goal

pub returns-clause-some : goal.returns-clause-some
returns-clause-some c = λ P t begun stands.
    let s = c.args.self.now in
    let r = c.in-Node.run' in
    let at_node = subst (λ src. StandsFor s.stack src t) c.in-Node.is stands in
    let table = subst (λ e. IsTable e.heap.names) c.env.ensures c.heap.ensures.env.heap.names in
    let pair = c.in_ok-pair.ensures.some r at_node.0 at_node.1 in
    let callee = sym (ap (λ m. callee_at m.callees (Functor c.in_ok-pair.pair.functor)) c.code.ensures.is) ∙ sym c.callee_of_functor.ensures ∙ c.in-BuiltIn.is ∙ ap callees.BuiltIn c.in-Arithmetic.is in
    calculation-is P s begun c.code.ensures.names table r at_node.0 c.in_ok-pair.pair pair c.in-Node.node t c.in-Arithmetic.predicate at_node.1 at_node.2 callee

pub returns-in_err-pair-clause-none : goal.returns-in_err-pair-clause-none
returns-in_err-pair-clause-none c = λ P r node t begun at there.
    let s = c.args.self.now in
    let here = subst (λ n. IsArgument s.stack r n t) (node-of r c.in-Node.run' node c.in-Node.node (sym at ∙ c.in-Node.is)) there in
    if-none c.from_residual.result (λ (a : IsArithmetic t). c.in_err-pair.ensures.none r t here a.name a.left a.right a.is)

pub returns-in_default-callee_of_functor-clause-none : goal.returns-in_default-callee_of_functor-clause-none
returns-in_default-callee_of_functor-clause-none c = λ P r node t begun at there a.
    let s = c.args.self.now in
    let here = subst (λ n. IsArgument s.stack r n t) (node-of r c.in-Node.run' node c.in-Node.node (sym at ∙ c.in-Node.is)) there in
    let table = subst (λ e. IsTable e.heap.names) c.env.ensures c.heap.ensures.env.heap.names in
    let callee = arithmetic-callee P s begun c.code.ensures.names table r t c.in_ok-pair.pair (c.in_ok-pair.ensures.some r t here) a in
    let found = c.callee_of_functor.ensures ∙ ap (λ m. callee_at m.callees (Functor c.in_ok-pair.pair.functor)) c.code.ensures.is ∙ callee in
    c.in_default-callee_of_functor.not-BuiltIn _ found

pub returns-in_default-called-clause-none : goal.returns-in_default-called-clause-none
returns-in_default-called-clause-none c = λ P r node t begun at there a.
    let s = c.args.self.now in
    let here = subst (λ n. IsArgument s.stack r n t) (node-of r c.in-Node.run' node c.in-Node.node (sym at ∙ c.in-Node.is)) there in
    let table = subst (λ e. IsTable e.heap.names) c.env.ensures c.heap.ensures.env.heap.names in
    let callee = arithmetic-callee P s begun c.code.ensures.names table r t c.in_ok-pair.pair (c.in_ok-pair.ensures.some r t here) a in
    let found : callees.BuiltIn c.in-BuiltIn.called ≡ callees.BuiltIn (predicates.Arithmetic a.predicate) = sym c.in-BuiltIn.is ∙ c.callee_of_functor.ensures ∙ ap (λ m. callee_at m.callees (Functor c.in_ok-pair.pair.functor)) c.code.ensures.is ∙ callee in
    let same : c.in-BuiltIn.called ≡ predicates.Arithmetic a.predicate = cc in
    c.in_default-called.not-Arithmetic a.predicate same

use Rattle.std.proofs.Common.{◌≡◌, sym, rules, subst}
use Rattle.std.proofs.lemmas.Result.{IfOk-weaker}
use Rattle.plterm.specs.Tree.{int, var, atom}
use Rattle.plterm.specs.Variables.{AllBelow}
use Rattle.plsubst.specs.Subst.{bind}
use Rattle.plcells.specs.Store.{value}
use Rattle.plbuiltin.specs.Pieces.{as_text}
use Rattle.plbuiltin.specs.Texts.{number_text}
use Rattle.plgenerator.proofs.Equations.{bound-text, bound-variable}
use Rattle.plgenerator.proofs.Known.{text-other}
use Rattle.plgenerator.proofs.equation.side.Goals as goal

pub returns-in-Integer-clause-is : goal.returns-in-Integer-clause-is
returns-in-Integer-clause-is c = λ σ bound.
    let v = value c.args.heap.now c.args.v in
    let s = c.format.result.now in
    let i = c.in-Integer.i in
    let text : s ≡ number_text i = search rules in
    let number : v ≡ int i = search rules in
    IfOk-weaker c.atom.result (λ t. t ≡ atom s) (λ t. bind σ t ≡ as_text v) (λ t is. bound-text σ t v s i is text number) c.atom.ensures

pub returns-in_default : goal.returns-in_default
returns-in_default c =
    let h = c.args.heap.now in
    let v = value h c.args.v in
    let x = c.args.x in
    record {
      is = λ σ bound. IfOk-weaker c.var.result (λ t. t ≡ var x) (λ t. bind σ t ≡ as_text v)
          (λ t is. bound-variable σ t v x is bound (text-other h v c.shape_of.result c.shape_of.ensures c.in_default.not-Integer)) c.var.ensures;
      below = λ n lt. IfOk-weaker c.var.result (λ t. t ≡ var x) (AllBelow n) (λ t is. subst (AllBelow n) (sym is) lt) c.var.ensures;
    }

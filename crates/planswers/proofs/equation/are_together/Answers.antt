use Rattle.std.proofs.Common.{◌≡◌, ◌+◌, length, sym, ap, ap₂, ◌∙◌, arith, rules, subst, [], ◌∷◌}
use Rattle.plterm.specs.Variables.{AllBelow}
use Rattle.plsubst.specs.Subst.{bind}
use Rattle.plcells.specs.Equations.{filled}
use Rattle.plbuiltin.specs.Parts.{variables_from}
use Rattle.plbuiltin.specs.Solution.{Gives, together}
use Rattle.planswers.proofs.Filling.{below-more, below-variables, bind-closed, bind-together}
use Rattle.planswers.proofs.equation.are_together.Goals as goal

pub returns-clause-is : goal.returns-clause-is
returns-clause-is c = λ h s n.
    let vs = c.args.values.items in
    let k = c.len.result in
    let many : k ≡ length vs = search rules in
    let left : c.in_ok-left.left ≡ together (variables_from 0 k) = search rules in
    ap₂ (λ l r. Gives (record { left = l; right = r; new = 0 } ∷ []) [] s)
    (ap (bind (filled h vs n)) left ∙ bind-together h vs n k many)
    (bind-closed (filled h vs n) c.args.right c.requires.right)

pub returns-clause-there : goal.returns-clause-there
returns-clause-there c = λ h are.
    let m = length c.args.values.items + 0 in
    let k = c.len.result in
    let many : k ≡ length c.args.values.items = search rules in
    let left : c.in_ok-left.left ≡ together (variables_from 0 k) = search rules in
    record {
      values = are;
      left = subst (AllBelow m) (sym left) (below-variables m 0 k (omega (arith, many)));
      right = below-more 0 m (omega arith) c.args.right c.requires.right;
    }

use Rattle.std.proofs.Common.{◌≡◌, ◌∷◌, length, ap, arith, rules}
use Rattle.plterm.specs.Tree.{var}
use Rattle.plbuiltin.specs.Parts.{variables_from}
use Rattle.plbuiltin.specs.Solution.{together}
use Rattle.plgenerator.proofs.Grouping.{length-variables, group-is, group-values, group-left, group-right}
use Rattle.plgenerator.proofs.group.group_equation.Goals as goal

pub together-requires-clause-few : goal.together-requires-clause-few
together-requires-clause-few c = omega (arith, ap length c.in_ok-variables.ensures, length-variables)

pub returns-clause-is : goal.returns-clause-is
returns-clause-is c = λ h n.
    let vs = c.args.args.now in
    let ws = c.extend_from_slice.new.self.items in
    let values : ws ≡ c.args.group ∷ vs = search rules in
    let left : c.in_ok-left.left ≡ together (variables_from 1 (length vs)) = search rules in
    let right : c.in_ok-right.right ≡ var 0 = search rules in
    group-is h c.args.group vs ws c.in_ok-left.left c.in_ok-right.right values left right n

pub returns-clause-there : goal.returns-clause-there
returns-clause-there c = λ h all one.
    let vs = c.args.args.now in
    let ws = c.extend_from_slice.new.self.items in
    let f = c.in_ok-left.left in
    let g = c.in_ok-right.right in
    let values : ws ≡ c.args.group ∷ vs = search rules in
    let left : f ≡ together (variables_from 1 (length vs)) = search rules in
    let right : g ≡ var 0 = search rules in
    record {
      values = group-values h c.args.group vs ws f g values left right all one;
      left = group-left h c.args.group vs ws f g values left right;
      right = group-right h c.args.group vs ws f g values left right;
    }

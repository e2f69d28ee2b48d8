use Rattle.std.proofs.Common.{◌≡◌, ◌∙◌, sym, ap₂, w64, FitsSigned, rules}
use Rattle.std.proofs.lemmas.Int.{to_z-of_z}
use Rattle.plarith.specs.Operations.{binary}
use Rattle.plarith.specs.Evaluation.{eval, with_two}
use Rattle.plexpression.proofs.clause.of_numbers.Goals as goal

pub returns : goal.returns
unfolding eval
returns c =
    let x : FitsSigned w64 c.in_ok-x.x = search rules in
    let y : FitsSigned w64 c.in_ok-y.y = search rules in
    let applied : c.apply.result ≡ binary c.args.f c.in_ok-x.x c.in_ok-y.y = c.apply.ensures ∙ ap₂ (binary c.args.f) (to_z-of_z w64 c.in_ok-x.x x) (to_z-of_z w64 c.in_ok-y.y y) in
    applied ∙ sym (ap₂ (λ t u. with_two c.args.f (eval t) (eval u)) c.in_ok-x.ensures c.in_ok-y.ensures)

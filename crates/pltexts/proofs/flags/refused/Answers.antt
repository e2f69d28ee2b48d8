use Rattle.std.proofs.Common.{◌≡◌, sym, ap, ◌∙◌, rules}
use Rattle.std.proofs.lemmas.Result.{IfOk-weaker}
use Rattle.plterm.specs.Tree.{atom}
use Rattle.plbuiltin.specs.Flags.{refused_as}
use Rattle.plerror.specs.Errors.{permission_error}
use Rattle.std.proofs.Common.{codes}
use Rattle.pltexts.proofs.Errors.{refused_other}
use Rattle.pltexts.proofs.flags.refused.Goals as goal

pub returns-in_default : goal.returns-in_default
returns-in_default c =
    let r = c.args.refusal.now in
    let name : c.in_ok-name.name ≡ atom r.name = search rules in
    let is : permission_error (codes "create") (codes "operator") c.in_ok-name.name ≡ refused_as r.cause (atom r.name) =
    ap (permission_error (codes "create") (codes "operator")) name ∙ sym (refused_other r.cause (atom r.name) c.in_default.not-Comma) in
    IfOk-weaker c.permission_error-in_default.result (λ t. t ≡ permission_error (codes "create") (codes "operator") c.in_ok-name.name) (λ t. t ≡ refused_as r.cause (atom r.name)) (λ t e. e ∙ is) c.permission_error-in_default.ensures

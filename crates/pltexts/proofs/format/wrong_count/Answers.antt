use Rattle.std.proofs.Common.{◌≡◌, IfOk, codes, sym, ap, ◌∙◌, subst}
use Rattle.plterm.specs.Tree.{Tree}
use Rattle.plerror.specs.Errors.{domain_error}
use Rattle.pltexts.specs.Format.{given}
use Rattle.pltexts.proofs.format.wrong_count.Goals as goal
use Rattle.pltexts.proofs.format.wrong_count.Goals.{in-Some+in_ok-culprit-in-Some, in-None+in_ok-culprit-in-None}

pub returns : goal.returns
returns c =
    let h = c.args.heap.now in
    let culprit : c.match-arguments.culprit ≡ given h c.args.arguments = elim c.match-arguments.branch [
      | in-Some+in_ok-culprit-in-Some w ↦ w.culprit-is ∙ w.in_ok-culprit-in-Some.ensures ∙ sym (ap (given h) w.in-Some.is)
      | in-None+in_ok-culprit-in-None w ↦ w.culprit-is ∙ w.in_ok-culprit-in-None.ensures ∙ sym (ap (given h) w.in-None.is)
    ] in
    subst (λ (a : Tree). IfOk c.domain_error.result (λ t. t ≡ domain_error (codes "format_arguments") a)) culprit c.domain_error.ensures

use Rattle.std.proofs.Common.{◌≡◌, IfOk, codes, sym, ap, ◌∙◌, subst}
use Rattle.plcells.specs.Store.{value}
use Rattle.plerror.specs.Errors.{permission_error}
use Rattle.plprogram.specs.declared.change.FlagError.{FlagError}
use Rattle.plbuiltin.specs.Flags.{unset_as}
use Rattle.planswers.specs.declared.answer.Answer.TheVariants.{Raises}
use Rattle.pltexts.proofs.flags.unset.Goals as goal

pub returns-in-NoFlag : goal.returns-in-NoFlag
returns-in-NoFlag c =
    let h = c.args.heap.now in
    subst (λ (e : FlagError). IfOk c.outside.result (λ answer. answer ≡ Raises (unset_as e (value h c.args.flag) (value h c.args.v)))) (sym c.in-NoFlag.is) c.outside.ensures

pub returns-in_ok-term-in-ReadOnly : goal.returns-in_ok-term-in-ReadOnly
returns-in_ok-term-in-ReadOnly c =
    let h = c.args.heap.now in
    ap Raises (c.in_ok-term-in-ReadOnly.ensures ∙ ap (permission_error (codes "modify") (codes "flag")) c.in_ok-culprit-in-ReadOnly.ensures)
    ∙ sym (ap (λ (e : FlagError). Raises (unset_as e (value h c.args.flag) (value h c.args.v))) c.in-ReadOnly.is)

pub returns-in_ok-value_error-in-NoValue : goal.returns-in_ok-value_error-in-NoValue
returns-in_ok-value_error-in-NoValue c =
    let h = c.args.heap.now in
    ap Raises c.in_ok-value_error-in-NoValue.ensures ∙ sym (ap (λ (e : FlagError). Raises (unset_as e (value h c.args.flag) (value h c.args.v))) c.in-NoValue.is)

use Rattle.std.proofs.Common.{◌≡◌, false, ap, ap₂, sym, ◌∙◌}
use Rattle.plsearch.specs.Types.{Throw}
use Rattle.plcells.specs.Store.{value}
use Rattle.plstack.specs.State.{goals_of}
use Rattle.plterm.specs.Variables.{copied}
use Rattle.plbuiltin.specs.Lists.{is_variable}
use Rattle.plmachine.proofs.Askable.{named-by}
use Rattle.plmachine.proofs.Moves.{throws}
use Rattle.plmachine.proofs.machine.Machine.throw.Goals as goal

pub returns-clause-ok : goal.returns-clause-ok
returns-clause-ok c P =
    let s = c.args.self.now in
    let heap = c.heap.ensures.is ∙ ap (λ e. e.heap) c.env.ensures in
    let heap-2 = c.heap-2.ensures.is ∙ ap (λ e. e.heap) c.env-2.ensures in
    let other : is_variable (value s.stack.env.heap c.args.ball) ≡ false = sym (ap (λ h. is_variable (value h c.args.ball)) heap) ∙ sym c.is_variable.ensures ∙ c.if-is_variable.false in
    let copy = c.in_ok-copy.ensures ∙ ap (copied 0) (c.in_ok-term.ensures ∙ ap (λ h. value h c.args.ball) heap-2) in
    throws P s c.give.new.self (value s.stack.env.heap c.args.ball) (goals_of s.stack c.args.rest) _ other (ap₂ Throw copy c.in_ok-levels.ensures.is)
    (named-by s.stack c.args.rest c.in_ok-levels.levels.items c.in_ok-levels.ensures.named c.requires.fits) c.give.ensures

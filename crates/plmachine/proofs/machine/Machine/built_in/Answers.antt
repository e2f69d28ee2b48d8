use Rattle.std.proofs.Common.{ap, map, ◌∙◌, subst}
use Rattle.plcells.specs.Store.{value}
use Rattle.plclause.specs.Indicators.{indicator}
use Rattle.plbuiltin.specs.Solutions.{solutions}
use Rattle.planswers.specs.Answers.{IsThere}
use Rattle.plsearch.specs.Rows.{offer}
use Rattle.plstack.specs.State.{goals_of}
use Rattle.plmachine.specs.Machine.{local_of}
use Rattle.plmachine.proofs.Moves.{moved-as, on_ok_map}
use Rattle.plmachine.proofs.machine.Machine.built_in.Goals as goal

pub carry_out-requires-clause-answer : goal.carry_out-requires-clause-answer
carry_out-requires-clause-answer c =
    let heap = c.heap-heap.ensures.is ∙ ap (λ e. e.heap) c.env.ensures in
    subst (λ h. IsThere h c.in_ok-answer.answer) heap c.in_ok-answer.ensures.there

pub returns-clause-ok : goal.returns-clause-ok
returns-clause-ok c P b t stands =
    let s = c.args.self.now in
    let n = s.stack.env.count in
    let heap = c.heap-heap.ensures.is ∙ ap (λ e. e.heap) c.env.ensures in
    let is = rw heap at (c.in_ok-answer.ensures.is n) in
    let args = ap (λ xs. solutions c.args.b (map (value s.stack.env.heap) xs) s.settings n) c.deref.ensures.value in
    on_ok_map c.carry_out.result (moved-as P s c.carry_out.new.self _ _ (ap (λ x. offer x (indicator t) (goals_of s.stack c.args.rest) n (local_of s)) (is ∙ args))) ((c.carry_out.ensures.ok P b) t stands)

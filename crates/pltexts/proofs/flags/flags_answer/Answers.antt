use Rattle.std.proofs.Common.{◌≡◌, ℕ, Ok, map, sym, ap, ap₂, ◌∙◌}
use Rattle.std.proofs.lemmas.Result.{IfOk-weaker}
use Rattle.plcells.specs.Store.{Store, value}
use Rattle.plbuiltin.specs.Current.{current_op, current_flag}
use Rattle.plbuiltin.specs.Flags.{on_flags, op, set_flag}
use Rattle.plnames.specs.declared.kind.Flags.{Flags}
use Rattle.planswers.specs.Answers.{IsThere, meant}
use Rattle.pltexts.specs.Flags.{asked_as}
use Rattle.pltexts.proofs.Arguments.{list-three, list-two, means}
use Rattle.pltexts.proofs.flags.flags_answer.Goals as goal

pub returns-in-Ok-clause-is : goal.returns-in-Ok-clause-is
returns-in-Ok-clause-is c =
    let h = c.args.heap.now in
    let s = c.args.settings.now in
    let asked = asked_as (Ok c.in-Ok.asked) in
    let args = list-three c.args.args.now c.priority-item.result c.kind-item.result c.names-item.result c.in-Operator-len3.len_at_least c.in-Operator-len3.len_below c.priority-item.is c.kind-item.is c.names-item.is in
    let same : op asked s ≡ on_flags c.args.b (map (value h) c.args.args.now) s =
    ap (λ r. op r s) (ap asked_as (sym c.in-Ok.is) ∙ c.in_ok-asked-in-Operator-len3.ensures)
    ∙ sym (ap₂ (λ (b : Flags) xs. on_flags b (map (value h) xs) s) c.in-Operator-len3.is-0 args) in
    means c.operators.result h s (op asked s) (on_flags c.args.b (map (value h) c.args.args.now) s)
    (IfOk-weaker c.operators.result (λ answer. (h : Store) (n : ℕ) → meant h s n answer ≡ op asked s) (λ answer. (n : ℕ) → meant h s n answer ≡ op asked s) (λ answer e. e h) c.operators.ensures.is)
    same

pub returns-in-Ok-clause-there : goal.returns-in-Ok-clause-there
returns-in-Ok-clause-there c =
    let h = c.args.heap.now in
    IfOk-weaker c.operators.result (λ answer. (h : Store) → IsThere h answer) (IsThere h) (λ answer i. i h) c.operators.ensures.there

pub returns-in-CurrentOperator-len3-clause-is : goal.returns-in-CurrentOperator-len3-clause-is
returns-in-CurrentOperator-len3-clause-is c =
    let h = c.args.heap.now in
    let s = c.args.settings.now in
    let p = c.priority-item-then-this-lt4-2.result in
    let k = c.kind-item-then-this-lt4-2.result in
    let n = c.name-item.result in
    let args = list-three c.args.args.now p k n c.in-CurrentOperator-len3.len_at_least c.in-CurrentOperator-len3.len_below c.priority-item-then-this-lt4-2.is c.kind-item-then-this-lt4-2.is c.name-item.is in
    means c.current_op.result h s (current_op (value h p) (value h k) (value h n) s) (on_flags c.args.b (map (value h) c.args.args.now) s) c.current_op.ensures.is
    (sym (ap₂ (λ (b : Flags) xs. on_flags b (map (value h) xs) s) c.in-CurrentOperator-len3.is-0 args))

pub returns-in-CurrentOperator-len3-clause-there : goal.returns-in-CurrentOperator-len3-clause-there
returns-in-CurrentOperator-len3-clause-there c = c.current_op.ensures.there

pub returns-in-Set-len2-clause-is : goal.returns-in-Set-len2-clause-is
returns-in-Set-len2-clause-is c =
    let h = c.args.heap.now in
    let s = c.args.settings.now in
    let f = c.flag-item.result in
    let v = c.value-item.result in
    let args = list-two c.args.args.now f v c.in-Set-len2.len_at_least c.in-Set-len2.len_below c.flag-item.is c.value-item.is in
    means c.set_flag.result h s (set_flag (value h f) (value h v) s) (on_flags c.args.b (map (value h) c.args.args.now) s) c.set_flag.ensures.is
    (sym (ap₂ (λ (b : Flags) xs. on_flags b (map (value h) xs) s) c.in-Set-len2.is-0 args))

pub returns-in-Set-len2-clause-there : goal.returns-in-Set-len2-clause-there
returns-in-Set-len2-clause-there c = c.set_flag.ensures.there

pub returns-in-Current-len2-clause-is : goal.returns-in-Current-len2-clause-is
returns-in-Current-len2-clause-is c =
    let h = c.args.heap.now in
    let s = c.args.settings.now in
    let f = c.flag-item-then-this-lt3-3.result in
    let v = c.value-item-then-this-lt3-3.result in
    let args = list-two c.args.args.now f v c.in-Current-len2.len_at_least c.in-Current-len2.len_below c.flag-item-then-this-lt3-3.is c.value-item-then-this-lt3-3.is in
    means c.current_flag.result h s (current_flag (value h f) (value h v) s) (on_flags c.args.b (map (value h) c.args.args.now) s) c.current_flag.ensures.is
    (sym (ap₂ (λ (b : Flags) xs. on_flags b (map (value h) xs) s) c.in-Current-len2.is-0 args))

pub returns-in-Current-len2-clause-there : goal.returns-in-Current-len2-clause-there
returns-in-Current-len2-clause-there c = c.current_flag.ensures.there

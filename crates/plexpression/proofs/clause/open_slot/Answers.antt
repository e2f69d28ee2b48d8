use Rattle.std.proofs.Common.{ap, sym, ◌∙◌}
use Rattle.plenv.specs.Env.{variable, slot_term}
use Rattle.plarith.specs.Values.{IsOperand as IsHeapOperand, tree as heap_tree}
use Rattle.plarith.proofs.Opening.{opens_unbound}
use Rattle.plexpression.proofs.clause.open_slot.Goals as goal

pub returns-in-Free : goal.returns-in-Free
returns-in-Free c =
    let h = c.args.env.now.heap in
    opens_unbound (heap_tree h) (IsHeapOperand h) (variable c.args.env.now c.args.slot) c.in-Free.field-0 (ap (slot_term h) (sym c.slot.ensures.is ∙ c.in-Free.is))

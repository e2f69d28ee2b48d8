use Rattle.std.proofs.Common.{◌≡◌, w64, to_z, of_z, Some, sym, ap, ◌∙◌, rules}
use Rattle.plcells.specs.Store.{value}
use Rattle.plbuiltin.specs.Current.{priority_error}
use Rattle.pltexts.proofs.Errors.{no_priority, priority_above, priority_below, priority_within}
use Rattle.pltexts.proofs.current.priority_error.Goals as goal
use Rattle.pltexts.proofs.current.priority_error.Goals.{in_default-via-in-Integer+then-number-ge0+else-number-le1200, in_default-via-in-Integer+else-number-ge0, in_default-via-in_default}

pub returns-in-Variable : goal.returns-in-Variable
returns-in-Variable c = sym (ap priority_error c.in-Variable.ensures)

pub returns-in-Integer : goal.returns-in-Integer
returns-in-Integer c =
    let i = c.in-Integer.number in
    let given : to_z w64 (of_z w64 i) ≡ i = search rules in
    sym (priority_within (value c.args.heap.now c.args.v) i c.in-Integer.ensures (rw given at c.if-number-ge0.true) (rw given at c.if-number-le1200.true))

pub returns-in_ok-outside_error-in_default : goal.returns-in_ok-outside_error-in_default
returns-in_ok-outside_error-in_default c =
    let h = c.args.heap.now in
    let t = value h c.args.v in
    ap Some c.in_ok-outside_error-in_default.ensures ∙ sym (elim c.in_default.branch [
      | in_default-via-in-Integer+then-number-ge0+else-number-le1200 w ↦
          let i = w.in-Integer.number in
          let given : to_z w64 (of_z w64 i) ≡ i = search rules in
          priority_above t i w.in-Integer.ensures (rw given at w.if-number-ge0.true) (rw given at w.if-number-le1200.false)
      | in_default-via-in-Integer+else-number-ge0 w ↦
          let i = w.in-Integer.number in
          let given : to_z w64 (of_z w64 i) ≡ i = search rules in
          priority_below t i w.in-Integer.ensures (rw given at w.if-number-ge0.false)
      | in_default-via-in_default w ↦ no_priority h t c.shape_of.result c.shape_of.ensures w.in_default.not-Variable w.in_default.not-Integer
    ])

use Rattle.std.proofs.Common.{◌≡◌, ◌∷◌, [], false, true, sym, ◌∙◌}
use Rattle.plcells.specs.declared.cell.Argument.TheVariants.{Value, Variable}
use Rattle.plcells.specs.Putting.{AreGiven}
use Rattle.plcells.proofs.Given.{given-in, solid-in, solid-more}
use Rattle.plcells.proofs.heap.Heap.are_solid.Goals as goal
use Rattle.plcells.proofs.heap.Heap.are_solid.Goals.{in-Value+else-not-is_solid, in_default}

no : false ≡ true → ⊥
no e = cc

pub is_solid-requires : goal.is_solid-requires
is_solid-requires c =
    let h = c.args.self.now in
    let xs = c.args.arguments.now in
    let g : AreGiven h (Value c.in-Value.v ∷ []) = given-in h xs c.loop-a.a-index _ (Value c.in-Value.v) c.requires c.loop-a-test.true (sym c.a-item.is ∙ c.in-Value.is) in
    g.0

pub returns-then-not-is_solid : goal.returns-then-not-is_solid
returns-then-not-is_solid c =
    let h = c.args.self.now in
    let xs = c.args.arguments.now in (
      λ t. absurd (no t),
      λ are. absurd (no (sym c.if-not-is_solid.true ∙ c.is_solid.ensures.1 (solid-in h xs c.loop-a.a-index _ c.in-Value.v are c.loop-a-test.true (sym c.a-item.is ∙ c.in-Value.is)))),
    )

pub loop-a-preserved : goal.loop-a-preserved
loop-a-preserved c =
    let h = c.args.self.now in
    let xs = c.args.arguments.now in
    let i = c.loop-a.a-index in
    elim c.match-a.branch [
      | in-Value+else-not-is_solid w ↦ solid-more h xs i _ w.in-Value.v c.loop-a.invariant c.loop-a-test.true (sym c.a-item.is ∙ w.in-Value.is) (w.is_solid.ensures.0 w.if-not-is_solid.false)
      | in_default w ↦
          let g : AreGiven h (Variable w.in_default.field-0 ∷ []) = given-in h xs i _ (Variable w.in_default.field-0) c.requires c.loop-a-test.true (sym c.a-item.is ∙ w.in_default.is) in
          absurd g
    ]

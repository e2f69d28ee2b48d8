use Rattle.std.proofs.Common.{◌≡◌, []}
use Rattle.plwrite.specs.declared.place.Position.TheVariants.{At}
use Rattle.plwrite.specs.Words.{text_of}
use Rattle.plwrite.specs.Places.{whole}
use Rattle.plwrite.specs.Writing.{words}
use Rattle.plwrite.specs.Tasks.{awaited, work}
use Rattle.plwrite.proofs.writer.Writer.text_of.Given as goal

abbrev pub invariant-loop-task : goal.invariant-loop-task
invariant-loop-task l = awaited l.notation l.writer l.terms ≡ text_of (words l.notation.ops.now l.notation.style (At whole) l.term [])

abbrev pub decreases-loop-task : goal.decreases-loop-task
decreases-loop-task l = work l.writer l.terms

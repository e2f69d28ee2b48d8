use Rattle.std.proofs.Common.{[], ap, ◌∙◌, subst}
use Rattle.plstack.specs.State.{cases_of}
use Rattle.plstack.specs.StaticCalls.{database_of}
use Rattle.plmachine.specs.declared.machine.Mode.TheVariants as modes
use Rattle.plmachine.specs.Machine.{MayCarry}
use Rattle.plsolver.proofs.Falling.{named-falls}
use Rattle.plsolver.proofs.Runs.{no_views}
use Rattle.plsolver.proofs.progress.Progress.catches.Goals as goal

pub has_level-requires : goal.has_level-requires
has_level-requires c =
    let s = c.args.self.now.machine in
    let db = database_of c.requires.of.0 no_views [] in
    let throws = c.in-Back-Throw.is ∙ ap modes.Back (rw c.in-Back-Throw.is at c.in-Back-Throw.field-0-is) in
    let named = subst (MayCarry s.stack) throws c.requires.of.1.sound.carry db in
    record { falls = rw c.deref.ensures.value (named-falls c.in-Back-Throw.levels.items (cases_of db s.stack) named) }

use Rattle.std.proofs.Common.{◌≡◌, map}
use Rattle.plevent.specs.declared.update.Update.TheVariants.{Declare}
use Rattle.plrefusals.proofs.naming.declarations.Given as goal

abbrev pub invariant-loop-p : goal.invariant-loop-p
invariant-loop-p l = l.updates.items ≡ map Declare l.yielded

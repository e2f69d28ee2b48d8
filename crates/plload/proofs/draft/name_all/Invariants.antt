use Rattle.std.proofs.Common.{◌≡◌, fold}
use Rattle.plload.specs.Draft.{with_name}
use Rattle.plload.proofs.draft.name_all.Given as goal

abbrev pub invariant-loop-indicator : goal.invariant-loop-indicator
invariant-loop-indicator l = l.declared.keys ≡ fold with_name l.initial.declared.keys l.yielded

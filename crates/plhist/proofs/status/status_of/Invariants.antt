use Rattle.std.proofs.Common.{◌≡◌, take}
use Rattle.plevent.specs.Reading.{reading}
use Rattle.plhist.specs.Status.{status_of_main}
use Rattle.plhist.proofs.status.status_of.Given as goal

abbrev pub invariant-loop-entry : goal.invariant-loop-entry
invariant-loop-entry l = record {
  halted : l.halted ≡ (reading (take l.entry-index l.entries)).standing.halted;
  main : l.main ≡ status_of_main (take l.entry-index l.entries);
}

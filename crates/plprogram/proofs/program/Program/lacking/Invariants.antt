use Rattle.std.proofs.Common.{◌≡◌, flat_map, take}
use Rattle.plprogram.specs.Library.{lacked}
use Rattle.plprogram.proofs.program.Program.lacking.Given as goal

abbrev pub invariant-loop-i : goal.invariant-loop-i
invariant-loop-i l = l.found.items ≡ flat_map (lacked l.self) (take l.i l.library.procedures)

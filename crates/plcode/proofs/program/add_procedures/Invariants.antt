use Rattle.std.proofs.Common.{◌++◌, List, take}
use Rattle.plterm.specs.declared.indicator.Indicator.{Indicator}
use Rattle.platoms.specs.Names.{Extends, IsTable}
use Rattle.plcode.specs.declared.callee.Callee.{Callee}
use Rattle.plcode.specs.Callees.{statics, AreEntries}
use Rattle.plcode.proofs.program.add_procedures.Given as goal

abbrev pub invariant-loop-index : goal.invariant-loop-index
invariant-loop-index l = record {
  table : IsTable l.names;
  extends : Extends l.initial.names l.names;
  entries : (ws : List (Indicator × Callee)) → AreEntries l.initial.names ws l.initial.entries.items → AreEntries l.names (ws ++ statics 0 (take l.index l.program.procedures)) l.entries.items;
}

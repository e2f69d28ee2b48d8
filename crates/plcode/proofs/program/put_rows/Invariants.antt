use Rattle.std.proofs.Common.{map, take}
use Rattle.plnames.specs.Entries.{row_of}
use Rattle.platoms.specs.Names.{Extends, IsTable}
use Rattle.plcode.specs.Callees.{row_callee, AreEntries}
use Rattle.plcode.proofs.program.put_rows.Given as goal

abbrev pub invariant-loop-name : goal.invariant-loop-name
invariant-loop-name l = record {
  table : IsTable l.names;
  extends : Extends l.initial.names l.names;
  entries : AreEntries l.names (map row_callee (map row_of (take l.name-index l.rows))) l.entries.items;
}

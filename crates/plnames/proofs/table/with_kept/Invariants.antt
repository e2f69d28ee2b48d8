use Rattle.std.proofs.Common.{◌≡◌, fold, map, take}
use Rattle.plnames.specs.Entries.{entry_row, name_row, put}
use Rattle.plnames.proofs.table.with_kept.Given as goal

abbrev pub invariant-loop-name : goal.invariant-loop-name
invariant-loop-name l = map entry_row l.kinds.entries ≡ fold put (map entry_row l.fn.kinds.entries) (map name_row (take l.name-index l.names))

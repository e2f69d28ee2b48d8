use Rattle.std.proofs.Common.{◌≡◌, [], take, bytes_eq}
use Rattle.indexmap.specs.IndexSet.{insert_all}
use Rattle.platoms.proofs.atoms.copied_names.Given as goal

abbrev pub invariant-loop-name : goal.invariant-loop-name
invariant-loop-name l = l.copy.keys ≡ insert_all bytes_eq [] (take l.name-index l.names.keys)

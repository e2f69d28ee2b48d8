use Rattle.std.proofs.Common.{◌≡◌, take, map, true}
use Rattle.plops.specs.Changes.{is_rising}
use Rattle.plops.specs.Given.{with_names}
use Rattle.plops.proofs.table.declare.Given as goal

abbrev pub invariant-loop-name : goal.invariant-loop-name
invariant-loop-name l =
    record { so_far : l.entries.items ≡ with_names l.priority l.kind (map (λ n. n.now) (take l.name-index l.names)) l.initial.entries.items; rising : is_rising l.entries.items ≡ true }

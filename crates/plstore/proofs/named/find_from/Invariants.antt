use Rattle.std.proofs.Common.{◌≡◌, ◌<◌, ◌≤◌, ◌-◌, ℕ, true, length, get_or}
use Rattle.plrecords.specs.declared.record.Record.{Record}
use Rattle.plrecords.specs.Rising.{less}
use Rattle.plstore.proofs.named.find_from.Given as goal

abbrev pub invariant-loop-low : goal.invariant-loop-low
invariant-loop-low l = (l.low ≤ l.high) × (l.high ≤ length l.records) × ((k : ℕ) (d : Record) → k < l.low → less (get_or l.records k d).name l.name ≡ true) × ((k : ℕ) (d : Record) → l.high ≤ k → k < length l.records → less l.name (get_or l.records k d).name ≡ true)

abbrev pub decreases-loop-low : goal.decreases-loop-low
decreases-loop-low l = l.high - l.low

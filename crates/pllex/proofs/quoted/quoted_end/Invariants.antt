use Rattle.std.proofs.Common.{◌≡◌, ◌≤◌, ◌<◌, ◌+◌, ◌-◌, drop, length}
use Rattle.pllex.specs.Quoted.{quoted}
use Rattle.pllex.specs.declared.quoted.Within.TheVariants.{Inside}
use Rattle.pllex.proofs.quoted.quoted_end.Given as goal

abbrev pub invariant-loop-place : goal.invariant-loop-place
invariant-loop-place l =
    record {
      same : quoted l.quote l.start l.mode l.count l.place (drop l.place l.text) ≡ quoted l.quote l.start (Inside 0) 0 (l.start + 1) (drop (l.start + 1) l.text);
      few : l.count ≤ 65535;
      behind : l.start < l.place;
      within : l.place ≤ length l.text;
    }

abbrev pub decreases-loop-place : goal.decreases-loop-place
decreases-loop-place l = length l.text - l.place

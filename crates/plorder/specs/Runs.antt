-- What is left of a comparison.
use Rattle.std.specs.Prelude.{◌≡◌, ℕ, suc, ◌+◌, ◌-◌, ◌^◌, ◌<◌, ◌≤◌, List, [], ◌∷◌, length, fold, nat_lt, if◌then◌else◌}
use Rattle.std.specs.Bool.{⊤}
use Rattle.std.specs.declared.cmp.Ordering.{Ordering}
use Rattle.std.specs.declared.cmp.Ordering.TheVariants.{Equal}
use Rattle.std.specs.Ordering.{ordering_then}
use Rattle.plterm.specs.Tree.{Tree, trees}
use Rattle.plterm.specs.Order.{order, arguments_order}
use Rattle.plcells.specs.Store.{Store, at, terms, IsHead}
use Rattle.plcells.specs.Walking.{weight, weights}
use Rattle.plorder.specs.declared.compare.SpanPair.{SpanPair}
use Rattle.plorder.specs.declared.compare.Room.{Room}
use Rattle.plorder.specs.declared.compare.Verdict.{Verdict}
use Rattle.plorder.specs.declared.compare.Verdict.TheVariants.{Decided, Arguments}

-- the cells of a run hold arguments
pub record IsSpanPair (h : Store) (r : SpanPair) : Type 0 where
  pub some : 0 < r.count
  pub left : r.left + r.count ≤ length h.cells
  pub right : r.right + r.count ≤ length h.cells
  pub left_plain : (d : ℕ) → r.left ≤ d → d < r.left + r.count → IsHead (at h.cells d) → ⊥
  pub right_plain : (d : ℕ) → r.right ≤ d → d < r.right + r.count → IsHead (at h.cells d) → ⊥
  pub few : length h.cells < 2 ^ 32

abbrev pub AreSpanPairs : Store → List SpanPair → Type 0
AreSpanPairs h [] = ⊤
AreSpanPairs h (r ∷ rs) = IsSpanPair h r × AreSpanPairs h rs

-- the arguments on the left beside those on the right
abbrev pub run_order : Store → SpanPair → Ordering
run_order h r = arguments_order (trees (terms h r.left r.count)) (trees (terms h r.right r.count))

-- the runs one after another, the last one first
abbrev pub runs_order : Store → List SpanPair → Ordering
runs_order h rs = fold (λ o r. ordering_then (run_order h r) o) Equal rs

-- a run without its first pair, if there is another
abbrev pub rest_of : SpanPair → List SpanPair
rest_of r = if nat_lt 1 r.count then record { left = r.left + 1; right = r.right + 1; count = r.count - 1 } ∷ [] else []

-- what two terms come to are the arguments of a run
pub record HasSpanPair (h : Store) (s t : Tree) (r : SpanPair) : Type 0 where
  pub run : IsSpanPair h r
  pub is : order s t ≡ run_order h r
  pub lighter : weight s ≡ suc (weights (trees (terms h r.left r.count)))

-- what a verdict says of two terms
unfoldable pub IsComparison : Store → Tree → Tree → Verdict → Type 0
IsComparison h s t (Decided o) = o ≡ order s t
IsComparison h s t (Arguments r) = HasSpanPair h s t r

-- no run is in a comparison's room
abbrev pub HoldsNothing : Room → Type 0
HoldsNothing room = room.work.items ≡ []

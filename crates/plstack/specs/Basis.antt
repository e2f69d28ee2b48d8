-- What the cases of a stack rest on.
use Rattle.std.specs.Prelude.{◌≡◌, ℕ, ◌<◌, ◌≤◌, List, [], ◌∷◌, ◌++◌}
use Rattle.plcode.specs.Callees.{Compiled}
use Rattle.plviews.specs.declared.view.View.{View}
use Rattle.plstack.specs.declared.frame.Closed.{Closed}
use Rattle.plstack.specs.declared.frame.Closed.TheVariants as closings

-- the program's code; the most that a walk may see; and how many own updates there were at the start of each open transaction or snapshot,
-- the innermost last
pub record Basis : Type 0 where
  pub code : Compiled
  pub latest : View
  pub starts : List ℕ

-- a view that shows no batch and no own update that another does not: own updates are seen on top of one place alone
pub record IsShown (v latest : View) : Type 0 where
  pub place : v.place ≤ latest.place
  pub count : v.count ≤ latest.count
  pub own : 0 < v.count → v.place ≡ latest.place

-- a view with so many own updates
abbrev pub counting : ℕ → View → View
counting k v = record { place = v.place; count = k }

-- one more transaction or snapshot is open, and a walk may see this view
abbrev pub begun : View → Basis → Basis
begun v b = record { code = b.code; latest = v; starts = b.starts ++ v.count ∷ [] }

-- the innermost is open no more, and no walk sees more own updates than there were at its start
pub record Ends (old new : Basis) : Type 0 where
  pub start : ℕ
  pub older : List ℕ
  pub was : old.starts ≡ older ++ start ∷ []
  pub rises : start ≤ old.latest.count
  pub is : new ≡ record { code = old.code; latest = counting start old.latest; starts = older }

-- what a case that is closed makes of it
abbrev pub BasisBehind : Closed → Basis → Basis → Type 0
BasisBehind closings.Choice old new = new ≡ old
BasisBehind closings.Handler old new = new ≡ old
BasisBehind closings.Transaction old new = Ends old new

-- The terms of cells where references end.
use Rattle.std.proofs.Common.{◌≡◌, ℕ, ◌<◌, length, ap, ◌∙◌}
use Rattle.plterm.specs.Tree.{var}
use Rattle.plcells.specs.declared.cell.Cell.{Cell}
use Rattle.plcells.specs.declared.cell.Cell.TheVariants.{Free}
use Rattle.plcells.specs.Store.{Store, at, term, shown, IsHeap, IsVariable}
use Rattle.plcells.proofs.Terms.{term-at}
use Rattle.plcells.proofs.Values.{variable-place}

module _ (h : Store) (j : ℕ) (is : IsHeap h) (lt : j < length h.cells) where
  shows : (c : Cell) → at h.cells j ≡ c → term h j ≡ shown h j c
  shows c e = term-at h j is lt ∙ ap (shown h j) e

  -- an unbound variable
  pub variable_at : IsVariable (at h.cells j) → (x : ℕ) × (term h j ≡ var x)
  variable_at v = let p = variable-place (at h.cells j) v in (_, shows (Free p.0) p.1)

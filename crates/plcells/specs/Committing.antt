-- Choices that are given up.
use Rattle.std.specs.Prelude.{◌≡◌, ℕ, ◌<◌, ◌≤◌, List, ◌++◌, length, take, drop, nat_lt}
use Rattle.std.specs.List.{filter}
use Rattle.plcells.specs.declared.cell.Cell.{Cell}
use Rattle.plcells.specs.declared.cell.Mark.{Mark}
use Rattle.plcells.specs.declared.cell.Trailed.{Trailed}
use Rattle.plcells.specs.Store.{Store, term, value, IsValue, IsWithin, IsMark, cut, noted_by}

-- the bindings of cells below b
abbrev pub older : ℕ → List Trailed → List Trailed
older b ts = filter (λ t. nat_lt t.cell b) ts

-- only b cells are old, and of the bindings from number k on only theirs are taken off by an undo
abbrev pub committed : Store → ℕ → ℕ → Store
committed h k b = noted_by h (take k h.trail ++ older b (drop k h.trail)) b

-- a mark that is no later than b cells and k bindings
pub record IsUpTo (k b : ℕ) (m : Mark) : Type 0 where
  pub trail : m.trail ≤ k
  pub cells : m.cells ≤ b

-- all that is there stands for what it did, and the marks up to there are in use as they were
pub record Commits (old new : Store) (k b : ℕ) : Type 0 where
  pub is : new ≡ committed old k b
  pub terms : (c : ℕ) → c < length old.cells → term new c ≡ term old c
  pub values : (v : Cell) → IsValue old v → IsValue new v × (value new v ≡ value old v)
  pub within : (m : Mark) → IsUpTo k b m → IsWithin m old → IsWithin m new
  pub same : (m : Mark) → IsUpTo k b m → IsWithin m old → cut m new ≡ cut m old
  pub marks : (m : Mark) → IsUpTo k b m → IsMark m old → IsMark m new

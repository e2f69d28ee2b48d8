-- Packed terms put on a heap.
use Rattle.std.specs.Prelude.{◌≡◌, ℕ, ◌+◌, ◌<◌, ◌≤◌, List, length, take}
use Rattle.plterm.specs.Tree.{Tree}
use Rattle.plterm.specs.Variables.{copied, variables}
use Rattle.plsubst.specs.Subst.{shift}
use Rattle.plpack.specs.Packing.{packed, IsPackable}
use Rattle.plcells.specs.Store.{Store, value, frees, IsValue, IsFresh, Preserves}
use Rattle.plpacked.specs.declared.putting.Put.{Put}

-- the term whose bytes begin the bytes was put, over new variables of the numbers from n on
pub record PutsPacked (old new : Store) (bytes : List ℕ) (n : ℕ) (put : Put) : Type 0 where
  pub term : Tree
  pub size : put.size ≤ length bytes
  pub own : take put.size bytes ≡ packed term
  pub limits : IsPackable term
  pub numbered : copied 0 term ≡ term
  pub count : put.variables ≡ length (variables term)
  pub fits : IsValue new put.value
  pub is : value new put.value ≡ shift n term
  pub preserves : Preserves old new
  pub fresh : (m : ℕ) → IsFresh old m → (n ≤ m → m < n + put.variables → ⊥) → IsFresh new m
  pub frees : frees new.cells ≡ frees old.cells + put.variables

-- a packed term was put, over new variables of the numbers from n on
pub record PutsWhole (old new : Store) (t : Tree) (n : ℕ) (put : Put) : Type 0 where
  pub count : put.variables ≡ length (variables t)
  pub fits : IsValue new put.value
  pub is : value new put.value ≡ shift n t
  pub preserves : Preserves old new
  pub fresh : (m : ℕ) → IsFresh old m → (n ≤ m → m < n + put.variables → ⊥) → IsFresh new m
  pub frees : frees new.cells ≡ frees old.cells + put.variables

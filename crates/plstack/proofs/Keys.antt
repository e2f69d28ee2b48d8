-- The keys of values.
use Rattle.std.proofs.Common.{◌≡◌, ℕ, ℤ, suc, refl, sym, ◌∙◌}
use Rattle.plterm.specs.Tree.{Tree, trees}
use Rattle.plterm.proofs.Forests.{list_of-trees}
use Rattle.plcells.specs.declared.cell.Cell.{Cell}
use Rattle.plcells.specs.declared.cell.Cell.TheVariants.{Free, Lone, Ref, Int, Wide, Atom, Str, Fun, Ground}
use Rattle.plcells.specs.Store.{Store, IsBlock, IsEnd, IsHeap, term, terms, value}
use Rattle.plcode.specs.Keys.{IsCompound}
use Rattle.plgoals.proofs.Shapes.{end-variable}
use Rattle.plhead.proofs.Trees.{length-spread}
use Rattle.plstack.specs.Keys.{IsVariable}

pub block-compound : (h : Store) (p f k : ℕ) → IsBlock h p f k → IsCompound h.names f (term h p)
block-compound h p f k b = record {
  within = b.functor;
  args = trees (terms h (suc p) k);
  is = b.is;
  arity = rw (list_of-trees (terms h (suc p) k), length-spread (term h) k (suc p)) b.arity;
}

-- a value where references end, and that is no integer, atom or compound
pub end-is-variable : (h : Store) (v : Cell) (t : Tree) → IsHeap h → IsEnd h v → value h v ≡ t →
    ((i : ℤ) → v ≡ Int i → ⊥) → ((p : ℕ) → v ≡ Wide p → ⊥) → ((a : ℕ) → v ≡ Atom a → ⊥) → ((p : ℕ) → v ≡ Str p → ⊥) → IsVariable t
end-is-variable h (Free p) t is end same no_int no_wide no_atom no_str = absurd end
end-is-variable h (Lone p) t is end same no_int no_wide no_atom no_str = absurd end
end-is-variable h (Ref j) t is end same no_int no_wide no_atom no_str = let x = end-variable h j is end in (x.0, sym same ∙ x.1)
end-is-variable h (Int i) t is end same no_int no_wide no_atom no_str = absurd (no_int i refl)
end-is-variable h (Wide p) t is end same no_int no_wide no_atom no_str = absurd (no_wide p refl)
end-is-variable h (Atom a) t is end same no_int no_wide no_atom no_str = absurd (no_atom a refl)
end-is-variable h (Str p) t is end same no_int no_wide no_atom no_str = absurd (no_str p refl)
end-is-variable h (Fun f) t is end same no_int no_wide no_atom no_str = absurd end
end-is-variable h (Ground f) t is end same no_int no_wide no_atom no_str = absurd end

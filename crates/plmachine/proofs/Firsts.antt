-- The first argument of the term of a value.
use Rattle.std.proofs.Common.{◌≡◌, ℕ, suc, ◌+◌, List, [], ◌∷◌, refl, sym, ap, ap₂, ◌∙◌, arith}
use Rattle.plterm.specs.Tree.{Tree, compound, trees}
use Rattle.platoms.specs.Names.{functor_name}
use Rattle.plcells.specs.declared.cell.Cell.{Cell}
use Rattle.plcells.specs.declared.cell.Cell.TheVariants.{Free, Lone, Ref, Int, Wide, Atom, Str, Fun, Ground}
use Rattle.plcells.specs.Store.{Store, term, terms, value, IsBlock, IsEnd, IsHeap, IsValue}
use Rattle.plevent.specs.declared.key.Key.TheVariants.{Any, Functor}
use Rattle.plevent.specs.Keys.{first_key, key_of}
use Rattle.plgoals.proofs.Converting.{terms-length}
use Rattle.plgoals.proofs.Shapes.{end-variable}
use Rattle.plstack.specs.Places.{head_told}
use Rattle.plmachine.specs.Sought.{HasFirst, HasNone}

none-as : (t u : Tree) → u ≡ t → HasNone u → HasNone t
none-as t u e n = rw (← e) n

-- no compound has none
pub end-no-first : (h : Store) (w : Cell) (t : Tree) → IsHeap h → IsEnd h w → ((p : ℕ) → w ≡ Str p → ⊥) → value h w ≡ t → HasNone t
end-no-first h (Free p) t is end blocks same = absurd end
end-no-first h (Lone p) t is end blocks same = absurd end
end-no-first h (Ref j) t is end blocks same = let x = end-variable h j is end in none-as t _ (sym x.1 ∙ same) (record { head = refl; key = refl })
end-no-first h (Int n) t is end blocks same = none-as t _ same (record { head = refl; key = refl })
end-no-first h (Wide p) t is end blocks same = none-as t _ same (record { head = refl; key = refl })
end-no-first h (Atom a) t is end blocks same = none-as t _ same (record { head = refl; key = refl })
end-no-first h (Str p) t is end blocks same = absurd (blocks p refl)
end-no-first h (Fun f) t is end blocks same = absurd end
end-no-first h (Ground f) t is end blocks same = absurd end

module _ (h : Store) (p f k : ℕ) (block : IsBlock h p f k) (v : Cell) (same : term h p ≡ value h v) where
  pub block-none : k ≡ 0 → HasNone (value h v)
  block-none e = none-as (value h v) (compound (functor_name h.names f) (trees [])) (ap (λ n. compound (functor_name h.names f) (trees (terms h (suc p) n))) (sym e) ∙ sym block.is ∙ same) (record { head = refl; key = refl })

  pub block-first : (a : Cell) (n : ℕ) → k ≡ suc n → IsValue h a → value h a ≡ term h (p + 1) → HasFirst h v a
  block-first a n e fits is = record {
    fits = fits;
    name = functor_name h.names f;
    rest = trees (terms h (suc (suc p)) n);
    is =
        let next : p + 1 ≡ suc p = omega arith in
        sym same ∙ block.is
        ∙ ap (λ m. compound (functor_name h.names f) (trees (terms h (suc p) m))) e
        ∙ ap (λ t. compound (functor_name h.names f) (trees (t ∷ terms h (suc (suc p)) n))) (sym (is ∙ ap (term h) next));
  }

-- the key of a compound
pub block-key : (h : Store) (p f k : ℕ) (s : List ℕ) (t : Tree) → IsBlock h p f k → s ≡ functor_name h.names f → term h p ≡ t → Functor s k ≡ key_of t
block-key h p f k s t block named same = ap₂ Functor named (sym (terms-length h (suc p) k)) ∙ ap key_of (sym block.is ∙ same)

-- a number, an atom and a compound have keys of their own
pub end-any : (h : Store) (w : Cell) (t : Tree) → IsHeap h → IsEnd h w → ((n : _) → w ≡ Int n → ⊥) → ((p : ℕ) → w ≡ Wide p → ⊥) → ((a : ℕ) → w ≡ Atom a → ⊥) → ((p : ℕ) → w ≡ Str p → ⊥) → value h w ≡ t → Any ≡ key_of t
end-any h (Free p) t is end ints wides atoms blocks same = absurd end
end-any h (Lone p) t is end ints wides atoms blocks same = absurd end
end-any h (Ref j) t is end ints wides atoms blocks same = let x = end-variable h j is end in ap key_of (sym x.1 ∙ same)
end-any h (Int n) t is end ints wides atoms blocks same = absurd (ints n refl)
end-any h (Wide p) t is end ints wides atoms blocks same = absurd (wides p refl)
end-any h (Atom a) t is end ints wides atoms blocks same = absurd (atoms a refl)
end-any h (Str p) t is end ints wides atoms blocks same = absurd (blocks p refl)
end-any h (Fun f) t is end ints wides atoms blocks same = absurd end
end-any h (Ground f) t is end ints wides atoms blocks same = absurd end

-- the head that is told is the first argument
pub first-told : (h : Store) (v a : Cell) → HasFirst h v a → value h a ≡ head_told (value h v)
first-told h v a f = ap head_told (sym f.is)

pub first-key : (h : Store) (v a : Cell) → HasFirst h v a → key_of (value h a) ≡ first_key (value h v)
first-key h v a f = ap first_key (sym f.is)

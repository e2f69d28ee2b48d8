-- What the term of a value is, by where its references end.
use Rattle.std.proofs.Common.{◌≡◌, ℕ, suc, ◌<◌, true, false, List, [], length, ◌∷◌, refl, sym, ap, ap₂, ◌∙◌, subst, arith}
use Rattle.plterm.specs.Tree.{Tree, Trees, compound}
use Rattle.plterm.specs.declared.indicator.Indicator.{Indicator}
use Rattle.plclause.specs.Indicators.{indicator}
use Rattle.platoms.specs.Names.{functor_name}
use Rattle.plcells.specs.declared.cell.Cell.{Cell}
use Rattle.plcells.specs.declared.cell.Cell.TheVariants.{Free, Lone, Ref, Int, Wide, Atom, Str, Fun, Ground}
use Rattle.plcells.specs.Store.{Store, at, term, shown, value, IsBlock, IsEnd, IsHead, IsHeap, IsValue}
use Rattle.plcells.proofs.Terms.{term-at}
use Rattle.plgoals.proofs.Shapes.{end-variable}
use Rattle.plgoals.proofs.Converting.{terms-length}
use Rattle.plrefusals.specs.Values.{IsNoInteger}

-- a term by the kind of value where its references end
block-compound : (h : Store) (p : ℕ) → IsHeap h → p < length h.cells → IsHead (at h.cells p) → (s : List ℕ) × (ts : Trees) × (term h p ≡ compound s ts)
block-compound h p is lt head = go (at h.cells p) refl head
  where
    go : (c : Cell) → at h.cells p ≡ c → IsHead c → (s : List ℕ) × (ts : Trees) × (term h p ≡ compound s ts)
    go (Free q) e head = absurd head
    go (Lone q) e head = absurd head
    go (Ref j) e head = absurd head
    go (Int n) e head = absurd head
    go (Wide q) e head = absurd head
    go (Atom a) e head = absurd head
    go (Str q) e head = absurd head
    go (Fun f) e head = (_, _, term-at h p is lt ∙ ap (shown h p) e)
    go (Ground f) e head = (_, _, term-at h p is lt ∙ ap (shown h p) e)

pub end-no-integer : (h : Store) (w : Cell) (t : Tree) → IsHeap h → IsValue h w → IsEnd h w → ((n : _) → w ≡ Int n → ⊥) → ((p : ℕ) → w ≡ Wide p → ⊥) → value h w ≡ t → IsNoInteger t
end-no-integer h (Free p) t is there end ints wides same = absurd end
end-no-integer h (Lone p) t is there end ints wides same = absurd end
end-no-integer h (Ref j) t is there end ints wides same = let x = end-variable h j is end in subst IsNoInteger (sym x.1 ∙ same) tt
end-no-integer h (Int n) t is there end ints wides same = absurd (ints n refl)
end-no-integer h (Wide p) t is there end ints wides same = absurd (wides p refl)
end-no-integer h (Atom a) t is there end ints wides same = subst IsNoInteger same tt
end-no-integer h (Str p) t is there end ints wides same = let x = block-compound h p is there.0 there.1 in subst IsNoInteger (sym x.2 ∙ same) tt
end-no-integer h (Fun f) t is there end ints wides same = absurd end
end-no-integer h (Ground f) t is there end ints wides same = absurd end

-- no atom and no compound has no indicator
pub end-no-name : (h : Store) (w : Cell) (t : Tree) → IsHeap h → IsEnd h w → ((a : ℕ) → w ≡ Atom a → ⊥) → ((p : ℕ) → w ≡ Str p → ⊥) → value h w ≡ t → ◌≡◌ {A = Indicator} (record { name = []; arity = 0 }) (indicator t)
end-no-name h (Free p) t is end atoms blocks same = absurd end
end-no-name h (Lone p) t is end atoms blocks same = absurd end
end-no-name h (Ref j) t is end atoms blocks same = let x = end-variable h j is end in ap indicator (sym x.1 ∙ same)
end-no-name h (Int n) t is end atoms blocks same = ap indicator same
end-no-name h (Wide p) t is end atoms blocks same = ap indicator same
end-no-name h (Atom a) t is end atoms blocks same = absurd (atoms a refl)
end-no-name h (Str p) t is end atoms blocks same = absurd (blocks p refl)
end-no-name h (Fun f) t is end atoms blocks same = absurd end
end-no-name h (Ground f) t is end atoms blocks same = absurd end

pub block-name : (h : Store) (p f k : ℕ) (s : List ℕ) (t : Tree) → IsBlock h p f k → s ≡ functor_name h.names f → term h p ≡ t → ◌≡◌ {A = Indicator} (record { name = s; arity = k }) (indicator t)
block-name h p f k s t block named same =
    ap₂ (λ s k. record { name = s; arity = k }) named (sym (terms-length h (suc p) k)) ∙ ap indicator (sym block.is ∙ same)

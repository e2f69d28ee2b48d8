-- Nodes that wait on a stack for the compound that they are arguments of.
use Rattle.std.proofs.Common.{◌≡◌, ℕ, ◌^◌, ◌<◌, ◌≤◌, List, [], ◌∷◌, ◌++◌, length, map, take, drop, reverse, refl, subst, ap, ◌∙◌, sym, arith, length-take}
use Rattle.std.proofs.lemmas.List.{length-map, reverse-append, take_all, take-map, drop-map}
use Rattle.std.proofs.Math.Seq.{drop-append_seam}
use Rattle.plterm.specs.Tree.{Tree, compound, trees}
use Rattle.platoms.specs.Names.{Table, Extends, IsTable, functor_name}
use Rattle.plcode.specs.declared.node.Node.{Node}
use Rattle.plcode.specs.declared.node.Node.TheVariants.{Var, Int, Atom, Fun, Sub}
use Rattle.plcode.specs.Nodes.{Value, Head, tree, block, value, values, IsBlock, IsNamed, Rests}
use Rattle.plcode.specs.Laying.{lowest, over, EachRests, IsChain, IsLaid, Waits}
use Rattle.plcode.proofs.Packing.{block_packed, block_chain}
use Rattle.plcode.proofs.Values.{values-append, values-names, length-values, over-more, over-names, EachRests-more, EachRests-take, EachRests-drop, AllNamed-take, AllNamed-drop, AllNamed-names, IsSound-row, IsSound-names}

-- a node that stands for a term alone
abbrev pub IsLeaf : Node → Type 0
IsLeaf (Var s) = Unit {0}
IsLeaf (Int i) = Unit {0}
IsLeaf (Atom a) = Unit {0}
IsLeaf (Fun f k) = ⊥
IsLeaf (Sub from root) = ⊥

pub IsLaid-names : (s t : Table) (nodes : List Node) → Extends s t → IsTable t → IsLaid s nodes → IsLaid t nodes
IsLaid-names s t nodes more table h = record { table = table; sound = IsSound-names s t more h.table nodes h.sound; packed = h.packed; few = h.few }

pub Waits-names : (s t : Table) (nodes w : List Node) (ts : List Tree) → Extends s t → IsTable t → Waits s nodes w ts → Waits t nodes w ts
Waits-names s t nodes w ts more table h =
    let e : values t nodes ≡ values s nodes = values-names s t more h.laid.table nodes h.laid.sound.named in
    let P : List Value → Type 0 = λ vs. EachRests vs w in
    record {
      laid = IsLaid-names s t nodes more table h.laid;
      named = AllNamed-names s t more w h.named;
      rest = subst P (sym e) h.rest;
      chain = h.chain;
      terms = ap (λ vs. over t vs w) e ∙ over-names s t more h.laid.table (values s nodes) w h.named ∙ h.terms;
    }

leaf_rests : (vs : List Value) (n : Node) → IsLeaf n → Rests vs n
leaf_rests vs (Var s) h = tt
leaf_rests vs (Int i) h = tt
leaf_rests vs (Atom a) h = tt
leaf_rests vs (Fun f k) h = absurd h
leaf_rests vs (Sub from root) h = absurd h

leaf_chain : (nodes : List Node) (end : ℕ) (w : List Node) (n : Node) → IsLeaf n → IsChain nodes end w → IsChain nodes end (n ∷ w)
leaf_chain nodes end w (Var s) leaf h = h
leaf_chain nodes end w (Int i) leaf h = h
leaf_chain nodes end w (Atom a) leaf h = h
leaf_chain nodes end w (Fun f k) leaf h = leaf
leaf_chain nodes end w (Sub from root) leaf h = absurd leaf

pub Waits-leaf : (t : Table) (nodes w : List Node) (ts : List Tree) (n : Node) (u : Tree)
    → Waits t nodes w ts → IsNamed t n → IsLeaf n → tree (value t (values t nodes) n) ≡ u → Waits t nodes (n ∷ w) (u ∷ ts)
Waits-leaf t nodes w ts n u h named leaf is = record {
  laid = h.laid;
  named = (named, h.named);
  rest = (leaf_rests (values t nodes) n leaf, h.rest);
  chain = leaf_chain nodes (length nodes) w n leaf h.chain;
  terms = ap (λ v. v ∷ over t (values t nodes) w) is ∙ ap (λ us. u ∷ us) h.terms;
}

-- a leaf more on a stack
pub Waits-pushed : (t : Table) (nodes old new : List Node) (ts : List Tree) (n : Node) (u : Tree) → new ≡ old ++ n ∷ []
    → Waits t nodes (reverse old) ts → IsNamed t n → IsLeaf n → tree (value t (values t nodes) n) ≡ u → Waits t nodes (reverse new) (u ∷ ts)
Waits-pushed t nodes old new ts n u pushed h named leaf is =
    let P : List Node → Type 0 = λ w. Waits t nodes w (u ∷ ts) in
    let top : reverse new ≡ n ∷ reverse old = ap reverse pushed ∙ reverse-append old (n ∷ []) in
    subst P (sym top) (Waits-leaf t nodes (reverse old) ts n u h named leaf is)

over-map : (t : Table) (vs : List Value) (w : List Node) → map tree (map (value t vs) w) ≡ over t vs w
over-map t vs [] = refl
over-map t vs (n ∷ w) = ap (λ us. tree (value t vs n) ∷ us) (over-map t vs w)

-- a row of the topmost nodes stands for the topmost terms
pub row_terms : (t : Table) (vs : List Value) (w : List Node) (ts : List Tree) (k : ℕ) → over t vs w ≡ ts → map tree (take k (map (value t vs) (take k w))) ≡ take k ts
row_terms t vs w ts k h =
    ap (map tree) (take_all k (map (value t vs) (take k w)) (omega (arith, length-map (take k w) (value t vs), length-take k w)))
    ∙ over-map t vs (take k w)
    ∙ sym (take-map (λ n. tree (value t vs n)) k w)
    ∙ ap (take k) h

module _ (t : Table) (nodes w : List Node) (ts : List Tree) (f k : ℕ) (h : Waits t nodes w ts) (room : k ≤ length w) (named : IsNamed t (Fun f k))
    (few : length (nodes ++ Fun f k ∷ take k w) < 2 ^ 32) where
  old : List Value
  old = values t nodes

  more : List Value
  unfolding old
  more = Head (functor_name t f) k ∷ map (value t old) (take k w)

  grown : values t (nodes ++ Fun f k ∷ take k w) ≡ old ++ more
  unfolding old more
  grown = values-append t nodes (Fun f k ∷ take k w) (tt, EachRests-take old k w h.rest)

  root : drop (length nodes) (old ++ more) ≡ more
  unfolding old
  root = ap (λ n. drop n (old ++ more)) (sym (length-values t nodes)) ∙ drop-append_seam old more

  whole : IsBlock more
  unfolding old more
  whole = omega (arith, length-map (take k w) (value t old), length-take k w, room)

  abbrev low_block : ℕ
  low_block = lowest (length nodes) (take k w)

  pub Waits-block : Waits t (nodes ++ Fun f k ∷ take k w) (Sub low_block (length nodes) ∷ drop k w) (compound (functor_name t f) (trees (take k ts)) ∷ drop k ts)
  unfolding old more
  Waits-block =
      let P : List Value → Type 0 = λ vs. EachRests vs (Sub low_block (length nodes) ∷ drop k w) in
      let Q : List Value → Type 0 = IsBlock in
      record {
        laid = record {
          table = h.laid.table;
          sound = IsSound-row t nodes (Fun f k ∷ take k w) h.laid.sound (named, AllNamed-take t k w h.named) (tt, EachRests-take old k w h.rest);
          packed = block_packed nodes w f k room h.chain h.laid.packed;
          few = few;
        };
        named = (tt, AllNamed-drop t k w h.named);
        chain = block_chain nodes w f k room h.chain;
        rest = subst P (sym grown) (subst Q (sym root) whole, EachRests-more old more (drop k w) (EachRests-drop old k w h.rest));
        terms = ap (λ vs. over t vs (Sub low_block (length nodes) ∷ drop k w)) grown
            ∙ ap (λ vs. block vs ∷ over t (old ++ more) (drop k w)) root
            ∙ ap (λ us. compound (functor_name t f) (trees us) ∷ over t (old ++ more) (drop k w)) (row_terms t old w ts k h.terms)
            ∙ ap (λ us. compound (functor_name t f) (trees (take k ts)) ∷ us) (over-more t old more (drop k w) (EachRests-drop old k w h.rest) ∙ sym (drop-map (λ n. tree (value t old n)) k w) ∙ ap (drop k) h.terms);
      }

-- What nodes stand for behind more of them, and under a table that has grown.
use Rattle.std.proofs.Common.{◌≡◌, ℕ, zero, suc, ◌+◌, ◌≤◌, ◌<◌, List, [], ◌∷◌, ◌++◌, length, map, take, drop, fold, refl, subst, ap, ◌∙◌, sym, arith, append_assoc, append-nil, length-append, length-drop}
use Rattle.std.proofs.lemmas.List.{take-append-le, drop-append-le}
use Rattle.std.proofs.lemmas.Grind.{fold-append}
use Rattle.std.proofs.Math.ListN.{get_or-append}
use Rattle.plterm.specs.Tree.{Tree, atom, compound, trees}
use Rattle.platoms.specs.Names.{Table, Extends, IsTable, atom_at, functor_name, functor_at}
use Rattle.platoms.proofs.Extending.{atoms_more, functors_more, atom_same, functor_same}
use Rattle.plcode.specs.declared.node.Node.{Node}
use Rattle.plcode.specs.declared.node.Node.TheVariants.{Var, Int, Atom, Fun, Sub}
use Rattle.plcode.specs.Nodes.{Value, Whole, Head, tree, block, value, with_node, values, IsBlock, Rests, IsNamed, AllNamed, AllRest, IsSound, row}
use Rattle.plcode.specs.Packed.{node_at, IsArgument}
use Rattle.plcode.specs.Laying.{over, EachRests, Grows, IsLaid, IsRow}

pub block-more : (xs ys : List Value) → IsBlock xs → block (xs ++ ys) ≡ block xs
block-more [] ys h = absurd h
block-more (Whole t ∷ xs) ys h = refl
block-more (Head s k ∷ xs) ys h = ap (λ us. compound s (trees (map tree us))) (take-append-le k xs ys h)

pub IsBlock-more : (xs ys : List Value) → IsBlock xs → IsBlock (xs ++ ys)
IsBlock-more [] ys h = absurd h
IsBlock-more (Whole t ∷ xs) ys h = absurd h
IsBlock-more (Head s k ∷ xs) ys h = omega (arith, h, length-append xs ys)

drop-block : (r : ℕ) (vs ws : List Value) → IsBlock (drop r vs) → drop r (vs ++ ws) ≡ drop r vs ++ ws
drop-block zero vs ws h = refl
drop-block (suc r) [] ws h = absurd h
drop-block (suc r) (v ∷ vs) ws h = drop-block r vs ws h

pub value-more : (t : Table) (vs ws : List Value) (n : Node) → Rests vs n → value t (vs ++ ws) n ≡ value t vs n
value-more t vs ws (Var s) h = refl
value-more t vs ws (Int i) h = refl
value-more t vs ws (Atom a) h = refl
value-more t vs ws (Fun f k) h = refl
value-more t vs ws (Sub from root) h = ap (λ us. Whole (block us)) (drop-block root vs ws h) ∙ ap Whole (block-more (drop root vs) ws h)

pub Rests-more : (vs ws : List Value) (n : Node) → Rests vs n → Rests (vs ++ ws) n
Rests-more vs ws (Var s) h = tt
Rests-more vs ws (Int i) h = tt
Rests-more vs ws (Atom a) h = tt
Rests-more vs ws (Fun f k) h = tt
Rests-more vs ws (Sub from root) h = rw (drop-block root vs ws h) (IsBlock-more (drop root vs) ws h)

pub EachRests-more : (vs ws : List Value) (ns : List Node) → EachRests vs ns → EachRests (vs ++ ws) ns
EachRests-more vs ws [] h = tt
EachRests-more vs ws (n ∷ ns) h = (Rests-more vs ws n h.0, EachRests-more vs ws ns h.1)

pub EachRests-drop : (vs : List Value) (k : ℕ) (ns : List Node) → EachRests vs ns → EachRests vs (drop k ns)
EachRests-drop vs zero ns h = h
EachRests-drop vs (suc k) [] h = tt
EachRests-drop vs (suc k) (n ∷ ns) h = EachRests-drop vs k ns h.1

pub EachRests-take : (vs : List Value) (k : ℕ) (ns : List Node) → EachRests vs ns → EachRests vs (take k ns)
EachRests-take vs zero ns h = tt
EachRests-take vs (suc k) [] h = tt
EachRests-take vs (suc k) (n ∷ ns) h = (h.0, EachRests-take vs k ns h.1)

pub each-more : (t : Table) (vs ws : List Value) (ns : List Node) → EachRests vs ns → map (value t (vs ++ ws)) ns ≡ map (value t vs) ns
each-more t vs ws [] h = refl
each-more t vs ws (n ∷ ns) h =
    ap (λ v. v ∷ map (value t (vs ++ ws)) ns) (value-more t vs ws n h.0) ∙ ap (λ us. value t vs n ∷ us) (each-more t vs ws ns h.1)

pub over-more : (t : Table) (vs ws : List Value) (ns : List Node) → EachRests vs ns → over t (vs ++ ws) ns ≡ over t vs ns
over-more t vs ws [] h = refl
over-more t vs ws (n ∷ ns) h =
    ap (λ v. tree v ∷ over t (vs ++ ws) ns) (value-more t vs ws n h.0) ∙ ap (λ us. tree (value t vs n) ∷ us) (over-more t vs ws ns h.1)

-- a row of nodes that rest on what stands before it
pub values_row : (t : Table) (vs : List Value) (ns : List Node) → EachRests vs ns → fold (with_node t) vs ns ≡ vs ++ map (value t vs) ns
values_row t vs [] h = sym (append-nil vs)
values_row t vs (n ∷ ns) h =
    values_row t (with_node t vs n) ns (EachRests-more vs (value t vs n ∷ []) ns h.1)
    ∙ append_assoc vs (value t vs n ∷ []) (map (value t (with_node t vs n)) ns)
    ∙ ap (λ us. vs ++ value t vs n ∷ us) (each-more t vs (value t vs n ∷ []) ns h.1)

pub values-append : (t : Table) (ms ns : List Node) → EachRests (values t ms) ns → values t (ms ++ ns) ≡ values t ms ++ map (value t (values t ms)) ns
unfolding values
values-append t ms ns h = fold-append (with_node t) [] ms ns ∙ values_row t (values t ms) ns h

length-fold : (t : Table) (vs : List Value) (ns : List Node) → length (fold (with_node t) vs ns) ≡ length vs + length ns
length-fold t vs [] = omega arith
length-fold t vs (n ∷ ns) = omega (arith, length-fold t (with_node t vs n) ns, length-append vs (value t vs n ∷ []))

pub length-values : (t : Table) (ns : List Node) → length (values t ns) ≡ length ns
unfolding values
length-values t ns = omega (arith, length-fold t [] ns)

-- ---- soundness

AllRest-row : (t : Table) (vs : List Value) (ns : List Node) → EachRests vs ns → AllRest t vs ns
AllRest-row t vs [] h = tt
AllRest-row t vs (n ∷ ns) h = (h.0, AllRest-row t (with_node t vs n) ns (EachRests-more vs (value t vs n ∷ []) ns h.1))

AllRest-append : (t : Table) (vs : List Value) (ms ns : List Node) → AllRest t vs ms → AllRest t (fold (with_node t) vs ms) ns → AllRest t vs (ms ++ ns)
AllRest-append t vs [] ns h k = k
AllRest-append t vs (m ∷ ms) ns h k = (h.0, AllRest-append t (with_node t vs m) ms ns h.1 k)

pub AllNamed-append : (t : Table) (ms ns : List Node) → AllNamed t ms → AllNamed t ns → AllNamed t (ms ++ ns)
AllNamed-append t [] ns h k = k
AllNamed-append t (m ∷ ms) ns h k = (h.0, AllNamed-append t ms ns h.1 k)

pub AllNamed-take : (t : Table) (k : ℕ) (ns : List Node) → AllNamed t ns → AllNamed t (take k ns)
AllNamed-take t zero ns h = tt
AllNamed-take t (suc k) [] h = tt
AllNamed-take t (suc k) (n ∷ ns) h = (h.0, AllNamed-take t k ns h.1)

pub AllNamed-drop : (t : Table) (k : ℕ) (ns : List Node) → AllNamed t ns → AllNamed t (drop k ns)
AllNamed-drop t zero ns h = h
AllNamed-drop t (suc k) [] h = tt
AllNamed-drop t (suc k) (n ∷ ns) h = AllNamed-drop t k ns h.1

pub IsSound-row : (t : Table) (ms ns : List Node) → IsSound t ms → AllNamed t ns → EachRests (values t ms) ns → IsSound t (ms ++ ns)
unfolding values
IsSound-row t ms ns h named rest = record {
  named = AllNamed-append t ms ns h.named named;
  rest = AllRest-append t [] ms ns h.rest (AllRest-row t (values t ms) ns rest);
}

-- ---- a table that has grown
module _ (s t : Table) (more : Extends s t) where
  IsNamed-names : (n : Node) → IsNamed s n → IsNamed t n
  IsNamed-names (Var v) h = tt
  IsNamed-names (Int i) h = tt
  IsNamed-names (Atom a) h = omega (arith, h, atoms_more s t more)
  IsNamed-names (Fun f k) h = (omega (arith, h.0, functors_more s t more), ap (λ g. g.arity) (functor_same s t more f h.0) ∙ h.1)
  IsNamed-names (Sub from root) h = tt

  pub AllNamed-names : (ns : List Node) → AllNamed s ns → AllNamed t ns
  AllNamed-names [] h = tt
  AllNamed-names (n ∷ ns) h = (IsNamed-names n h.0, AllNamed-names ns h.1)

  module _ (table : IsTable s) where
    pub functor_name-names : (f : ℕ) → f < length s.functors → functor_name t f ≡ functor_name s f
    functor_name-names f lt =
        ap (λ g. atom_at t g.name) (functor_same s t more f lt) ∙ atom_same s t more ((functor_at s f).name) ((table.functors f lt).name)

    value-names : (vs : List Value) (n : Node) → IsNamed s n → value t vs n ≡ value s vs n
    value-names vs (Var v) h = refl
    value-names vs (Int i) h = refl
    value-names vs (Atom a) h = ap (λ b. Whole (atom b)) (atom_same s t more a h)
    value-names vs (Fun f k) h = ap (λ b. Head b k) (functor_name-names f h.0)
    value-names vs (Sub from root) h = refl

    fold-names : (vs : List Value) (ns : List Node) → AllNamed s ns → fold (with_node t) vs ns ≡ fold (with_node s) vs ns
    fold-names vs [] h = refl
    fold-names vs (n ∷ ns) h =
        ap (λ v. fold (with_node t) (vs ++ v ∷ []) ns) (value-names vs n h.0) ∙ fold-names (with_node s vs n) ns h.1

    pub values-names : (ns : List Node) → AllNamed s ns → values t ns ≡ values s ns
    unfolding values
    values-names ns h = fold-names [] ns h

    AllRest-names : (vs : List Value) (ns : List Node) → AllNamed s ns → AllRest s vs ns → AllRest t vs ns
    AllRest-names vs [] named h = tt
    AllRest-names vs (n ∷ ns) named h =
        let P : Value → Type 0 = λ v. AllRest t (vs ++ v ∷ []) ns in
        (h.0, subst P (sym (value-names vs n named.0)) (AllRest-names (with_node s vs n) ns named.1 h.1))

    pub IsSound-names : (ns : List Node) → IsSound s ns → IsSound t ns
    IsSound-names ns h = record { named = AllNamed-names ns h.named; rest = AllRest-names [] ns h.named h.rest }

    pub over-names : (vs : List Value) (ns : List Node) → AllNamed s ns → over t vs ns ≡ over s vs ns
    over-names vs [] h = refl
    over-names vs (n ∷ ns) h =
        ap (λ v. tree v ∷ over t vs ns) (value-names vs n h.0) ∙ ap (λ us. tree (value s vs n) ∷ us) (over-names vs ns h.1)

-- ---- rows stay
fold_prefix : (t : Table) (vs : List Value) (ns : List Node) → (ws : List Value) × (fold (with_node t) vs ns ≡ vs ++ ws)
fold_prefix t vs [] = ([], sym (append-nil vs))
fold_prefix t vs (n ∷ ns) =
    let p = fold_prefix t (with_node t vs n) ns in
    (value t vs n ∷ p.0, p.1 ∙ append_assoc vs (value t vs n ∷ []) p.0)

values_prefix : (t : Table) (ms ns : List Node) → (ws : List Value) × (values t (ms ++ ns) ≡ values t ms ++ ws)
unfolding values
values_prefix t ms ns = let p = fold_prefix t (values t ms) ns in (p.0, fold-append (with_node t) [] ms ns ∙ p.1)

pub IsRow-more : (s t : Table) (old new : List Node) (at k : ℕ) (ts : List Tree) → IsLaid s old → Extends s t → Grows old new → IsRow s old at k ts → IsRow t new at k ts
unfolding row
IsRow-more s t old new at k ts laid more grows r =
    let p = values_prefix t old grows.added in
    let same : values t old ≡ values s old = values-names s t more laid.table old laid.sound.named in
    let len = length-values s old in
    let at_room : at ≤ length (values s old) = omega (arith, r.within) in
    let room : k ≤ length (drop at (values s old)) = omega (arith, r.within, length-drop at (values s old)) in
    record {
      within = omega (arith, r.within, ap length grows.nodes, length-append old grows.added);
      terms = ap (λ ns. map tree (take k (drop at (values t ns)))) grows.nodes
          ∙ ap (λ vs. map tree (take k (drop at vs))) (p.1 ∙ ap (λ vs. vs ++ p.0) same)
          ∙ ap (λ vs. map tree (take k vs)) (drop-append-le at (values s old) p.0 at_room)
          ∙ ap (map tree) (take-append-le k (drop at (values s old)) p.0 room)
          ∙ r.terms;
      whole = λ j le lt. subst (IsArgument 0 j) (sym (ap (λ (ns : List Node). node_at ns j) grows.nodes ∙ get_or-append old grows.added (Var 0) j (omega (arith, r.within)))) (r.whole j le lt);
    }

-- The steps of laying terms down.
use Rattle.std.proofs.Common.{◌≡◌, ℕ, ◌^◌, ◌<◌, ◌≤◌, List, [], ◌∷◌, ◌++◌, length, map, take, drop, refl, subst, ap, ◌∙◌, sym, arith, append_assoc, append-nil, length-append, length-take}
use Rattle.std.proofs.lemmas.List.{length-map, take_all}
use Rattle.std.proofs.Math.Seq.{drop-append_seam}
use Rattle.std.specs.List.{flat_map}
use Rattle.plterm.specs.Tree.{Tree, compound, trees}
use Rattle.plterm.specs.Reading.{arity, read, reading, spelling, Fits, AllFit, IsForest, reading-spelling}
use Rattle.plterm.proofs.Forests.{IsForest-spelling}
use Rattle.plterm.specs.declared.node.Node.{Node as TermNode}
use Rattle.plterm.specs.declared.node.Node.TheVariants as term
use Rattle.platoms.specs.Names.{Table, Extends}
use Rattle.platoms.proofs.Extending.{Extends-refl, Extends-trans}
use Rattle.plcode.specs.declared.node.Node.{Node}
use Rattle.plcode.specs.declared.node.Node.TheVariants.{Var, Int, Atom, Fun, Sub}
use Rattle.plcode.specs.Nodes.{Value, tree, value, values, row, IsNamed}
use Rattle.plcode.specs.Laying.{Grows, IsLaid, IsRow, Waits}
use Rattle.plcode.proofs.Values.{values-append, length-values, EachRests-take, AllNamed-take, IsSound-row}
use Rattle.plcode.proofs.Packing.{ArePacked-row, IsChain-take, chain_row, row_whole}
use Rattle.plcode.proofs.Waiting.{row_terms, Waits-leaf, IsLeaf}

pub Grows-refl : (ns : List Node) → Grows ns ns
Grows-refl ns = record { added = []; nodes = sym (append-nil ns) }

pub Grows-trans : (a b c : List Node) → Grows a b → Grows b c → Grows a c
Grows-trans a b c p q = record {
  added = p.added ++ q.added;
  nodes = q.nodes ∙ ap (λ ns. ns ++ q.added) p.nodes ∙ append_assoc a p.added q.added;
}

-- the nodes that are left come before those whose terms wait
pub record Placing (s t : Table) (start nodes w : List Node) (whole left : List TermNode) : Type 0 where
  pub done : List TermNode
  pub split : whole ≡ left ++ done
  pub names : Extends s t
  pub grows : Grows start nodes
  pub waits : Waits t nodes w (reading done)

pub Waits-none : (t : Table) (nodes : List Node) → IsLaid t nodes → Waits t nodes [] []
Waits-none t nodes h = record { laid = h; named = tt; rest = tt; chain = tt; terms = refl }

pub placing_none : (t : Table) (nodes : List Node) (whole : List TermNode) → IsLaid t nodes → Placing t t nodes nodes [] whole whole
placing_none t nodes whole h = record {
  done = [];
  split = sym (append-nil whole);
  names = Extends-refl t;
  grows = Grows-refl nodes;
  waits = Waits-none t nodes h;
}

-- what is behind in a forest is one
IsForest-behind : (ms ns : List TermNode) → IsForest (ms ++ ns) → IsForest ns
IsForest-behind [] ns h = h
IsForest-behind (m ∷ ms) ns h = IsForest-behind ms ns h.2

-- the next node fits, and its arguments wait
module _ (s t : Table) (start nodes w : List Node) (whole old left : List TermNode) (n : TermNode) (forest : IsForest whole) (h : Placing s t start nodes w whole old) (taken : old ≡ left ++ n ∷ []) where
  split : whole ≡ left ++ n ∷ h.done
  split = h.split ∙ ap (λ ns. ns ++ h.done) taken ∙ append_assoc left (n ∷ []) h.done

  behind : IsForest (n ∷ h.done)
  behind = IsForest-behind left (n ∷ h.done) (subst IsForest split forest)

  pub placing_fits : Fits n
  placing_fits = let f = behind in f.0

  pub placing_room : arity n ≤ length w
  placing_room =
      let f = behind in
      omega (arith, f.1, ap length h.waits.terms, length-map w (λ m. tree (value t (values t nodes) m)))

  pub placing_next : (t' : Table) (nodes' w' : List Node) → Extends t t' → Grows nodes nodes' → Waits t' nodes' w' (read n (reading h.done)) → Placing s t' start nodes' w' whole left
  placing_next t' nodes' w' names grows waits = record {
    done = n ∷ h.done;
    split = split;
    names = Extends-trans s t t' h.names names;
    grows = Grows-trans start nodes nodes' h.grows grows;
    waits = waits;
  }

-- ---- rows

AllFit-parts : (ms ns : List TermNode) → AllFit (ms ++ ns) → AllFit ms × AllFit ns
AllFit-parts [] ns h = (tt, h)
AllFit-parts (m ∷ ms) ns h = let p = AllFit-parts ms ns h.1 in ((h.0, p.0), p.1)

pub IsForest-terms : (ts : List Tree) → AllFit (flat_map spelling ts) → IsForest (flat_map spelling ts)
IsForest-terms [] h = tt
IsForest-terms (t ∷ ts) h =
    let p = AllFit-parts (spelling t) (flat_map spelling ts) h in
    IsForest-spelling t (flat_map spelling ts) p.0 (IsForest-terms ts p.1)

pub reading-terms : (ts : List Tree) → reading (flat_map spelling ts) ≡ ts
reading-terms [] = refl
reading-terms (t ∷ ts) = reading-spelling t (flat_map spelling ts) ∙ ap (λ us. t ∷ us) (reading-terms ts)

module _ (t : Table) (nodes w : List Node) (us : List Tree) (k : ℕ) (h : Waits t nodes w us) (room : k ≤ length w) where
  pub row_laid : length (nodes ++ take k w) < 2 ^ 32 → IsLaid t (nodes ++ take k w)
  row_laid few = record {
    table = h.laid.table;
    sound = IsSound-row t nodes (take k w) h.laid.sound (AllNamed-take t k w h.named) (EachRests-take (values t nodes) k w h.rest);
    packed = ArePacked-row nodes (take k w) h.laid.packed (chain_row nodes (length nodes) (take k w) (IsChain-take nodes (length nodes) k w h.chain));
    few = few;
  }

  pub row_there : IsRow t (nodes ++ take k w) (length nodes) k (take k us)
  unfolding row
  row_there =
      let old = values t nodes in
      let more = map (value t old) (take k w) in
      record {
        within = omega (arith, length-append nodes (take k w), length-take k w);
        terms = ap (λ vs. map tree (take k (drop (length nodes) vs))) (values-append t nodes (take k w) (EachRests-take old k w h.rest))
            ∙ ap (λ n. map tree (take k (drop n (old ++ more)))) (sym (length-values t nodes))
            ∙ ap (λ vs. map tree (take k vs)) (drop-append_seam old more)
            ∙ row_terms t old w us k h.terms;
        whole = λ j le lt. row_whole nodes (take k w) (IsChain-take nodes (length nodes) k w h.chain) j le;
      }

-- the nodes that terms spell are a forest that reads as the terms
module _ (from made : List TermNode) (ts : List Tree) (none : from ≡ []) (is : made ≡ from ++ flat_map spelling ts) where
  spelled : made ≡ flat_map spelling ts
  spelled = is ∙ ap (λ ns. ns ++ flat_map spelling ts) none

  pub spelled_forest : (AllFit from → AllFit made) → IsForest made
  spelled_forest fits =
      let P : List TermNode → Type 0 = AllFit in
      subst IsForest (sym spelled) (IsForest-terms ts (subst P spelled (fits (subst P (sym none) tt))))

  pub spelled_reading : reading made ≡ ts
  spelled_reading = ap reading spelled ∙ reading-terms ts

pub waits_length : (t : Table) (nodes w : List Node) (us : List Tree) → Waits t nodes w us → length w ≡ length us
waits_length t nodes w us h = sym (length-map w (λ n. tree (value t (values t nodes) n))) ∙ ap length h.terms

-- a term that is read takes its arguments alone
pub read_taken : (n : TermNode) (ts : List Tree) → take 1 (read n (take (arity n) ts)) ≡ take 1 (read n ts)
read_taken (term.Var v) ts = refl
read_taken (term.Int i) ts = refl
read_taken (term.Atom s) ts = refl
read_taken (term.Compound s k) ts = ap (λ us. compound s (trees us) ∷ []) (take_all k (take k ts) (omega (arith, length-take k ts)))

pub read_some : (n : TermNode) (ts : List Tree) → 0 < length (read n ts)
read_some (term.Var v) ts = omega arith
read_some (term.Int i) ts = omega arith
read_some (term.Atom s) ts = omega arith
read_some (term.Compound s k) ts = omega arith

leaf_same : (t : Table) (vs : List Value) (n : Node) → IsLeaf n → tree (value t vs n) ≡ tree (value t [] n)
leaf_same t vs (Var s) h = refl
leaf_same t vs (Int i) h = refl
leaf_same t vs (Atom a) h = refl
leaf_same t vs (Fun f k) h = absurd h
leaf_same t vs (Sub from root) h = absurd h

-- a node alone
module _ (t : Table) (nodes : List Node) (n : Node) (laid : IsLaid t nodes) (named : IsNamed t n) (leaf : IsLeaf n) where
  leaf_tree : (vs : List Value) → tree (value t vs n) ≡ tree (value t [] n)
  leaf_tree vs = leaf_same t vs n leaf

  leaf_waits : Waits t nodes (n ∷ []) (tree (value t [] n) ∷ [])
  leaf_waits = Waits-leaf t nodes [] [] n (tree (value t [] n)) (Waits-none t nodes laid) named leaf (leaf_tree (values t nodes))

  pub leaf_laid : length (nodes ++ n ∷ []) < 2 ^ 32 → IsLaid t (nodes ++ n ∷ [])
  leaf_laid few = row_laid t nodes (n ∷ []) (tree (value t [] n) ∷ []) 1 leaf_waits (omega arith) few

  pub leaf_there : IsRow t (nodes ++ n ∷ []) (length nodes) 1 (tree (value t [] n) ∷ [])
  leaf_there = row_there t nodes (n ∷ []) (tree (value t [] n) ∷ []) 1 leaf_waits (omega arith)

-- Nodes as arguments: that they are there, and what they stand for.
use Rattle.std.proofs.Common.{◌≡◌, ℕ, zero, suc, pos, ◌+◌, ◌^◌, ◌<◌, ◌≤◌, List, [], ◌∷◌, length, length-drop, length-take, take, drop, map, refl, sym, ap, ap₂, ◌∙◌, subst, arith, inl, inr}
use Rattle.std.proofs.lemmas.Bool.{cases_lt}
use Rattle.std.proofs.lemmas.List.{get_or_past, get_or_default, get_or-take}
use Rattle.plterm.specs.Tree.{Tree, atom, trees}
use Rattle.plterm.specs.Variables.{AllBelow, EachBelow}
use Rattle.plsubst.specs.Subst.{bind}
use Rattle.platoms.specs.Names.{Table, atom_at}
use Rattle.plcells.specs.declared.cell.Cell.TheVariants.{Int as IntCell, Str}
use Rattle.plcells.specs.declared.cell.Argument.{Argument}
use Rattle.plcells.specs.declared.cell.Argument.TheVariants.{Value as ValueArgument, Variable}
use Rattle.plcells.specs.Store.{Store, value}
use Rattle.plcells.specs.Blocks.{stands_for, AreParts as ArePartsOfHeap}
use Rattle.plcode.specs.declared.node.Node.{Node}
use Rattle.plcode.specs.declared.node.Node.TheVariants.{Var, Int, Atom, Fun, Sub}
use Rattle.plcode.specs.Nodes.{Value, tree, block, value as value_of, values, Rests, IsNamed}
use Rattle.plcode.specs.Laying.{IsLaid}
use Rattle.plcode.specs.Packed.{node_at, IsArgument}
use Rattle.plenv.specs.declared.slot.Slot.{Slot}
use Rattle.plenv.specs.declared.slot.Slot.TheVariants.{Free, Set}
use Rattle.plenv.specs.declared.block.BlocksAt.{BlocksAt}
use Rattle.plenv.specs.Env.{Env, slot_at, slot_term, IsSlot, AreSlots}
use Rattle.plenv.specs.Blocks.{cell_of, part_of, part_at, IsPart, AreParts, IsReady, AreReady, AddsNoCell, AreBuilt, Hold}
use Rattle.plenv.proofs.Nodes.{named-at, rests-at, head-at}

-- ---- the nodes of a row
at-drop : (k : ℕ) (ns : List Node) (j : ℕ) → node_at (drop k ns) j ≡ node_at ns (k + j)
at-drop zero ns j = let e : j ≡ 0 + j = omega arith in ap (node_at ns) e
at-drop (suc k) [] j = refl
at-drop (suc k) (n ∷ ns) j = let e : suc (k + j) ≡ suc k + j = omega arith in at-drop k ns j ∙ ap (node_at (n ∷ ns)) e

pub row-node : (ns : List Node) (at k j : ℕ) → j < k → node_at (take k (drop at ns)) j ≡ node_at ns (at + j)
row-node ns at k j lt = get_or-take k (drop at ns) j (Var 0) lt ∙ at-drop at ns j

pub row-length : (ns : List Node) (at k : ℕ) → at + k ≤ length ns → length (take k (drop at ns)) ≡ k
row-length ns at k le = omega (arith, length-take k (drop at ns), length-drop at ns, le)

ready-each : (h : Store) (r : BlocksAt) (row : List Node) → ((j : ℕ) → j < length row → IsReady h r (node_at row j)) → AreReady h r row
ready-each h r [] each = tt
ready-each h r (n ∷ ns) each = (each 0 (omega arith), ready-each h r ns (λ j lt. each (suc j) (omega arith)))

-- ---- a block's arguments are there
module _ (h : Store) (t : Table) (same : h.names ≡ t) (few : length h.cells < 2 ^ 32) (nodes : List Node) (laid : IsLaid t nodes) (r : BlocksAt) (place : ℕ) (built : AreBuilt h nodes r place) (room : place ≤ length nodes) where
  -- the head of the block on which a compound rests
  rooted : (first root : ℕ) → Rests (values t nodes) (Sub first root) → root < place → (f k : ℕ) × (node_at nodes root ≡ Fun f k)
  rooted first root rests lt = head-at t nodes root laid.sound.rest (omega (arith, lt, room)) rests

  ready_one : (n : Node) → IsArgument r.from place n → IsNamed t n → Rests (values t nodes) n → IsReady h r n
  ready_one (Var s) a named rests = tt
  ready_one (Int i) a named rests = tt
  ready_one (Atom x) a named rests = omega (arith, named, ap (λ u. length u.atoms) same)
  ready_one (Fun f k) a named rests = a
  ready_one (Sub first root) a named rests =
      let head = rooted first root rests a.1 in
      let v = built.heads root head.0 head.1 a.0 a.1 head.2 in
      (a.0, omega (arith, v.0, few), v)

  pub ready-row : (at k : ℕ) → at + k ≤ length nodes → ((j : ℕ) → at ≤ j → j < at + k → IsArgument r.from place (node_at nodes j)) → AreReady h r (take k (drop at nodes))
  ready-row at k le each = ready-each h r (take k (drop at nodes)) (λ j lt.
      let few_j : j < k = omega (arith, lt, row-length nodes at k le) in
      let within : at + j < length nodes = omega (arith, le, few_j) in
      subst (IsReady h r) (sym (row-node nodes at k j few_j))
      (ready_one (node_at nodes (at + j)) (each (at + j) (omega arith) (omega (arith, few_j))) (named-at t nodes (at + j) laid.sound.named within) (rests-at t nodes (at + j) laid.sound.rest within)))

-- ---- what they stand for
module _ (e : Env) (h : Store) (adds : AddsNoCell e.heap h) (is : AreSlots e) (r : BlocksAt) where
  IsGood : Argument → Type 0
  IsGood x = ArePartsOfHeap h (x ∷ [])

  abbrev good_slot : (s : Slot) → IsSlot e s → ArePartsOfHeap h (part_of s ∷ [])
  good_slot (Free n) f = (adds.fresh n f.0, tt)
  good_slot (Set v) f = ((adds.grows.values v f).0, tt)

  good_at : (i : ℕ) → ArePartsOfHeap h (part_at e.slots i ∷ [])
  good_at i = elim (cases_lt i (length e.slots)) [
    | inl lt ↦ subst (λ s. ArePartsOfHeap h (part_of s ∷ [])) (get_or_default e.slots i (Free 0) (Set (IntCell (pos 0))) lt) (good_slot (slot_at e.slots i) (is.fit i lt))
    | inr le ↦ subst (λ s. ArePartsOfHeap h (part_of s ∷ [])) (sym (get_or_past e.slots i (Set (IntCell (pos 0))) le)) (tt, tt)
  ]

  good_part : (n : Node) (x : Argument) → IsReady h r n → IsPart h e.slots r n x → ArePartsOfHeap h (x ∷ [])
  good_part (Var s) x f p = subst (λ y. ArePartsOfHeap h (y ∷ [])) (sym p) (good_at (r.base + s))
  good_part (Int i) x f p = subst (λ y. ArePartsOfHeap h (y ∷ [])) (sym p.1) (p.2, tt)
  good_part (Atom a) x f p = subst (λ y. ArePartsOfHeap h (y ∷ [])) (sym p) (f, tt)
  good_part (Fun g k) x f p = absurd p
  good_part (Sub first root) x f p = subst (λ y. ArePartsOfHeap h (y ∷ [])) (sym p) (f.2, tt)

  joined : (x : Argument) (xs : List Argument) → ArePartsOfHeap h (x ∷ []) → ArePartsOfHeap h xs → ArePartsOfHeap h (x ∷ xs)
  joined (ValueArgument v) xs p q = (p.0, q)
  joined (Variable n) xs p q = (p.0, q)

  pub good-parts : (ns : List Node) (xs : List Argument) → AreReady h r ns → AreParts h e.slots r ns xs → ArePartsOfHeap h xs
  good-parts [] [] f p = tt
  good-parts [] (x ∷ xs) f p = absurd p
  good-parts (n ∷ ns) [] f p = absurd p
  good-parts (n ∷ ns) (x ∷ xs) f p = joined x xs (good_part n x f.0 p.0) (good-parts ns xs f.1 p.1)

  module _ (t : Table) (same : h.names ≡ t) (vs : List Value) (σ : ℕ → Tree) (width : ℕ) (hold : Hold e r.base σ width) where
    stand_slot : (s : Slot) → IsSlot e s → stands_for h (part_of s) ≡ slot_term e.heap s
    stand_slot (Free n) f = refl
    stand_slot (Set v) f = (adds.grows.values v f).1

    stand_at : (s : ℕ) → s < width → stands_for h (part_at e.slots (r.base + s)) ≡ σ s
    stand_at s lt =
        let held = hold s lt in
        ap (λ x. stands_for h (part_of x)) (sym (get_or_default e.slots (r.base + s) (Free 0) (Set (IntCell (pos 0))) held.0))
        ∙ stand_slot (slot_at e.slots (r.base + s)) (is.fit (r.base + s) held.0)
        ∙ held.1

    -- the compounds before stand for theirs
    abbrev pub IsTold : Node → Type 0
    IsTold (Var s) = Unit {0}
    IsTold (Int i) = Unit {0}
    IsTold (Atom a) = Unit {0}
    IsTold (Fun f k) = Unit {0}
    IsTold (Sub first root) = AllBelow width (block (drop root vs)) → value h (Str (cell_of r root)) ≡ bind σ (block (drop root vs))

    stand_part : (n : Node) (x : Argument) → IsPart h e.slots r n x → IsTold n → AllBelow width (tree (value_of t vs n)) → stands_for h x ≡ bind σ (tree (value_of t vs n))
    unfolding bind
    stand_part (Var s) x p told below = ap (stands_for h) p ∙ stand_at s below
    stand_part (Int i) x p told below = ap (stands_for h) p.1 ∙ p.3
    stand_part (Atom a) x p told below = ap (stands_for h) p ∙ ap (λ u. atom (atom_at u a)) same
    stand_part (Fun f k) x p told below = absurd p
    stand_part (Sub first root) x p told below = ap (stands_for h) p ∙ told below

    pub stand-parts : (ns : List Node) (xs : List Argument) → AreParts h e.slots r ns xs → ((j : ℕ) → j < length ns → IsTold (node_at ns j)) → EachBelow width (trees (map (λ n. tree (value_of t vs n)) ns))
        → map (stands_for h) xs ≡ map (bind σ) (map (λ n. tree (value_of t vs n)) ns)
    stand-parts [] [] p told below = refl
    stand-parts [] (x ∷ xs) p told below = absurd p
    stand-parts (n ∷ ns) [] p told below = absurd p
    stand-parts (n ∷ ns) (x ∷ xs) p told below =
        ap₂ (λ u us. u ∷ us) (stand_part n x p.0 (told 0 (omega arith)) below.0) (stand-parts ns xs p.1 (λ j lt. told (suc j) (omega arith)) below.1)

pub parts-length : (h : Store) (slots : List Slot) (r : BlocksAt) (ns : List Node) (xs : List Argument) → AreParts h slots r ns xs → length xs ≡ length ns
parts-length h slots r [] [] p = refl
parts-length h slots r [] (x ∷ xs) p = absurd p
parts-length h slots r (n ∷ ns) [] p = absurd p
parts-length h slots r (n ∷ ns) (x ∷ xs) p = ap suc (parts-length h slots r ns xs p.1)

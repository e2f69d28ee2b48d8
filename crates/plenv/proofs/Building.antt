-- A block that is put behind those before it.
use Rattle.std.proofs.Common.{◌≡◌, ℕ, suc, pos, ◌+◌, ◌-◌, ◌<◌, ◌≤◌, List, length, take, drop, map, get_or, refl, sym, ap, ap₂, ◌∙◌, subst, arith, inl, inr, ◌⊎◌}
use Rattle.std.proofs.lemmas.Bool.{cases_lt, cases_eq}
use Rattle.std.proofs.lemmas.List.{length-map, length-set}
use Rattle.plterm.specs.Tree.{Tree, var, compound, trees}
use Rattle.plterm.specs.Variables.{AllBelow, EachBelow}
use Rattle.plsubst.specs.Subst.{bind}
use Rattle.platoms.specs.Names.{Table, functor_name, functor_arity}
use Rattle.plcells.specs.declared.cell.Cell.{Cell}
use Rattle.plcells.specs.declared.cell.Cell.TheVariants.{Int as IntCell, Str, Ref}
use Rattle.plcells.specs.declared.cell.Argument.{Argument}
use Rattle.plcells.specs.declared.cell.Argument.TheVariants.{Value as ValueArgument, Variable}
use Rattle.plcells.specs.Store.{Store, IsValue, IsFresh, IsFunctorOf, Grows, term, value, AddsBlock}
use Rattle.plcells.proofs.Kept.{Keeps-trans}
use Rattle.plcells.specs.Blocks.{stands_for, numbers_of}
use Rattle.plcells.proofs.Nodes.{bind-trees}
use Rattle.plcode.specs.declared.node.Node.{Node}
use Rattle.plcode.specs.declared.node.Node.TheVariants.{Var, Int, Atom, Fun, Sub}
use Rattle.plcode.specs.Nodes.{Value, tree, value as value_of, values, Rests, IsNamed}
use Rattle.plcode.specs.Laying.{IsLaid}
use Rattle.plcode.specs.Packed.{node_at, IsArgument, IsBlockAt}
use Rattle.plenv.specs.declared.slot.Slot.{Slot}
use Rattle.plenv.specs.declared.slot.Slot.TheVariants.{Free, Set}
use Rattle.plenv.specs.declared.block.BlocksAt.{BlocksAt}
use Rattle.plenv.specs.declared.block.Gathered.{Gathered}
use Rattle.plenv.specs.Env.{Env, slot_at, variable, AreSlots}
use Rattle.plenv.specs.Blocks.{cell_of, AreParts, AddsNoCell, AreBuilt, block_at, Stand, Hold, HasFree, IsGathered, PutsBlock}
use Rattle.plenv.specs.Changes.{Stays}
use Rattle.plenv.proofs.Changing.{slots-over, slots-set, variable-set}
use Rattle.plenv.proofs.Putting.{stays-grown}
use Rattle.plsubst.proofs.Unify.{bind-var}
use Rattle.plenv.proofs.Keeping.{over_heap, with_slot, keeps-both, keeps-slot}
use Rattle.plenv.proofs.Nodes.{named-at, rests-at, head-at, block-is, get-map}
use Rattle.plenv.proofs.Parts.{row-node, row-length, stand-parts, parts-length, IsTold}

-- ---- the block
each-below : (width : ℕ) (s : List ℕ) (us : List Tree) → AllBelow width (compound s (trees us)) → EachBelow width (trees us)
each-below width s us b = b

module _ (e : Env) (h new : Store) (adds : AddsNoCell e.heap h) (is : AreSlots e) (nodes : List Node) (laid : IsLaid e.heap.names nodes) (r : BlocksAt) (place f k : ℕ) (b : IsBlockAt nodes r.from place f k) (built : AreBuilt e.heap nodes r place)
    (xs : List Argument) (parts : AreParts h e.slots r (take k (drop (suc place) nodes)) xs) (p : ℕ) (block_added : AddsBlock h new p (functor_name h.names f) (map (stands_for h) xs) (numbers_of xs)) where
  abbrev row : List Node
  row = take k (drop (suc place) nodes)

  at_cell : p ≡ cell_of r place
  at_cell = block_added.place ∙ ap length adds.cells ∙ built.length

  room : suc place + k ≤ length nodes
  room = let w = b.within in omega (arith, w)

  new_length : length new.cells ≡ suc (length e.heap.cells + k)
  new_length =
      let cells = ap length adds.cells in
      let count = length-map xs (stands_for h) in
      let many = parts-length h e.slots r (take k (drop (suc place) nodes)) xs parts in
      let all = row-length nodes (suc place) k room in
      omega (arith, block_added.length, cells, count, many, all)

  no_head : (q g m : ℕ) → place < q → q < suc (place + k) → node_at nodes q ≡ Fun g m → ⊥
  no_head q g m lo hi at = let no : IsArgument r.from place (Fun g m) = subst (IsArgument r.from place) at (b.arguments q lo (omega (arith, hi))) in no

  -- a block before, or this one
  which : (q g m : ℕ) → q < suc (place + k) → node_at nodes q ≡ Fun g m → (q < place) ⊎ (q ≡ place)
  which q g m lt at = elim (cases_lt q place) [
    | inl low ↦ inl low
    | inr high ↦ elim (cases_eq q place) [
      | inl same ↦ inr same
      | inr ne ↦ absurd (no_head q g m (omega (arith, high, ne)) lt at)
    ]
  ]

  value_kept : (v : Cell) → IsValue e.heap v → IsValue new v × (value new v ≡ value e.heap v)
  value_kept v fits = let a = adds.grows.values v fits in let c = block_added.grows.values v a.0 in (c.0, c.1 ∙ a.1)

  here : IsValue new (Str (cell_of r place))
  here = subst (λ c. IsValue new (Str c)) at_cell block_added.fits

  built_on : AreBuilt new nodes r (suc (place + k))
  built_on = record {
    from = omega (arith, built.from);
    length = omega (arith, new_length, built.length, built.from);
    heads = λ q g m le lt at. elim (which q g m lt at) [
      | inl low ↦ (value_kept (Str (cell_of r q)) (built.heads q g m le low at)).0
      | inr same ↦ subst (λ c. IsValue new (Str (cell_of r c))) (sym same) here
    ];
  }

  names_same : h.names ≡ e.heap.names
  names_same = adds.grows.names

  module _ (σ : ℕ → Tree) (width : ℕ) (hold : Hold e r.base σ width) (stand : Stand e.heap σ width nodes r place) where
    abbrev vs : List Value
    vs = values e.heap.names nodes

    told_node : (n : Node) → IsArgument r.from place n → Rests (values e.heap.names nodes) n → IsTold e h adds is r e.heap.names names_same (values e.heap.names nodes) σ width hold n
    told_node (Var s) a rests = tt
    told_node (Int i) a rests = tt
    told_node (Atom x) a rests = tt
    told_node (Fun g m) a rests = tt
    told_node (Sub first root) a rests = λ below.
        let head = head-at e.heap.names nodes root laid.sound.rest (let w = b.within in omega (arith, a.1, w)) rests in
        let v = built.heads root head.0 head.1 a.0 a.1 head.2 in
        (adds.grows.values (Str (cell_of r root)) v).1 ∙ stand root head.0 head.1 a.0 a.1 head.2 below

    told_row : (j : ℕ) → j < length (take k (drop (suc place) nodes)) → IsTold e h adds is r e.heap.names names_same (values e.heap.names nodes) σ width hold (node_at (take k (drop (suc place) nodes)) j)
    told_row j lt =
        let few : j < k = omega (arith, lt, row-length nodes (suc place) k room) in
        subst (IsTold e h adds is r e.heap.names names_same (values e.heap.names nodes) σ width hold) (sym (row-node nodes (suc place) k j few))
        (told_node (node_at nodes (suc place + j)) (b.arguments (suc place + j) (omega arith) (omega (arith, few))) (rests-at e.heap.names nodes (suc place + j) laid.sound.rest (omega (arith, room, few))))

    this_block : AllBelow width (block_at e.heap.names nodes place) → value new (Str (cell_of r place)) ≡ bind σ (block_at e.heap.names nodes place)
    unfolding bind
    this_block below =
        let us = map (λ n. tree (value_of e.heap.names (values e.heap.names nodes) n)) (take k (drop (suc place) nodes)) in
        let is_block = block-is e.heap.names nodes place f k laid.sound.rest (let w = b.within in omega (arith, w)) b.head in
        let each = each-below width (functor_name e.heap.names f) us (subst (AllBelow width) is_block below) in
        ap (λ c. value new (Str c)) (sym at_cell)
        ∙ block_added.is
        ∙ ap₂ (λ s ts. compound s (trees ts)) (ap (λ t. functor_name t f) names_same) (stand-parts e h adds is r e.heap.names names_same (values e.heap.names nodes) σ width hold (take k (drop (suc place) nodes)) xs parts told_row each)
        ∙ ap (compound (functor_name e.heap.names f)) (sym (bind-trees σ us))
        ∙ ap (bind σ) (sym is_block)

    all_names : new.names ≡ e.heap.names
    all_names = block_added.grows.names ∙ names_same

    stand_on : Stand new σ width nodes r (suc (place + k))
    stand_on q g m le lt at below =
        let under = subst (λ t. AllBelow width (block_at t nodes q)) all_names below in
        elim (which q g m lt at) [
          | inl low ↦ (value_kept (Str (cell_of r q)) (built.heads q g m le low at)).1 ∙ stand q g m le low at under ∙ ap (λ t. bind σ (block_at t nodes q)) (sym all_names)
          | inr same ↦
              ap (λ c. value new (Str (cell_of r c))) same
              ∙ this_block (subst (λ c. AllBelow width (block_at e.heap.names nodes c)) same under)
              ∙ ap (λ c. bind σ (block_at e.heap.names nodes c)) (sym same)
              ∙ ap (λ t. bind σ (block_at t nodes q)) (sym all_names)
        ]

  pub puts-block : PutsBlock e (over_heap e new e.count) nodes r place k
  puts-block = record { functor = f; head = b.head; built = built_on; stand = λ σ width hold stand. stand_on σ width hold stand }

-- ---- the same block by the head that was read
pub block-here : (nodes : List Node) (from place f k g m : ℕ) → IsBlockAt nodes from place f k → node_at nodes place ≡ Fun g m → IsBlockAt nodes from place g m
block-here nodes from place f k g m b is =
    let heads : Fun f k ≡ Fun g m = sym b.head ∙ is in
    let many : k ≡ m = (cc) in
    let w = b.within in
    record { head = is; within = omega (arith, w, many); arguments = λ j lo hi. b.arguments j lo (omega (arith, hi, many)) }

pub row-slice : (nodes : List Node) (place k : ℕ) → take (place + 1 + k - (place + 1)) (drop (place + 1) nodes) ≡ take k (drop (suc place) nodes)
row-slice nodes place k =
    let few : place + 1 + k - (place + 1) ≡ k = omega arith in
    let next : place + 1 ≡ suc place = omega arith in
    ap₂ (λ i j. take i (drop j nodes)) few next

-- the heap has grown
module _ (e : Env) (h new : Store) (adds : AddsNoCell e.heap h) (grows : Grows h new) (is : AreSlots e) where
  value_on : (v : Cell) → IsValue e.heap v → IsValue new v × (value new v ≡ value e.heap v)
  value_on v fits = let a = adds.grows.values v fits in let c = grows.values v a.0 in (c.0, c.1 ∙ a.1)

  pub stays-built : Stays e (over_heap e new e.count)
  stays-built = stays-grown e new value_on (Keeps-trans e.heap h new adds.grows.keeps grows.keeps) is

  pub slots-built : ((m : ℕ) → IsFresh h m → IsFresh new m) → AreSlots (over_heap e new e.count)
  slots-built fresh = slots-over e new (λ v f. (value_on v f).0) (λ m f. fresh m (adds.fresh m f)) is

pub has-free-block : (slots : List Slot) (base : ℕ) (nodes : List Node) (place k : ℕ) → suc place + k ≤ length nodes
    → HasFree slots base (take k (drop (suc place) nodes)) 0 (length (take k (drop (suc place) nodes))) → HasFree slots base nodes place (suc (place + k))
has-free-block slots base nodes place k le f =
    let few : f.place < k = let b = f.before in omega (arith, b, row-length nodes (suc place) k le) in
    record {
      place = suc place + f.place;
      variable = f.variable;
      number = f.number;
      behind = omega arith;
      before = omega (arith, few);
      is = sym (row-node nodes (suc place) k f.place few) ∙ f.is;
      within = f.within;
      free = f.free;
    }

pub functor-of : (nodes : List Node) (t u : Table) (from place f k n : ℕ) → IsLaid t nodes → IsBlockAt nodes from place f k → u ≡ t → n ≡ k → IsFunctorOf u f n
functor-of nodes t u from place f k n laid b same many =
    let w = b.within in
    let named : IsNamed t (Fun f k) = subst (IsNamed t) b.head (named-at t nodes place laid.sound.named (omega (arith, w))) in
    record { within = omega (arith, named.0, ap (λ x. length x.functors) same); arity = ap (λ x. functor_arity x f) same ∙ named.1 ∙ sym many }

-- ---- a block with one new variable
module _ (e : Env) (h new : Store) (adds : AddsNoCell e.heap h) (is : AreSlots e) (slot n c : ℕ) (within : slot < length e.slots) (free : slot_at e.slots slot ≡ Free n)
    (grows : Grows h new) (fits : IsValue new (Ref c)) (at : term new c ≡ var n) where
  one_kept : (v : Cell) → IsValue e.heap v → IsValue new v × (value new v ≡ value e.heap v)
  one_kept v f = let a = adds.grows.values v f in let b = grows.values v a.0 in (b.0, b.1 ∙ a.1)

  pub slots-one : ((m : ℕ) → IsFresh h m → (m ≡ n → ⊥) → IsFresh new m) → AreSlots (with_slot e new slot n (Set (Ref c)))
  slots-one fresh = slots-set e new slot n (Ref c) is within free (λ w f. (one_kept w f).0) (λ m f ne. fresh m (adds.fresh m f) ne) fits

  pub stays-one : Stays e (with_slot e new slot n (Set (Ref c)))
  stays-one = record {
    extends = record {
      values = one_kept;
      slots = omega (arith, length-set e.slots slot (Set (Ref c)));
      variables = λ j lt. variable-set e new slot n (Ref c) is within free var (λ w f. (one_kept w f).1 ∙ sym (bind-var (value e.heap w))) (λ m f ne. refl) at j lt ∙ bind-var (variable e j);
      count = omega arith;
      keeps = keeps-both e (with_slot e new slot n (Set (Ref c))) (Keeps-trans e.heap h new adds.grows.keeps grows.keeps) (keeps-slot e new slot n (Set (Ref c)) free);
    };
    slots = length-set e.slots slot (Set (Ref c));
    count = refl;
  }

-- the cell of its argument
module _ (h new : Store) (p : ℕ) (name : List ℕ) (xs : List Argument) (made : AddsBlock h new p name (map (stands_for h) xs) (numbers_of xs)) (at n c : ℕ) (lt : at < length xs) (is : get_or xs at (ValueArgument (IntCell (pos 0))) ≡ Variable n) (cell : c ≡ suc p + at) where
  there : IsValue new (Ref (suc p + at)) × (term new (suc p + at) ≡ get_or (map (stands_for h) xs) at (var 0))
  there = made.arguments at (omega (arith, lt, length-map xs (stands_for h)))

  pub one-fits : IsValue new (Ref c)
  one-fits = subst (λ i. IsValue new (Ref i)) (sym cell) there.0

  pub one-is : term new c ≡ var n
  one-is = ap (term new) cell ∙ there.1 ∙ get-map (stands_for h) xs at (ValueArgument (IntCell (pos 0))) (var 0) lt ∙ ap (stands_for h) is

-- what was gathered of the block's row
pub gathered-here : (h : Store) (slots ys : List Slot) (r : BlocksAt) (nodes : List Node) (place k : ℕ) (xs : List Argument) (g o : Gathered) → ys ≡ slots → g ≡ o
    → IsGathered h ys r (take (place + 1 + k - (place + 1)) (drop (place + 1) nodes)) xs g → IsGathered h slots r (take k (drop (suc place) nodes)) xs o
gathered-here h slots ys r nodes place k xs g o same is got =
    subst (IsGathered h slots r (take k (drop (suc place) nodes)) xs) is
    (subst (λ zs. IsGathered h zs r (take k (drop (suc place) nodes)) xs g) same
    (subst (λ ns. IsGathered h ys r ns xs g) (row-slice nodes place k) got))

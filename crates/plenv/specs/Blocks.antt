-- The blocks of a compound, put on the heap one behind the other as they stand among the nodes.
use Rattle.std.specs.Prelude.{◌≡◌, ℕ, pos, suc, ◌+◌, ◌-◌, ◌^◌, ◌<◌, ◌≤◌, List, [], ◌∷◌, length, drop, get_or, Option, Some, None}
use Rattle.plterm.specs.Tree.{Tree, int}
use Rattle.plterm.specs.Variables.{AllBelow}
use Rattle.plsubst.specs.Subst.{bind}
use Rattle.platoms.specs.Names.{Table}
use Rattle.plcells.specs.declared.cell.Cell.{Cell}
use Rattle.plcells.specs.declared.cell.Cell.TheVariants.{Int as IntCell, Atom as AtomCell, Str}
use Rattle.plcells.specs.declared.cell.Argument.{Argument}
use Rattle.plcells.specs.declared.cell.Argument.TheVariants.{Value, Variable}
use Rattle.plcells.specs.Store.{Store, IsValue, IsFresh, Grows, value}
use Rattle.plcode.specs.declared.node.Node.{Node}
use Rattle.plcode.specs.declared.node.Node.TheVariants.{Var, Int, Atom, Fun, Sub}
use Rattle.plcode.specs.Nodes.{block, values}
use Rattle.plcode.specs.Packed.{node_at}
use Rattle.plenv.specs.declared.slot.Slot.{Slot}
use Rattle.plenv.specs.declared.slot.Slot.TheVariants.{Free, Set}
use Rattle.plenv.specs.declared.block.BlocksAt.{BlocksAt}
use Rattle.plenv.specs.declared.block.Gathered.{Gathered}
use Rattle.plenv.specs.declared.block.Gathered.TheVariants.{Whole, One, Several}
use Rattle.plcells.specs.Blocks.{numbers_of}
use Rattle.plenv.specs.Env.{Env, slot_at, variable}

-- the cell of the block at a place
abbrev pub cell_of : BlocksAt → ℕ → ℕ
cell_of r p = r.start + (p - r.from)

abbrev pub part_of : Slot → Argument
part_of (Free n) = Variable n
part_of (Set v) = Value v

-- a slot as an argument; a variable without a slot stands in no term that is asked for
abbrev pub part_at : List Slot → ℕ → Argument
part_at slots i = part_of (get_or slots i (Set (IntCell (pos 0))))

-- a node as an argument
abbrev pub IsPart : Store → List Slot → BlocksAt → Node → Argument → Type 0
IsPart h slots r (Var s) x = x ≡ part_at slots (r.base + s)
IsPart h slots r (Int i) x = (v : Cell) × (x ≡ Value v) × IsValue h v × (value h v ≡ int i)
IsPart h slots r (Atom a) x = x ≡ Value (AtomCell a)
IsPart h slots r (Fun f k) x = ⊥
IsPart h slots r (Sub first root) x = x ≡ Value (Str (cell_of r root))

abbrev pub AreParts : Store → List Slot → BlocksAt → List Node → List Argument → Type 0
AreParts h slots r [] [] = Unit {0}
AreParts h slots r [] (x ∷ xs) = ⊥
AreParts h slots r (n ∷ ns) [] = ⊥
AreParts h slots r (n ∷ ns) (x ∷ xs) = IsPart h slots r n x × AreParts h slots r ns xs

-- what a node needs as an argument is there
abbrev pub IsReady : Store → BlocksAt → Node → Type 0
IsReady h r (Var s) = Unit {0}
IsReady h r (Int i) = Unit {0}
IsReady h r (Atom a) = a < length h.names.atoms
IsReady h r (Fun f k) = ⊥
IsReady h r (Sub first root) = (r.from ≤ root) × (cell_of r root < 2 ^ 32) × IsValue h (Str (cell_of r root))

abbrev pub AreReady : Store → BlocksAt → List Node → Type 0
AreReady h r [] = Unit {0}
AreReady h r (n ∷ ns) = IsReady h r n × AreReady h r ns

-- all that was there stands for what it did, and no cell and no variable is new
pub record AddsNoCell (old new : Store) : Type 0 where
  pub grows : Grows old new
  pub cells : new.cells ≡ old.cells
  pub fresh : (m : ℕ) → IsFresh old m → IsFresh new m

-- the blocks before a place are on the heap, and nothing stands behind them
pub record AreBuilt (h : Store) (nodes : List Node) (r : BlocksAt) (place : ℕ) : Type 0 where
  pub from : r.from ≤ place
  pub length : length h.cells ≡ cell_of r place
  pub heads : (p f k : ℕ) → r.from ≤ p → p < place → node_at nodes p ≡ Fun f k → IsValue h (Str (cell_of r p))

-- the compound whose block stands at a place
abbrev pub block_at : Table → List Node → ℕ → Tree
block_at t nodes p = block (drop p (values t nodes))

-- the blocks before a place stand for their compounds, where these are over variables below a width
abbrev pub Stand : Store → (ℕ → Tree) → ℕ → List Node → BlocksAt → ℕ → Type 0
Stand h σ width nodes r place = (p f k : ℕ) → r.from ≤ p → p < place → node_at nodes p ≡ Fun f k → AllBelow width (block_at h.names nodes p)
    → value h (Str (cell_of r p)) ≡ bind σ (block_at h.names nodes p)

-- the slots of variables below a width hold what is put for them
abbrev pub Hold : Env → ℕ → (ℕ → Tree) → ℕ → Type 0
Hold e base σ width = (s : ℕ) → s < width → (base + s < length e.slots) × (variable e (base + s) ≡ σ s)

-- a variable among the nodes from a place to another whose slot is free
pub record HasFree (slots : List Slot) (base : ℕ) (nodes : List Node) (low high : ℕ) : Type 0 where
  pub place : ℕ
  pub variable : ℕ
  pub number : ℕ
  pub behind : low ≤ place
  pub before : place < high
  pub is : node_at nodes place ≡ Var variable
  pub within : base + variable < length slots
  pub free : slot_at slots (base + variable) ≡ Free number

-- a block was put behind the others
pub record PutsBlock (old new : Env) (nodes : List Node) (r : BlocksAt) (place k : ℕ) : Type 0 where
  pub functor : ℕ
  pub head : node_at nodes place ≡ Fun functor k
  pub built : AreBuilt new.heap nodes r (suc (place + k))
  pub stand : (σ : ℕ → Tree) (width : ℕ) → Hold old r.base σ width → Stand old.heap σ width nodes r place → Stand new.heap σ width nodes r (suc (place + k))

-- at most one new variable among arguments: where it stands, and its number
abbrev pub HasOne : List Argument → Option (ℕ × ℕ) → Type 0
HasOne xs None = numbers_of xs ≡ []
HasOne xs (Some p) = (numbers_of xs ≡ p.1 ∷ []) × (p.0 < length xs) × (get_or xs p.0 (Value (IntCell (pos 0))) ≡ Variable p.1)

-- what was gathered of a row
abbrev pub IsGathered : Store → List Slot → BlocksAt → List Node → List Argument → Gathered → Type 0
IsGathered h slots r row xs Whole = AreParts h slots r row xs × HasOne xs None
IsGathered h slots r row xs (One at n) = AreParts h slots r row xs × HasOne xs (Some (at, n))
IsGathered h slots r row xs Several = HasFree slots r.base row 0 (length row)

-- What cells stand for.
use Rattle.std.specs.Prelude.{false, ◌≡◌, ℕ, ℤ, pos, zero, suc, ◌+◌, ◌^◌, ◌<◌, ◌≤◌, Bool, true, List, [], ◌∷◌, ◌++◌, length, take, drop, get_or, set, nat_lt}
use Rattle.std.specs.Bool.{⊤}
use Rattle.plterm.specs.Tree.{Tree, var, int, atom, compound, trees}
use Rattle.plsubst.specs.Subst.{bind, put, occurs}
use Rattle.platoms.specs.Names.{Table, IsTable, Extends, atom_at, functor_name, functor_arity}
use Rattle.plcells.specs.declared.cell.Cell.{Cell}
use Rattle.plcells.specs.declared.cell.Cell.TheVariants.{Free, Lone, Ref, Int, Wide, Atom, Str, Fun, Ground}
use Rattle.plcells.specs.declared.cell.Mark.{Mark}
use Rattle.plcells.specs.declared.cell.Trailed.{Trailed}

-- a heap: its cells; the numbers of its variables and the wide integers, each by its place; the bindings that an undo takes off, in their order; how many cells are older than each mark that is in use; and the names
pub record Store : Type 0 where
  pub cells : List Cell
  pub numbers : List ℕ
  pub wide : List ℤ
  pub trail : List Trailed
  pub boundary : ℕ
  pub names : Table

-- a cell by its place
abbrev pub at : List Cell → ℕ → Cell
at cells i = get_or cells i (Atom 0)

-- the number of a variable, by its place
abbrev pub number_at : Store → ℕ → ℕ
number_at h p = get_or h.numbers p 0

abbrev pub wide_at : Store → ℕ → ℤ
wide_at h p = get_or h.wide p (pos 0)

-- so many trees from one on
abbrev pub spread : (ℕ → Tree) → ℕ → ℕ → List Tree
spread w c zero = []
spread w c (suc k) = w c ∷ spread w (suc c) k

-- what the cell i shows, where w is what the others stand for
abbrev pub shown_by : Store → (ℕ → Tree) → ℕ → Cell → Tree
shown_by h w i (Free p) = var (number_at h p)
shown_by h w i (Lone p) = var (number_at h p)
shown_by h w i (Ref j) = w j
shown_by h w i (Int n) = int n
shown_by h w i (Wide p) = int (wide_at h p)
shown_by h w i (Atom a) = atom (atom_at h.names a)
shown_by h w i (Str p) = w p
shown_by h w i (Fun f) = compound (functor_name h.names f) (trees (spread w (suc i) (functor_arity h.names f)))
shown_by h w i (Ground f) = compound (functor_name h.names f) (trees (spread w (suc i) (functor_arity h.names f)))

-- a cell read along fewer than so many references
unfoldable pub term_in : Store → ℕ → ℕ → Tree
term_in h zero c = var 0
term_in h (suc n) c = shown_by h (term_in h n) c (at h.cells c)

-- the term of a cell: no chain of references is longer than there are cells
unfoldable pub term : Store → ℕ → Tree
unfolding term_in
term h = term_in h (length h.cells)

-- what the cell i stands for, by what is in it
abbrev pub shown : Store → ℕ → Cell → Tree
shown h = shown_by h (term h)

-- the terms of a run of cells
abbrev pub terms : Store → ℕ → ℕ → List Tree
terms h = spread (term h)

-- the cell i, which holds this, refers to the cell d
abbrev pub Refers : Table → ℕ → Cell → ℕ → Type 0
Refers t i (Free p) d = ⊥
Refers t i (Lone p) d = ⊥
Refers t i (Ref j) d = d ≡ j
Refers t i (Int n) d = ⊥
Refers t i (Wide p) d = ⊥
Refers t i (Atom a) d = ⊥
Refers t i (Str p) d = d ≡ p
Refers t i (Fun f) d = (i < d) × (d ≤ i + functor_arity t f)
Refers t i (Ground f) d = (i < d) × (d ≤ i + functor_arity t f)

-- the first cell of a block
abbrev pub IsHead : Cell → Type 0
IsHead (Free p) = ⊥
IsHead (Lone p) = ⊥
IsHead (Ref j) = ⊥
IsHead (Int n) = ⊥
IsHead (Wide p) = ⊥
IsHead (Atom a) = ⊥
IsHead (Str p) = ⊥
IsHead (Fun f) = ⊤
IsHead (Ground f) = ⊤

-- the first cell of a block without variables
abbrev pub IsGround : Cell → Type 0
IsGround (Free p) = ⊥
IsGround (Lone p) = ⊥
IsGround (Ref j) = ⊥
IsGround (Int n) = ⊥
IsGround (Wide p) = ⊥
IsGround (Atom a) = ⊥
IsGround (Str p) = ⊥
IsGround (Fun f) = ⊥
IsGround (Ground f) = ⊤

-- a cell in which no variable can stand
abbrev pub IsSolid : List Cell → Cell → Type 0
IsSolid cells (Free p) = ⊥
IsSolid cells (Lone p) = ⊥
IsSolid cells (Ref j) = ⊥
IsSolid cells (Int n) = ⊤
IsSolid cells (Wide p) = ⊤
IsSolid cells (Atom a) = ⊤
IsSolid cells (Str p) = IsGround (at cells p)
IsSolid cells (Fun f) = ⊥
IsSolid cells (Ground f) = ⊥

-- the arguments of a block lie on the heap, and begin no blocks
pub record HasArguments (h : Store) (i f : ℕ) : Type 0 where
  pub functor : f < length h.names.functors
  pub within : i + functor_arity h.names f < length h.cells
  pub plain : (d : ℕ) → i < d → d ≤ i + functor_arity h.names f → IsHead (at h.cells d) → ⊥

pub record HasSolid (h : Store) (i f : ℕ) : Type 0 where
  pub arguments : HasArguments h i f
  pub solid : (d : ℕ) → i < d → d ≤ i + functor_arity h.names f → IsSolid h.cells (at h.cells d)

-- the cell i of a heap, as callers see it: each unbound variable is Free
abbrev pub Fits : Store → ℕ → Cell → Type 0
Fits h i (Free p) = p < length h.numbers
Fits h i (Lone p) = ⊥
Fits h i (Ref j) = (j < length h.cells) × (IsHead (at h.cells j) → ⊥)
Fits h i (Int n) = ⊤
Fits h i (Wide p) = p < length h.wide
Fits h i (Atom a) = a < length h.names.atoms
Fits h i (Str p) = (p < length h.cells) × IsHead (at h.cells p)
Fits h i (Fun f) = HasArguments h i f
Fits h i (Ground f) = HasSolid h i f

-- each cell refers only to cells of lower rank
abbrev pub IsRank : Store → (ℕ → ℕ) → Type 0
IsRank h rank = (i d : ℕ) → i < length h.cells → Refers h.names i (at h.cells i) d → rank d < rank i

abbrev pub AllBelow : ℕ → List Trailed → Type 0
AllBelow n [] = ⊤
AllBelow n (t ∷ ts) = (t.cell < n) × AllBelow n ts

pub record IsHeap (h : Store) : Type 0 where
  pub fits : (i : ℕ) → i < length h.cells → Fits h i (at h.cells i)
  pub rank : ℕ → ℕ
  pub ranked : IsRank h rank
  pub once : (i j p q : ℕ) → i < length h.cells → j < length h.cells → at h.cells i ≡ Free p → at h.cells j ≡ Free q → number_at h p ≡ number_at h q → i ≡ j
  pub trailed : AllBelow (length h.cells) h.trail
  pub bounded : h.boundary ≤ length h.cells
  pub few : length h.cells < 2 ^ 32
  pub names : IsTable h.names

-- a cell that can stand as an argument, and for which a variable can stand
abbrev pub IsValue : Store → Cell → Type 0
IsValue h (Free p) = ⊥
IsValue h (Lone p) = ⊥
IsValue h (Ref j) = (j < length h.cells) × (IsHead (at h.cells j) → ⊥)
IsValue h (Int n) = ⊤
IsValue h (Wide p) = p < length h.wide
IsValue h (Atom a) = a < length h.names.atoms
IsValue h (Str p) = (p < length h.cells) × IsHead (at h.cells p)
IsValue h (Fun f) = ⊥
IsValue h (Ground f) = ⊥

-- what a value stands for
abbrev pub value : Store → Cell → Tree
value h = shown h 0

-- a binding is kept for an undo where its cell is older than a mark
abbrev pub trailed_if : Bool → List Trailed → Trailed → List Trailed
trailed_if true ts t = ts ++ t ∷ []
trailed_if false ts t = ts

-- what a binding of the variable of the cell x asks for
pub record IsBinding (h : Store) (x p : ℕ) (v : Cell) : Type 0 where
  pub within : x < length h.cells
  pub free : at h.cells x ≡ Free p
  pub fits : IsValue h v
  pub apart : occurs (number_at h p) (value h v) ≡ false

-- without the bindings of these cells, the last one first
abbrev pub reset : List Cell → List Trailed → List Cell
reset cells [] = cells
reset cells (t ∷ ts) = set (reset cells ts) t.cell (Free t.place)

-- the heap as it was at the mark, with the names that have come since
unfoldable pub cut : Mark → Store → Store
cut m h = record {
  cells = take m.cells (reset h.cells (drop m.trail h.trail));
  numbers = take m.numbers h.numbers;
  wide = take m.wide h.wide;
  trail = take m.trail h.trail;
  boundary = m.cells;
  names = h.names;
}

-- a mark in use: it is not above the boundary
pub record IsWithin (m : Mark) (h : Store) : Type 0 where
  pub old : m.cells ≤ h.boundary
  pub cells : m.cells ≤ length h.cells
  pub trail : m.trail ≤ length h.trail
  pub numbers : m.numbers ≤ length h.numbers
  pub wide : m.wide ≤ length h.wide

-- a mark of this heap that no undo has passed
pub record IsMark (m : Mark) (h : Store) : Type 0 where
  pub within : IsWithin m h
  pub heap : IsHeap (cut m h)

-- with other names
abbrev pub renamed : Store → Table → Store
renamed h t = record { cells = h.cells; numbers = h.numbers; wide = h.wide; trail = h.trail; boundary = h.boundary; names = t }

-- every mark in use is kept, and the heap at it
pub record Keeps (old new : Store) : Type 0 where
  pub within : (m : Mark) → IsWithin m old → IsWithin m new
  pub kept : (m : Mark) → IsWithin m old → cut m new ≡ renamed (cut m old) new.names
  pub names : Extends old.names new.names

-- a mark of a heap whose marks this one keeps
pub record IsKept (m : Mark) (new : Store) : Type 0 where
  pub old : Store
  pub mark : IsMark m old
  pub keeps : Keeps old new

-- how many variables are unbound
abbrev pub one : Cell → ℕ
one (Free p) = 1
one (Lone p) = 1
one (Ref j) = 0
one (Int n) = 0
one (Wide p) = 0
one (Atom a) = 0
one (Str p) = 0
one (Fun f) = 0
one (Ground f) = 0

abbrev pub frees : List Cell → ℕ
frees [] = 0
frees (n ∷ ns) = one n + frees ns

-- no variable of the heap has the number
abbrev pub IsFresh : Store → ℕ → Type 0
IsFresh h n = (i p : ℕ) → i < length h.cells → at h.cells i ≡ Free p → number_at h p ≡ n → ⊥

-- a binding: what it makes of each cell's term, and that marks are kept
pub record Binds (old new : Store) (n : ℕ) (t : Tree) : Type 0 where
  pub terms : (c : ℕ) → c < length old.cells → term new c ≡ bind (put n t) (term old c)
  pub keeps : Keeps old new
  pub length : length new.cells ≡ length old.cells
  pub numbers : new.numbers ≡ old.numbers
  pub wide : new.wide ≡ old.wide
  pub names : new.names ≡ old.names
  pub boundary : new.boundary ≡ old.boundary
  pub values : (v : Cell) → IsValue old v → IsValue new v × (value new v ≡ bind (put n t) (value old v))
  pub plain : (c : ℕ) → (IsHead (at old.cells c) → ⊥) → IsHead (at new.cells c) → ⊥
  pub fewer : frees new.cells + 1 ≡ frees old.cells
  pub fresh : (m : ℕ) → IsFresh old m → IsFresh new m
  pub stood : IsFresh old n → ⊥

-- with more cells, numbers and wide integers behind those of the heap
abbrev pub grown : Store → List Cell → List ℕ → List ℤ → Store
grown h cs ns ws = record {
  cells = h.cells ++ cs;
  numbers = h.numbers ++ ns;
  wide = h.wide ++ ws;
  trail = h.trail;
  boundary = h.boundary;
  names = h.names;
}

-- with other bindings to take off, and another boundary
abbrev pub noted_by : Store → List Trailed → ℕ → Store
noted_by h ts b = record { cells = h.cells; numbers = h.numbers; wide = h.wide; trail = ts; boundary = b; names = h.names }

-- with another boundary
abbrev pub bounded_by : Store → ℕ → Store
bounded_by h b = record { cells = h.cells; numbers = h.numbers; wide = h.wide; trail = h.trail; boundary = b; names = h.names }

-- all that was there stands for what it did, and every mark is kept
pub record Grows (old new : Store) : Type 0 where
  pub longer : length old.cells ≤ length new.cells
  pub terms : (c : ℕ) → c < length old.cells → term new c ≡ term old c
  pub values : (v : Cell) → IsValue old v → IsValue new v × (value new v ≡ value old v)
  pub keeps : Keeps old new
  pub names : new.names ≡ old.names

-- the same, and there may be more names
pub record Preserves (old new : Store) : Type 0 where
  pub longer : length old.cells ≤ length new.cells
  pub terms : (c : ℕ) → c < length old.cells → term new c ≡ term old c
  pub values : (v : Cell) → IsValue old v → IsValue new v × (value new v ≡ value old v)
  pub keeps : Keeps old new

-- a value where references end: a variable's is the reference to its cell
abbrev pub IsVariable : Cell → Type 0
IsVariable (Free p) = ⊤
IsVariable (Lone p) = ⊥
IsVariable (Ref j) = ⊥
IsVariable (Int n) = ⊥
IsVariable (Wide p) = ⊥
IsVariable (Atom a) = ⊥
IsVariable (Str p) = ⊥
IsVariable (Fun f) = ⊥
IsVariable (Ground f) = ⊥

abbrev pub IsEnd : Store → Cell → Type 0
IsEnd h (Free p) = ⊥
IsEnd h (Lone p) = ⊥
IsEnd h (Ref j) = IsVariable (at h.cells j)
IsEnd h (Int n) = ⊤
IsEnd h (Wide p) = ⊤
IsEnd h (Atom a) = ⊤
IsEnd h (Str p) = ⊤
IsEnd h (Fun f) = ⊥
IsEnd h (Ground f) = ⊥

-- a block of so many arguments, which are no blocks' first cells, and what its term says of theirs
pub record HasTerms (h : Store) (p k : ℕ) : Type 0 where
  pub name : List ℕ
  pub within : p + k < length h.cells
  pub plain : (d : ℕ) → p < d → d ≤ p + k → IsHead (at h.cells d) → ⊥
  pub is : term h p ≡ compound name (trees (terms h (suc p) k))
  pub few : length h.cells < 2 ^ 32

-- a new variable of the number n, at the cell c
pub record AddsVariable (old new : Store) (c n : ℕ) : Type 0 where
  pub place : c ≡ length old.cells
  pub fits : IsValue new (Ref c)
  pub end : IsEnd new (Ref c)
  pub is : term new c ≡ var n
  pub grows : Grows old new
  pub fresh : (m : ℕ) → IsFresh old m → (m ≡ n → ⊥) → IsFresh new m
  pub frees : frees new.cells ≡ frees old.cells + 1
  pub length : length new.cells ≡ suc (length old.cells)

-- a new value for a term, with all that was there as it was
pub record AddsValue (old new : Store) (v : Cell) (t : Tree) : Type 0 where
  pub fits : IsValue new v
  pub is : value new v ≡ t
  pub grows : Grows old new
  pub fresh : (m : ℕ) → IsFresh old m → IsFresh new m
  pub frees : frees new.cells ≡ frees old.cells

abbrev pub AreValues : Store → List Cell → Type 0
AreValues h [] = ⊤
AreValues h (v ∷ vs) = IsValue h v × AreValues h vs

-- a functor of so many arguments
pub record IsFunctorOf (t : Table) (f k : ℕ) : Type 0 where
  pub within : f < length t.functors
  pub arity : functor_arity t f ≡ k

-- the block of a compound
pub record IsBlock (h : Store) (p f k : ℕ) : Type 0 where
  pub functor : f < length h.names.functors
  pub arity : functor_arity h.names f ≡ k
  pub within : p + k < length h.cells
  pub plain : (d : ℕ) → p < d → d ≤ p + k → IsHead (at h.cells d) → ⊥
  pub is : term h p ≡ compound (functor_name h.names f) (trees (terms h (suc p) k))
  pub few : length h.cells < 2 ^ 32

abbrev pub IsInteger : Cell → Type 0
IsInteger (Free p) = ⊥
IsInteger (Lone p) = ⊥
IsInteger (Ref j) = ⊥
IsInteger (Int n) = ⊤
IsInteger (Wide p) = ⊤
IsInteger (Atom a) = ⊥
IsInteger (Str p) = ⊥
IsInteger (Fun f) = ⊥
IsInteger (Ground f) = ⊥

-- no two of these numbers are the same
abbrev pub AreDistinct : List ℕ → Type 0
AreDistinct ns = (j k : ℕ) → j < length ns → k < length ns → get_or ns j 0 ≡ get_or ns k 0 → j ≡ k

-- a new block at the cell p, whose arguments are these, and new variables of these numbers among them
pub record AddsBlock (old new : Store) (p : ℕ) (name : List ℕ) (ts : List Tree) (ns : List ℕ) : Type 0 where
  pub place : p ≡ length old.cells
  pub fits : IsValue new (Str p)
  pub is : term new p ≡ compound name (trees ts)
  pub arguments : (k : ℕ) → k < length ts → IsValue new (Ref (suc p + k)) × (term new (suc p + k) ≡ get_or ts k (var 0))
  pub grows : Grows old new
  pub fresh : (m : ℕ) → IsFresh old m → ((k : ℕ) → k < length ns → get_or ns k 0 ≡ m → ⊥) → IsFresh new m
  pub frees : frees new.cells ≡ frees old.cells + length ns
  pub length : length new.cells ≡ suc (length old.cells + length ts)

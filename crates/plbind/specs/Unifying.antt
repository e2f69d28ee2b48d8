-- What a list of pairs of cells still asks for.
use Rattle.std.specs.Prelude.{◌≡◌, ℕ, zero, suc, ◌+◌, ◌^◌, ◌<◌, ◌≤◌, ◌==◌, Bool, true, false, List, [], ◌∷◌, ◌++◌, length, Some, None}
use Rattle.std.specs.Bool.{⊤}
use Rattle.plterm.specs.Tree.{Tree, var, trees}
use Rattle.plsubst.specs.Subst.{bind, bind_all, occurs}
use Rattle.plsubst.specs.Unify.{unify}
use Rattle.plsubst.proofs.UnifyFinds.{NotSelf}
use Rattle.plcells.specs.declared.cell.Cell.{Cell}
use Rattle.plcells.specs.declared.cell.Cell.TheVariants.{Free, Lone, Ref, Int, Wide, Atom, Str, Fun, Ground}
use Rattle.plcells.specs.Store.{Store, at, term, terms, value, IsHead, IsValue, IsEnd, IsFresh, Keeps, Binds as BindsTo}
use Rattle.plcells.specs.Walking.{weight, weights}
use Rattle.plbind.specs.declared.unify.Scratch.{Scratch}
use Rattle.plbind.specs.declared.unify.Kind.{Kind}
use Rattle.plbind.specs.declared.unify.Kind.TheVariants.{Variables, Binding, Blocks, Integers, Same as SameKind, Clash as ClashKind}
use Rattle.plbind.specs.declared.unify.Verdict.{Verdict}
use Rattle.plbind.specs.declared.unify.Verdict.TheVariants.{Same, Clash, Binds, Args}

abbrev pub same_kind : Bool → Kind
same_kind true = SameKind
same_kind false = ClashKind

-- a value beside a variable
abbrev pub beside : ℕ → Cell → Kind
beside x (Ref y) = Variables x y
beside x (Free p) = Binding x (Free p)
beside x (Lone p) = Binding x (Lone p)
beside x (Int n) = Binding x (Int n)
beside x (Wide p) = Binding x (Wide p)
beside x (Atom a) = Binding x (Atom a)
beside x (Str p) = Binding x (Str p)
beside x (Fun f) = Binding x (Fun f)
beside x (Ground f) = Binding x (Ground f)

-- what two values are, where references end
abbrev pub kind_of : Cell → Cell → Kind
kind_of (Ref x) w = beside x w
kind_of v (Ref y) = Binding y v
kind_of (Str p) (Str q) = Blocks p q
kind_of (Atom f) (Atom g) = same_kind (f == g)
kind_of (Int i) (Int j) = Integers
kind_of (Int i) (Wide q) = Integers
kind_of (Wide p) (Int j) = Integers
kind_of (Wide p) (Wide q) = Integers
kind_of v w = ClashKind

-- both cells come to one term
abbrev pub Equates : (ℕ → Tree) → Store → ℕ → ℕ → Type 0
Equates τ h a b = bind τ (term h a) ≡ bind τ (term h b)

abbrev pub Unifies : (ℕ → Tree) → Store → List (ℕ × ℕ) → Type 0
Unifies τ h [] = ⊤
Unifies τ h (p ∷ ps) = Equates τ h p.0 p.1 × Unifies τ h ps

-- a cell that begins no block
abbrev pub IsPlain : Store → ℕ → Type 0
IsPlain h c = (c < length h.cells) × (IsHead (at h.cells c) → ⊥)

abbrev pub IsInside : Store → List (ℕ × ℕ) → Type 0
IsInside h [] = ⊤
IsInside h (p ∷ ps) = IsPlain h p.0 × IsPlain h p.1 × IsInside h ps

-- the pairs of two runs of cells, the first one last
abbrev pub pairs : ℕ → ℕ → ℕ → List (ℕ × ℕ)
pairs a b zero = []
pairs a b (suc k) = pairs (suc a) (suc b) k ++ (a, b) ∷ []

-- the variable n of the cell x may be bound to a value
pub record IsNear (h : Store) (x : ℕ) (v : Cell) (n : ℕ) : Type 0 where
  pub end : IsEnd h (Ref x)
  pub numbered : term h x ≡ var n
  pub fits : IsValue h v
  pub apart : NotSelf n (value h v)
  pub younger : (u : ℕ) → value h v ≡ var u → u ≤ n

-- so many arguments of the compounds s and t, behind the cells p and q
pub record HasArgs (h : Store) (s t : Tree) (p q k : ℕ) : Type 0 where
  pub left : p + k < length h.cells
  pub right : q + k < length h.cells
  pub left_plain : (d : ℕ) → p < d → d ≤ p + k → IsHead (at h.cells d) → ⊥
  pub right_plain : (d : ℕ) → q < d → d ≤ q + k → IsHead (at h.cells d) → ⊥
  pub few : length h.cells < 2 ^ 32
  pub to : (τ : ℕ → Tree) → bind τ s ≡ bind τ t → bind_all τ (trees (terms h (suc p) k)) ≡ bind_all τ (trees (terms h (suc q) k))
  pub back : (τ : ℕ → Tree) → bind_all τ (trees (terms h (suc p) k)) ≡ bind_all τ (trees (terms h (suc q) k)) → bind τ s ≡ bind τ t
  pub heavier : weight s ≡ suc (weights (trees (terms h (suc p) k)))

-- a variable that has to stand for a value, for s and t to be equal
pub record HasNear (h : Store) (s t : Tree) (x : ℕ) (v : Cell) : Type 0 where
  pub number : ℕ
  pub near : IsNear h x v number
  pub to : (τ : ℕ → Tree) → bind τ s ≡ bind τ t → τ number ≡ bind τ (value h v)
  pub back : (τ : ℕ → Tree) → τ number ≡ bind τ (value h v) → bind τ s ≡ bind τ t

-- what a verdict says of two terms
unfoldable pub IsVerdict : Store → Tree → Tree → Verdict → Type 0
IsVerdict h s t Same = (τ : ℕ → Tree) → bind τ s ≡ bind τ t
IsVerdict h s t Clash = (τ : ℕ → Tree) → bind τ s ≡ bind τ t → ⊥
IsVerdict h s t (Binds x v) = HasNear h s t x v
IsVerdict h s t (Args p q k) = HasArgs h s t p q k

-- a variable that has to stand for a value, and the pairs that are left
pub record HasLeft (h : Store) (old new : List (ℕ × ℕ)) (x : ℕ) (v : Cell) : Type 0 where
  pub number : ℕ
  pub near : IsNear h x v number
  pub to : (τ : ℕ → Tree) → Unifies τ h old → τ number ≡ bind τ (value h v)
  pub rest : (τ : ℕ → Tree) → Unifies τ h old → Unifies τ h new
  pub back : (τ : ℕ → Tree) → τ number ≡ bind τ (value h v) → Unifies τ h new → Unifies τ h old

-- what is found and left of pairs
unfoldable pub Leaves : Store → List (ℕ × ℕ) → List (ℕ × ℕ) → Verdict → Type 0
Leaves h old new Same = (τ : ℕ → Tree) → Unifies τ h old
Leaves h old new Clash = (τ : ℕ → Tree) → Unifies τ h old → ⊥
Leaves h old new (Binds x v) = HasLeft h old new x v
Leaves h old new (Args p q k) = ⊥

-- the pairs ask for what makes s and t one term
pub record Stands (h : Store) (work : List (ℕ × ℕ)) (s t : Tree) : Type 0 where
  pub to : (τ : ℕ → Tree) → bind τ s ≡ bind τ t → Unifies τ h work
  pub back : (τ : ℕ → Tree) → Unifies τ h work → bind τ s ≡ bind τ t

-- every mark in use is kept, values stay values, no variable is new, and the names are those that there were
pub record KeepsAll (old new : Store) : Type 0 where
  pub keeps : Keeps old new
  pub values : (v : Cell) → IsValue old v → IsValue new v
  pub fresh : (m : ℕ) → IsFresh old m → IsFresh new m
  pub names : new.names ≡ old.names

-- what stays as it was, and how values change: nothing is put for a variable that is not on the heap
pub record Substitutes (old new : Store) (σ : ℕ → Tree) : Type 0 where
  pub terms : (c : ℕ) → c < length old.cells → term new c ≡ bind σ (term old c)
  pub values : (v : Cell) → IsValue old v → IsValue new v × (value new v ≡ bind σ (value old v))
  pub fresh : (m : ℕ) → IsFresh old m → IsFresh new m
  pub apart : (m : ℕ) → IsFresh old m → σ m ≡ var m
  pub keeps : Keeps old new
  pub length : length new.cells ≡ length old.cells
  pub names : new.names ≡ old.names

-- the most general unifier has been put into each term
pub record Unified (old new : Store) (s t : Tree) : Type 0 where
  pub unifier : ℕ → Tree
  pub is : unify s t ≡ Some unifier
  pub made : Substitutes old new unifier

-- the answer of a unification
unfoldable pub Answers : Store → Store → Tree → Tree → Bool → Type 0
Answers old new s t true = Unified old new s t
Answers old new s t false = unify s t ≡ None

-- a variable was bound, unless it stands in the term
unfoldable pub Bindings : Store → Store → Cell → ℕ → Bool → Type 0
Bindings old new v n true = (occurs n (value old v) ≡ false) × BindsTo old new n (value old v)
Bindings old new v n false = (occurs n (value old v) ≡ true) × (new ≡ old)

-- no pair and no cell is in a unification's room
abbrev pub HoldsNothing : Scratch → Type 0
HoldsNothing room = (room.work.items ≡ []) × (room.stack.items ≡ [])

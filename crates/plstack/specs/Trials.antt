-- A clause that is copied and tried.
use Rattle.std.specs.Prelude.{◌≡◌, ℕ, ◌+◌, ◌<◌, Bool, true, false, List, ◌++◌, length, reverse, Option, None, Some}
use Rattle.plterm.specs.Tree.{Tree, var}
use Rattle.plterm.specs.Variables.{AllBelow}
use Rattle.plsubst.specs.Subst.{bind, shift}
use Rattle.plsubst.specs.Unify.{unify}
use Rattle.platoms.specs.Names.{Extends as ExtendsNames}
use Rattle.plclause.specs.Clause.{Clause}
use Rattle.plcells.specs.declared.cell.Cell.{Cell}
use Rattle.plcells.specs.Store.{Store, IsValue, AreValues, at, value}
use Rattle.plsearch.specs.Moves.{before_rest, is_true}
use Rattle.plenv.specs.Env.{Env, variable, cut, renamed, IsMark, IsWithin}
use Rattle.plenv.specs.Changes.{Extends, Puts}
use Rattle.pllinks.specs.declared.link.Link.{Link}
use Rattle.pllinks.specs.declared.link.Continuation.{Continuation}
use Rattle.pllinks.specs.Links.{IsChain}
use Rattle.plstack.specs.declared.walk.Opened.{Opened}
use Rattle.plstack.specs.declared.frame.Marks.{Marks}
use Rattle.plstack.specs.Frames.{AreOlder}
use Rattle.plstack.specs.State.{State, IsState, goals_of, IsList}

-- a clause's head was put, and values for its variables, which are new
pub record PutsHead (old new : Env) (x : Clause) (values : List Cell) (head : Cell) : Type 0 where
  pub many : length values ≡ x.variables
  pub fit : AreValues new.heap values
  pub are : (n : ℕ) → n < x.variables → value new.heap (at values n) ≡ var (old.count + n)
  pub head_fits : IsValue new.heap head
  pub head_is : value new.heap head ≡ shift old.count x.head
  pub extends : Extends old new
  pub slots : length new.slots ≡ length old.slots
  pub count : new.count ≡ old.count + x.variables

-- a clause's body was put over these terms for its variables, unless it is the atom true, which is no goal
abbrev pub PutsBody : Env → Env → (ℕ → Tree) → Clause → Option Cell → Type 0
PutsBody old new σ x None = (is_true x.body ≡ true) × (new ≡ old)
PutsBody old new σ x (Some v) = (is_true x.body ≡ false) × AllBelow x.variables x.body × Puts old new v (bind σ x.body)

-- what is left to do: a term, unless there is none
abbrev pub IsRest : Store → Option Cell → Bool → Tree → Type 0
IsRest h None none t = none ≡ true
IsRest h (Some v) none t = (none ≡ false) × IsValue h v × (value h v ≡ t)

-- a clause's head was unified with a goal, its variables new, and its body put over them
pub record Resolved (old new : Env) (t : Tree) (x : Clause) (body : Option Cell) : Type 0 where
  pub unifier : ℕ → Tree
  pub is : unify t (shift old.count x.head) ≡ Some unifier
  pub values : (v : Cell) → IsValue old.heap v → IsValue new.heap v × (value new.heap v ≡ bind unifier (value old.heap v))
  pub variables : (i : ℕ) → i < length old.slots → variable new i ≡ bind unifier (variable old i)
  pub left : IsRest new.heap body (is_true x.body) (bind unifier (shift old.count x.body))
  pub slots : length new.slots ≡ length old.slots
  pub count : new.count ≡ old.count + x.variables

-- a list of a body's value before another, unless there is no body
pub record ListsBody (old new : List Link) (level : ℕ) (body : Option Cell) (rest list : Continuation) : Type 0 where
  pub more : List Link
  pub is : new ≡ old ++ more
  pub chain : IsChain old → IsChain new
  pub there : (s : State) → IsState s → s.links ≡ old → IsList s rest → (none : Bool) (t : Tree) → IsRest s.env.heap body none t →
      IsList (record s { links = new }) list × (goals_of (record s { links = new }) list ≡ before_rest none level t (goals_of s rest))

-- all is as it was but for more names
pub record ComesBack (old new : Env) (links ls : List Link) : Type 0 where
  pub env : new ≡ renamed old new.heap.names
  pub names : ExtendsNames old.heap.names new.heap.names
  pub same : ls ≡ links

-- these are the marks of now, in use
pub record IsMarked (s : State) (m : Marks) : Type 0 where
  pub mark : IsMark m.env s.env
  pub now : cut m.env s.env ≡ s.env
  pub links : m.links ≡ length s.links
  pub saved : m.saved ≡ length s.saved

-- no case is newer than the marks of a call that was opened
pub record IsOpened (s : State) (o : Opened) : Type 0 where
  pub within : IsWithin o.marks.env s.env
  pub older : AreOlder o.marks (reverse s.frames)

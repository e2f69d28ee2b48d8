-- Links, which share their rest.
use Rattle.std.specs.Prelude.{◌≡◌, ℕ, zero, suc, ◌<◌, ◌≤◌, max, List, [], ◌∷◌, ◌++◌, ◌⊎◌, length, get_or, fold}
use Rattle.plsearch.specs.Types.{Element}
use Rattle.plcells.specs.declared.cell.Cell.TheVariants as cells
use Rattle.plenv.specs.Env.{Env}
use Rattle.pllinks.specs.declared.item.ClauseGoals.{ClauseGoals}
use Rattle.pllinks.specs.declared.item.Portion.{Portion}
use Rattle.pllinks.specs.declared.item.Portion.TheVariants as items
use Rattle.pllinks.specs.declared.link.Link.{Link}
use Rattle.pllinks.specs.declared.link.Continuation.{Continuation}
use Rattle.pllinks.specs.Lists.{Goals, all_elements, AreItems}

-- the lists of all links so far, that of number 0, the empty one, first
abbrev pub added : List (List Portion) → Link → List (List Portion)
added lists l = lists ++ (l.item ∷ get_or lists l.next []) ∷ []

unfoldable pub lists_of : List Link → List (List Portion)
lists_of links = fold added ([] ∷ []) links

-- the items of the list of a number
unfoldable pub list_at : List Link → ℕ → List Portion
unfolding lists_of
list_at links i = get_or (lists_of links) i []

-- the items of a list that begins with a run
abbrev pub items_of : List Link → Continuation → List Portion
items_of links l = items.Clause l.run ∷ list_at links l.rest

-- the goals behind the last one of a clause: none, where the code begins with an end
abbrev pub done : ClauseGoals
done = record { position = 0; owed = 0; base = 0; «end» = 0; level = 0 }

abbrev pub IsDone : ClauseGoals → Type 0
IsDone r = (r.position ≡ 0) × (r.owed ≡ 0)

-- a list by its number
abbrev pub alone : ℕ → Continuation
alone n = record { run = done; rest = n }

-- what it stands for
abbrev pub goals_of : Goals → Env → List Link → Continuation → List Element
goals_of code e links l = all_elements code e (items_of links l)

abbrev pub link_at : List Link → ℕ → Link
link_at links i = get_or links i (record { item = items.Goal 0 (cells.Atom 0); next = 0; slots = 0 })

-- how many slots a list asks for
abbrev pub slots_at : List Link → ℕ → ℕ
slots_at links zero = 0
slots_at links (suc i) = (link_at links i).slots

abbrev pub slots_in : Portion → ℕ
slots_in (items.Clause r) = r.«end»
slots_in (items.Goal k v) = 0
slots_in (items.Marker m l) = 0

-- an item before a list
abbrev pub link_to : List Link → Portion → ℕ → Link
link_to links item rest = record { item = item; next = rest; slots = max (slots_in item) (slots_at links rest) }

-- the rest of a link's list is among those before it; the list asks for no more slots than the link says
pub record IsLink (links : List Link) (i : ℕ) (l : Link) : Type 0 where
  pub next : l.next ≤ i
  pub own : slots_in l.item ≤ l.slots
  pub rest_slots : slots_at links l.next ≤ l.slots

abbrev pub IsChain : List Link → Type 0
IsChain links = (i : ℕ) → i < length links → IsLink links i (link_at links i)

-- a list that is there, with its slots and values
pub record IsList (code : Goals) (e : Env) (links : List Link) (l : Continuation) : Type 0 where
  pub there : l.rest ≤ length links
  pub items : AreItems code e.heap (length e.slots) (items_of links l)

-- the number of a list: where no goals of a clause are left it is the rest's, and else a new one's
pub record Numbers (old new : List Link) (l : Continuation) (n : ℕ) : Type 0 where
  pub more : List Link
  pub is : new ≡ old ++ more
  pub chain : IsChain old → IsChain new
  pub there : n ≤ length new
  pub items : (list_at new n ≡ items_of old l) ⊎ (IsDone l.run × (n ≡ l.rest))

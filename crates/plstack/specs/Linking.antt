-- Links that are put behind the others.
use Rattle.std.specs.Prelude.{◌≡◌, List, ◌++◌, length}
use Rattle.pllinks.specs.declared.item.Portion.{Portion}
use Rattle.pllinks.specs.declared.link.Link.{Link}
use Rattle.pllinks.specs.declared.link.Continuation.{Continuation}
use Rattle.pllinks.specs.Lists.{elements, IsItem}
use Rattle.pllinks.specs.Links.{IsChain}
use Rattle.plstack.specs.State.{State, IsState, IsList, AddsList, goals_in, goals_of}

-- a list of an item before a list that is there, of each stack that has these links
pub record LinksItem (old new : List Link) (x : Portion) (rest list : Continuation) : Type 0 where
  pub more : List Link
  pub is : new ≡ old ++ more
  pub chain : IsChain old → IsChain new
  pub adds : (s : State) → IsState s → s.links ≡ old → IsList s rest → IsItem (goals_in s) s.env.heap (length s.env.slots) x →
      AddsList s (record s { links = new }) list (elements (goals_in s) s.env x ++ goals_of s rest)

-- What a look-up seeks in a view, and a clause that is erased.
use Rattle.std.specs.Prelude.{◌≡◌, ℕ, Bool, true, false, List, ◌∷◌}
use Rattle.plevent.specs.Search.{Answer, Seen}
use Rattle.plevent.specs.declared.update.ClauseName.{ClauseName}
use Rattle.plstore.specs.Looking.{Views}
use Rattle.pltx.specs.Own.{State as Own}
use Rattle.plviews.specs.Views.{seen_in}
use Rattle.plviews.specs.declared.view.View.{View}
use Rattle.plprogram.specs.Program.{Program}
use Rattle.plsearch.specs.Types.{Asking, Element, Erase}
use Rattle.plsearch.specs.Machines.Machine.{Machine, turn}
use Rattle.plstack.specs.State.{State}
use Rattle.plmachine.specs.declared.machine.Lookup.{Lookup as Sought}
use Rattle.plmachine.specs.declared.machine.Find.{Find}
use Rattle.plmachine.specs.declared.machine.Machine.{Machine as Reached}
use Rattle.plmachine.specs.Machine.{cases_in, finding, lookup_of, looking, machine, place_behind, run_in, IsFirstOf, IsFound, IsViewed}

-- what a look-up seeks in a view, over the values of a stack that has grown: it is at its beginning
pub record SeeksBy (old new : Reached) (u : Sought) (g : View) (f : Find) : Type 0 where
  pub first : IsFirstOf f
  pub there : (own : Own) (s : State) → s.env.heap ≡ new.stack.env.heap → IsViewed own s g → IsFound own s f
  pub is : (P : Program) (v : Views) (left : ℕ) (answers : List Answer) (s : Reached) → s.stack.env.heap ≡ new.stack.env.heap →
      finding P v left answers s f ≡ looking P v left answers s (lookup_of old.stack.env.heap u) (Seen g.place (seen_in v s.layer.own.updates g))

-- the machine before a list in which a clause is erased first
abbrev pub erasing : Program → Views → ℕ → List Answer → Reached → ClauseName → List Element → Machine
erasing P v left answers s x es = record { mode = place_behind s.stack (Asking (Erase x) ∷ es); cases = cases_in P v s; run = run_in v left answers s }

-- one turn further, or not
abbrev pub turned : Bool → Program → Machine → Machine
turned true P m = turn P m
turned false P m = m

-- the clause is erased at once where something is open, and else it is asked for
abbrev pub ErasesBefore : Program → Bool → Reached → Reached → ClauseName → List Element → Type 0
ErasesBefore P within old new x es = (v : Views) (left : ℕ) (answers : List Answer) → machine P v left answers new ≡ turned within P (erasing P v left answers old x es)

-- What is asked, sought and carried, where a machine's stack changes.
use Rattle.std.proofs.Common.{◌≡◌, ℕ, List, [], ◌∷◌, refl, sym, ap, ap₂, ◌∙◌, subst}
use Rattle.plterm.specs.Tree.{Tree}
use Rattle.plcells.specs.declared.cell.Cell.{Cell}
use Rattle.plcells.specs.Store.{IsValue, value}
use Rattle.plclause.specs.Indicators.{indicator}
use Rattle.plevent.specs.Alive.{exists}
use Rattle.plevent.specs.Search.{Answer, Seen}
use Rattle.plevent.specs.declared.update.Update.{Update}
use Rattle.plstore.specs.Looking.{Views}
use Rattle.pltx.specs.Own.{State as Own}
use Rattle.plviews.specs.Layers.{Layered}
use Rattle.plviews.specs.Views.{seen_in, sight_in}
use Rattle.plviews.specs.declared.view.View.{View}
use Rattle.plprogram.specs.Program.{Program}
use Rattle.plsearch.specs.Types.{ToCall, ToRetrieve, ToRetract, ToRetractAll, Look, Begin, Asking, Element, Lookup, Local, Resolvent}
use Rattle.plsearch.specs.Moves.{publish}
use Rattle.plsearch.specs.Machines.Machine.{At, Machine, move}
use Rattle.pllinks.specs.declared.link.Continuation.{Continuation}
use Rattle.plstack.specs.Basis.{Basis, IsShown}
use Rattle.plstack.specs.Levels.{kinds, AreNamed, FitsIn}
use Rattle.plstack.specs.Places.{Database}
use Rattle.plstack.specs.State.{State, cases_of, goals_of, kinds_in, place_of, IsFit}
use Rattle.plstack.proofs.Fitted.{kinds-in, kinds-opened}
use Rattle.plmachine.specs.declared.machine.Outcome.{Outcome}
use Rattle.plmachine.specs.declared.machine.Outcome.TheVariants as outcomes
use Rattle.plmachine.specs.declared.machine.Lookup.{Lookup as Sought}
use Rattle.plmachine.specs.declared.machine.Lookup.TheVariants as lookups
use Rattle.plmachine.specs.declared.machine.Question.{Question as Asked}
use Rattle.plmachine.specs.declared.machine.Question.TheVariants as questions
use Rattle.plmachine.specs.declared.machine.Find.{Find}
use Rattle.plmachine.specs.declared.machine.Find.TheVariants as finds
use Rattle.plmachine.specs.declared.machine.Mode.{Mode as Going}
use Rattle.plmachine.specs.declared.machine.Mode.TheVariants as modes
use Rattle.plmachine.specs.declared.machine.Machine.{Machine as Reached}
use Rattle.plmachine.specs.Machine.{bare, below_in, cases_in, element_of, finding, local_of, lookup_by, lookup_of, looking, machine_in, mode_of, place_behind, run_in, swept, IsAskable, IsCarried, IsFound, IsSought, IsTold, IsViewed, MayAsk, MayCarry}

-- values that are there stand for what they did
abbrev pub ValuesStay : State → State → Type 0
ValuesStay s t = (v : Cell) → IsValue s.env.heap v → IsValue t.env.heap v × (value t.env.heap v ≡ value s.env.heap v)

-- ---- the cases

pub kinds-as : (s t : State) → ((db : Database) → cases_of db t ≡ cases_of db s) → kinds_in t ≡ kinds_in s
kinds-as s t cases = kinds-opened s t [] cases

carried-as : (s t : State) (r : Outcome) → ((db : Database) → cases_of db t ≡ cases_of db s) → IsCarried s r → IsCarried t r
carried-as s t outcomes.Stop cases is = tt
carried-as s t outcomes.Fail cases is = tt
carried-as s t (outcomes.Throw b ls) cases is = λ db. subst (AreNamed ls.items) (sym (cases db)) (is db)
carried-as s t (outcomes.Halted n) cases is = tt
carried-as s t outcomes.Spent cases is = tt

pub carry-as : (s t : State) (m : Going) → ((db : Database) → cases_of db t ≡ cases_of db s) → MayCarry s m → MayCarry t m
carry-as s t modes.Visit cases may = tt
carry-as s t (modes.Ask q) cases may = tt
carry-as s t (modes.Find f) cases may = tt
carry-as s t (modes.Back r) cases may = carried-as s t r cases may

-- a ball with the levels of a list that fits
pub named-by : (s : State) (l : Continuation) (found : List ℕ) → ((cs : _) → FitsIn (kinds cs) (goals_of s l) → AreNamed found cs) → IsFit s l → (db : Database) → AreNamed found (cases_of db s)
named-by s l found named fits db = named (cases_of db s) (subst (λ ks. FitsIn ks (goals_of s l)) (sym (kinds-in db s)) fits)

-- ---- what is asked and sought

fit-as : (s t : State) → kinds_in t ≡ kinds_in s → place_of t ≡ place_of s → IsFit s s.goals → IsFit t t.goals
fit-as s t same place fits = subst (λ ks. FitsIn ks (goals_of t t.goals)) (sym same) (subst (FitsIn (kinds_in s)) (sym (ap (λ (p : Resolvent). p.goals) place)) fits)

sought-as : (s t : State) (u : Sought) → ValuesStay s t → IsSought s.env.heap u → IsSought t.env.heap u × (lookup_of t.env.heap u ≡ lookup_of s.env.heap u)
sought-as s t (lookups.ToCall v) values may = let x = values v may in (x.0, ap ToCall x.1)
sought-as s t (lookups.ToRetrieve v w) values may = let x = values v may.0 in let y = values w may.1 in ((x.0, y.0), ap₂ ToRetrieve x.1 y.1)
sought-as s t (lookups.ToRetract v w) values may = let x = values v may.0 in let y = values w may.1 in ((x.0, y.0), ap₂ ToRetract x.1 y.1)
sought-as s t (lookups.ToRetractAll v) values may = let x = values v may in (x.0, ap ToRetractAll x.1)

viewed-as : (own : Own) (s t : State) (g : View) → t.basis ≡ s.basis → IsViewed own s g → IsViewed own t g
viewed-as own s t g same is = record { shown = subst (λ (b : Basis). IsShown g b.latest) (sym same) is.shown; count = is.count; base = is.base }

found-as : (own : Own) (s t : State) (f : Find) → t.basis ≡ s.basis → ValuesStay s t → IsFound own s f → IsFound own t f
found-as own s t (finds.First x g) same values may = let y = values x.goal may.0 in (y.0, subst (IsTold x.uses) (sym y.1) may.1, viewed-as own s t g same may.2)
found-as own s t (finds.Exists v g) same values may = ((values v may.0).0, viewed-as own s t g same may.1)
found-as own s t (finds.All v g) same values may = ((values v may.0).0, viewed-as own s t g same may.1)
found-as own s t (finds.Sweep v w) same values may = ((values v may.0).0, viewed-as own s t w.view same may.1)

askable-as : (own : Own) (s t : State) (q : Asked) → ValuesStay s t → place_of t ≡ place_of s → kinds_in t ≡ kinds_in s → IsAskable own s q → IsAskable own t q
askable-as own s t (questions.Look u) values place same may = (may.0, (sought-as s t u values may.1).0, fit-as s t same place may.2)
askable-as own s t (questions.Begin i v) values place same may = (may.0, (values v may.1).0, fit-as s t same place may.2)
askable-as own s t (questions.Await q next) values place same may = may
askable-as own s t (questions.Erase x) values place same may = tt

pub may-ask : (own : Own) (s t : State) (m : Going) → t.basis ≡ s.basis → ValuesStay s t → place_of t ≡ place_of s → kinds_in t ≡ kinds_in s → MayAsk own s m → MayAsk own t m
may-ask own s t modes.Visit basis values place same may = tt
may-ask own s t (modes.Ask q) basis values place same may = askable-as own s t q values place same may
may-ask own s t (modes.Find f) basis values place same may = (found-as own s t f basis values may.0, fit-as s t same place may.1)
may-ask own s t (modes.Back r) basis values place same may = tt

-- ---- the machine

same-element : (own : Own) (s t : State) (q : Asked) → ValuesStay s t → IsAskable own s q → element_of t.env.heap q ≡ element_of s.env.heap q
same-element own s t (questions.Look u) values may = ap (λ u. Asking (Look u)) (sought-as s t u values may.1).1
same-element own s t (questions.Begin i v) values may = ap (λ g. Asking (Begin i g)) (values v may.1).1
same-element own s t (questions.Await q next) values may = refl
same-element own s t (questions.Erase x) values may = refl

behind-as : (s t : State) (e e' : Element) → e ≡ e' → place_of t ≡ place_of s → place_behind t (e ∷ goals_of t t.goals) ≡ place_behind s (e' ∷ goals_of s s.goals)
behind-as s t e e' same place = ap₂ (λ e (p : Resolvent). At (record { goals = e ∷ p.goals; variables = p.variables })) same place

module _ (P : Program) (v : Views) (s new : Reached) (left : ℕ) (answers : List Answer) (values : ValuesStay s.stack new.stack) (place : place_of new.stack ≡ place_of s.stack) (cases : cases_in P v new ≡ cases_in P v s)
    (layer : new.layer ≡ s.layer) (local : local_of new ≡ local_of s) where
  run-as : (answers : List Answer) → run_in v left answers new ≡ run_in v left answers s
  run-as answers = ap₂ (λ (x : Layered) (w : Local). record { steps = left; answers = answers; below = below_in v (record s { layer = x }); local = w }) layer local

  looking-as : (u u' : Lookup) (a a' : Answer) → u ≡ u' → a ≡ a' → looking P v left answers new u a ≡ looking P v left answers s u' a'
  looking-as u u' a a' eu ea =
      ap₂ (λ m cs. record { mode = m; cases = cs; run = run_in v left (a ∷ answers) new }) (behind-as s.stack new.stack (Asking (Look u)) (Asking (Look u')) (ap (λ u. Asking (Look u)) eu) place) cases
      ∙ ap (λ r. record { mode = place_behind s.stack (Asking (Look u') ∷ goals_of s.stack s.stack.goals); cases = cases_in P v s; run = r }) (run-as (a ∷ answers) ∙ ap (λ a. run_in v left (a ∷ answers) s) ea)

  updates-as : new.layer.own.updates ≡ s.layer.own.updates
  updates-as = ap (λ (x : Layered). x.own.updates) layer

  seen-as : (g : View) → ◌≡◌ {A = Answer} (Seen g.place (seen_in v new.layer.own.updates g)) (Seen g.place (seen_in v s.layer.own.updates g))
  seen-as g = ap (λ (own : List Update). Seen g.place (seen_in v own g)) updates-as

  same-find : (f : Find) → IsFound s.layer.own s.stack f → finding P v left answers new f ≡ finding P v left answers s f
  same-find (finds.First x g) may = looking-as _ _ _ _ (ap (lookup_by x.uses) (values x.goal may.0).1) (seen-as g)
  same-find (finds.Exists c g) may =
      looking-as _ _ _ _ (ap ToCall (values c may.0).1)
      (ap₂ (λ (own : List Update) (t : Tree). Seen g.place (bare (exists (seen_in v own g) (indicator t)) (indicator t))) updates-as (values c may.0).1)
  same-find (finds.All c g) may = looking-as _ _ _ _ (ap ToRetractAll (values c may.0).1) (seen-as g)
  same-find (finds.Sweep c w) may =
      ap₂ (λ (own : List Update) (t : Tree). move (cases_in P v new) (run_in v left answers new) (publish (swept (sight_in v own w.view) new.stack.env.count t w) (goals_of new.stack new.stack.goals) new.stack.env.count (local_of new))) updates-as (values c may.0).1
      ∙ ap₂ (λ (p : Resolvent) (l : Local). move (cases_in P v new) (run_in v left answers new) (publish (swept (sight_in v s.layer.own.updates w.view) p.variables (value s.stack.env.heap c) w) p.goals p.variables l)) place local
      ∙ ap₂ (λ cs r. move cs r (publish (swept (sight_in v s.layer.own.updates w.view) s.stack.env.count (value s.stack.env.heap c) w) (goals_of s.stack s.stack.goals) s.stack.env.count (local_of s))) cases (run-as answers)

  same-mode : (m m' : _) → m ≡ m' → ◌≡◌ {A = Machine} (record { mode = m; cases = cases_in P v new; run = run_in v left answers new }) (record { mode = m'; cases = cases_in P v s; run = run_in v left answers s })
  same-mode m m' same = ap₂ (λ m cs. record { mode = m; cases = cs; run = run_in v left answers new }) same cases ∙ ap (λ r. record { mode = m'; cases = cases_in P v s; run = r }) (run-as answers)

  -- where values and the place stay, the machine is the same
  pub same-machine-at : (m : Going) → MayAsk s.layer.own s.stack m → machine_in P v left answers new m ≡ machine_in P v left answers s m
  same-machine-at modes.Visit may = same-mode (mode_of modes.Visit new.stack) (mode_of modes.Visit s.stack) (ap At place)
  same-machine-at (modes.Ask q) may = same-mode _ _ (behind-as s.stack new.stack _ _ (same-element s.layer.own s.stack new.stack q values may) place)
  same-machine-at (modes.Find f) may = same-find f may.0
  same-machine-at (modes.Back r) may = same-mode (mode_of (modes.Back r) new.stack) (mode_of (modes.Back r) s.stack) refl

pub same-machine : (P : Program) (v : Views) (s new : Reached) (left : ℕ) (answers : List Answer) (m : Going) → ValuesStay s.stack new.stack → place_of new.stack ≡ place_of s.stack → cases_in P v new ≡ cases_in P v s →
    new.layer ≡ s.layer → local_of new ≡ local_of s → MayAsk s.layer.own s.stack m → machine_in P v left answers new m ≡ machine_in P v left answers s m
same-machine P v s new left answers m values place cases layer local may = same-machine-at P v s new left answers values place cases layer local m may

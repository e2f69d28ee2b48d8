-- Where a search starts.
use Rattle.std.proofs.Common.{◌≡◌, ℕ, ◌+◌, ◌-◌, List, [], ◌∷◌, ◌++◌, map, length, sym, ap, ap₂, ◌∙◌, subst, arith, min, append-nil, reverse, true, false, inl, refl, le_refl}
use Rattle.plterm.specs.Tree.{Tree}
use Rattle.plterm.specs.Reading.{spelling}
use Rattle.plterm.specs.Variables.{place, seen_after, renamed, variables, copied}
use Rattle.plcells.specs.declared.cell.Cell.{Cell}
use Rattle.plcells.specs.Store.{value}
use Rattle.pltx.specs.Own.{any_open, nothing}
use Rattle.plviews.specs.Layers.{bottom, Layered}
use Rattle.plviews.specs.declared.view.View.{View}
use Rattle.plprogram.specs.Program.{Program}
use Rattle.plsearch.specs.Types.{Goal, Resolvent, Choice, Who}
use Rattle.plsearch.specs.Engine.{out, outs}
use Rattle.plsearch.specs.Machines.Machine.{At, Rest}
use Rattle.plsearch.specs.Search.{Start, once, start_from, start_of, search_of, ending_of}
use Rattle.plsearch.specs.Solving.{Begins}
use Rattle.plcode.specs.Callees.{IsProgramCode}
use Rattle.pllinks.specs.declared.link.Continuation.{Continuation}
use Rattle.pllinks.specs.Lists.{goal_of, all_elements}
use Rattle.pllinks.specs.Links.{alone, done}
use Rattle.pllinks.proofs.Arena.{list_at-none}
use Rattle.plstack.specs.Places.{walks_of, Database}
use Rattle.plstack.specs.State.{State, IsList, Extends, AddsList, goals_in, goals_of, cases_of, walks_in, IsFit, Opens}
use Rattle.plstore.specs.Looking.{Views}
use Rattle.plstack.specs.StaticCalls.{database_of}
use Rattle.plstack.proofs.Lists.{empty-list}
use Rattle.plstack.proofs.Stacks.{no-cases}
use Rattle.plmachine.specs.declared.machine.Mode.TheVariants as modes
use Rattle.plmachine.specs.declared.machine.Machine.{Machine as Reached}
use Rattle.plmachine.specs.Machine.{cases_in, local_of, machine, mode_of, IsPlain, IsTied, MayAsk, MayCarry}
use Rattle.plmachine.proofs.Moves.{below-as, machine-is}
use Rattle.plsolver.specs.declared.progress.Progress.{Progress}
use Rattle.plstack.specs.Basis.{Basis}
use Rattle.plstack.specs.Levels.{kinds_of, Choosing, FitsIn}
use Rattle.plmachine.proofs.Levels.{fits-opened}
use Rattle.plsolver.specs.Solver.{IsOf, IsStart, IsEmpty, Starts, StartsGoal, rest_of}

-- once/1 has the variables of its goal
once-variables : (g : Tree) → variables (once g) ≡ variables g
once-variables g = ap (seen_after []) (append-nil (spelling g))

copied-once : (n : ℕ) (g : Tree) → copied n (once g) ≡ once (copied n g)
copied-once n g = ap (λ vs. once (renamed (λ v. n + place v vs) g)) (once-variables g)

-- one more goal
pub starts-more : (old new : State) (list made : Continuation) (g : Tree) (gs : List Tree) → Starts old list gs → StartsGoal old new list made g → Starts new made (g ∷ gs)
unfolding start_from
starts-more old new list made g gs s one =
    let count : old.env.count ≡ (start_from gs).variables = ap (λ p. p.variables) s.place in
    let goals : goals_of old list ≡ (start_from gs).goals = ap (λ p. p.goals) s.place in
    record {
      list_there = one.list_there;
      place = ap₂ (λ gs n. record { goals = gs; variables = n }) (one.goals ∙ ap₂ (λ n es. Goal 0 (once (copied n g)) ∷ es) count goals) (one.count ∙ ap (λ n. n + length (variables g)) count);
      cases = λ db. one.cases db ∙ s.cases db;
    }

empty-goals : (s : State) → IsEmpty s → goals_of s (alone 0) ≡ []
unfolding all_elements
empty-goals s is = ap₂ (λ ts xs. map (goal_of s.env done) ts ++ all_elements (goals_in s) s.env xs) is.none (list_at-none s.links)

pub starts-empty : (s : State) → IsEmpty s → Starts s (alone 0) []
unfolding start_from
starts-empty s is = record {
  list_there = empty-list (goals_in s) is.none s.env s.links;
  place = ap₂ (λ gs n. record { goals = gs; variables = n }) (empty-goals s is) is.count;
  cases = λ db. no-cases db s is.frames;
}

pub starts-goal : (old st new : State) (list made : Continuation) (v : Cell) (g t : Tree) → Extends old st → value st.env.heap v ≡ copied old.env.count t → t ≡ once g → st.env.count ≡ old.env.count + length (variables t) →
    IsList old list → AddsList st new made (Goal 0 (value st.env.heap v) ∷ goals_of st list) → StartsGoal old new list made g
starts-goal old st new list made v g t e is same grown l adds = record {
  list_there = adds.there;
  goals = adds.is ∙ ap₂ (λ t es. Goal 0 t ∷ es) (is ∙ ap (copied old.env.count) same ∙ copied-once old.env.count g) (e.lists list l).1;
  count = ap (λ e. e.count) adds.env ∙ grown ∙ ap (λ vs. old.env.count + length vs) (ap variables same ∙ once-variables g);
  cases = λ db. adds.stays.cases db ∙ e.cases db;
}

-- a start with a goal of its own
pub none-there : (s : State) (none : Continuation) → IsEmpty s → none ≡ alone 0 → IsList s none
none-there s none empty is = subst (IsList s) (sym is) (starts-empty s empty).list_there

pub starts-one : (s new : State) (none made : Continuation) (g : Tree) → IsEmpty s → none ≡ alone 0 → StartsGoal s new none made g → Starts new made (g ∷ [])
starts-one s new none made g empty is one = starts-more s new none made g [] (subst (λ l. Starts s l []) (sym is) (starts-empty s empty)) one

-- the goals fit in the outermost choice, and end nothing
start-fits : (gs : List Tree) → FitsIn (Choosing ∷ []) (start_from gs).goals
unfolding start_from
start-fits [] = (tt, refl)
start-fits (g ∷ gs) = ((le_refl _, inl (refl, refl), (start-fits gs).0), (start-fits gs).1)

pub starts-fit : (s opened : State) (list : Continuation) (gs : List Tree) → s.frames ≡ [] → Starts s list gs → Opens s opened (Choice [] ∷ []) → IsFit opened list
starts-fit s opened list gs frames starts o =
    fits-opened s opened (Choice [] ∷ []) o list starts.list_there
    (subst (λ fs. FitsIn (Choosing ∷ kinds_of (reverse fs)) (goals_of s list)) (sym frames) (subst (FitsIn (Choosing ∷ [])) (sym (ap (λ (p : Resolvent). p.goals) starts.place)) (start-fits gs)))

-- nothing is open at the start
start-tied : (s : Reached) → s.stack.basis.latest ≡ record { place = 0; count = 0 } → s.stack.basis.starts ≡ [] → s.layer ≡ bottom → IsTied s
start-tied s latest starts layer = record {
  starts = ap reverse starts ∙ sym (ap (λ (x : Layered). map (λ l. l.start) x.own.levels) layer);
  count = omega (arith, none);
  base = λ opened. let e : false ≡ true = sym (ap (λ (x : Layered). any_open x.own) layer) ∙ opened in absurd cc;
  closed = λ closed. none;
  outer = λ k ks is. let e : [] ≡ k ∷ ks = sym starts ∙ is in absurd cc;
}
  where
    none : s.stack.basis.latest.count ≡ 0
    none = ap (λ (v : View). v.count) latest

-- a machine at the start
module _ (P : Program) (from : Start) (s : Reached) (stack opened : State) (list : Continuation) (code : IsProgramCode P stack.basis.code) (latest : stack.basis.latest ≡ record { place = 0; count = 0 }) (begun : stack.basis.starts ≡ []) (frames : stack.frames ≡ [])
    (starts : Starts stack list from.goals) (o : Opens stack opened (Choice [] ∷ [])) (is : s.stack ≡ record opened { goals = list }) (layer : s.layer ≡ bottom) (at : s.mode ≡ modes.Visit) (out : s.out.items ≡ []) (settings : s.settings ≡ P.settings) (kept : s.kept ≡ []) (who : record { number = s.thread; alias = s.alias } ≡ from.who) where
  basis-is : s.stack.basis ≡ stack.basis
  basis-is = ap (λ (st : State). st.basis) is ∙ o.basis

  latest-is : s.stack.basis.latest ≡ record { place = 0; count = 0 }
  latest-is = ap (λ (b : Basis). b.latest) basis-is ∙ latest

  start-of : IsOf P s
  start-of = record {
    begun = subst (λ (b : Basis). IsProgramCode P b.code) (sym basis-is) code;
    sound = record {
      tied = λ more. start-tied s latest-is (ap (λ (b : Basis). b.starts) basis-is ∙ begun) layer;
      askable = subst (MayAsk s.layer.own s.stack) (sym at) tt;
      carry = subst (MayCarry s.stack) (sym at) tt;
    };
  }

  start-cases : (v : Views) → cases_in P v s ≡ Choice [] ∷ []
  unfolding cases_of
  start-cases v =
      let db : Database = database_of P v s.layer.own.updates in
      ap (cases_of db) is ∙ o.cases db ∙ ap (λ cs. Choice [] ∷ cs) (starts.cases db)

  start-local : local_of s ≡ record { who = from.who; out = []; settings = P.settings; kept = []; own = nothing }
  start-local =
      ap (λ (w : Who). record { who = w; out = s.out.items; settings = s.settings; kept = s.kept; own = s.layer.own }) who
      ∙ ap₂ (λ o x. record { who = from.who; out = o; settings = x; kept = s.kept; own = s.layer.own }) out settings
      ∙ ap₂ (λ k (x : Layered). record { who = from.who; out = []; settings = P.settings; kept = k; own = x.own }) kept layer

  pub is-start : IsStart P from s
  unfolding start_of
  is-start = record {
    of = start-of;
    latest = ap (λ (v : View). v.place) latest-is;
    layer = layer;
    walks = ap walks_in is ∙ o.walks ∙ ap (λ fs. walks_of (reverse fs)) frames;
    is = λ v left answers.
        machine-is P v s (At (start_of from)) (Choice [] ∷ []) [] (record { who = from.who; out = []; settings = P.settings; kept = []; own = nothing }) (subst IsPlain (sym at) tt)
        (ap₂ mode_of at is ∙ ap At (ap₂ (λ gs n. record { goals = gs; variables = n }) (o.lists list starts.list_there).1 o.count ∙ starts.place))
        (start-cases v) (below-as v (record s { layer = bottom }) s layer) start-local left answers;
  }

-- a solver at the start
pub begins : (P : Program) (from : Start) (v : Views) (s : Progress) → IsStart P from s.machine → s.used ≡ 0 → Begins (search_of P from s.limit) (rest_of P v s) s.used
unfolding search_of rest_of Rest outs out start_of
begins P from v s start used = (
  used,
  λ n answers.
      let k : ℕ = min n s.limit in
      let all : k - 0 ≡ k = omega arith in
      sym
      (ap (λ u. ending_of k (Rest P (machine P v (k - u) answers s.machine))) used
      ∙ ap (λ m. ending_of k (Rest P (machine P v m answers s.machine))) all
      ∙ ap (λ m. ending_of k (Rest P m)) (start.is v k answers)),
)

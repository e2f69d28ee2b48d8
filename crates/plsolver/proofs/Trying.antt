-- Walks that go on: what is left of one stays, or its next clause is visited.
use Rattle.std.specs.Prelude.{Result as Outcomes, Ok, Err, IfOk, IfNone, IfSome}
use Rattle.std.proofs.Common.{◌≡◌, ℕ, ◌<◌, List, [], ◌∷◌, Option, Some, None, refl, sym, ap, ap₂, ◌∙◌, subst, arith}
use Rattle.plcells.specs.Store.{value}
use Rattle.plevent.specs.declared.update.ClauseName.{ClauseName}
use Rattle.plevent.specs.Search.{Answer}
use Rattle.plprogram.specs.Program.{Program}
use Rattle.plsearch.specs.Types.{Element, Case, Choice, Handle, Undo}
use Rattle.plsearch.specs.Engine.{deeper}
use Rattle.plsearch.specs.Machines.Machine.{Rest}
use Rattle.plsearch.specs.Machines.Weight.{weight}
use Rattle.plsearch.specs.Search.{ending_of}
use Rattle.plstore.specs.Looking.{Views}
use Rattle.plclause.specs.Clause.{Clause}
use Rattle.plevent.specs.declared.update.Update.{Update}
use Rattle.plstore.specs.Looking.{clause_alive}
use Rattle.plviews.specs.declared.view.View.{View}
use Rattle.plviews.specs.Views.{sight_in, whole, IsUntouched}
use Rattle.plviews.proofs.Naming.{base-stays}
use Rattle.plstack.specs.declared.frame.Ahead.{Ahead}
use Rattle.plstack.specs.declared.frame.Spot.TheVariants as spots
use Rattle.plenv.specs.Env.{cut}
use Rattle.pllinks.specs.Lists.{all_elements}
use Rattle.pllinks.specs.Links.{items_of}
use Rattle.plstack.specs.declared.frame.Point.{Point}
use Rattle.plstack.specs.declared.frame.Walk.{Walk}
use Rattle.plstack.specs.declared.frame.Spot.{Spot}
use Rattle.plstack.specs.declared.frame.Closed.{Closed}
use Rattle.plstack.specs.declared.frame.Closed.TheVariants as closings
use Rattle.plstack.specs.Basis.{BasisBehind}
use Rattle.plstack.specs.Opening.{ClosedAs}
use Rattle.plstack.specs.Places.{Database}
use Rattle.plstack.specs.State.{State, cases_of, goals_in, walks_in, RetriesBy}
use Rattle.plstack.specs.Walks.{AtWalk, EndsPlain, GoesOn, goal_at}
use Rattle.plmachine.specs.declared.machine.Outcome.TheVariants as outcomes
use Rattle.plmachine.specs.declared.machine.Mode.TheVariants as modes
use Rattle.plmachine.specs.declared.machine.Machine.{Machine as Reached}
use Rattle.plmachine.specs.Clauses.{mode_by}
use Rattle.plmachine.specs.Machine.{cases_in, machine, now, MayCarry}
use Rattle.plsolver.specs.declared.progress.Progress.{Progress}
use Rattle.plsolver.specs.Solver.{IsOf, QuietIn, Stays}
use Rattle.plsolver.proofs.Behind.{SameLeft}
use Rattle.plsolver.proofs.Quiets.{at_stack, back-may, carried, db_in, quiet-retry-by}
use Rattle.plsolver.proofs.Runs.{stays_of, stays_latest}

-- ---- a walk that goes on

pub goal-is : (s : State) (p : Point) (w : Walk) → AtWalk s p w → goal_at s p w ≡ value s.env.heap w.goal
goal-is s p w at = ap (λ e. value e.heap w.goal) at.now

-- where the same is left, the cases are the same
pub same-cases : (db : Database) (s st : State) (p : Point) (w : Walk) (next : Option Spot) → AtWalk s p w → GoesOn db s st p w next → SameLeft db w.uses (value s.env.heap w.goal) w.spot next → cases_of db st ≡ cases_of db s
same-cases db s st p w next at goes same =
    let es : List Element = all_elements (goals_in s) (cut p.marks.env s.env) (items_of s.links p.list) in
    goes.cases
    ∙ ap (λ ps. Choice ps ∷ goes.below) (sym (subst (λ t. SameLeft db w.uses t w.spot next) (sym (goal-is s p w at)) same (deeper goes.below 0) (cut p.marks.env s.env).count es))
    ∙ sym goes.was

-- and so is what is left of the search
pub went-on : (P : Program) (v : Views) (s : Reached) (st : State) → s.mode ≡ modes.Back outcomes.Fail → cases_of (db_in P v s) st ≡ cases_in P v s → (most left : ℕ) (answers : List Answer) → now P v s most left answers ≡ now P v (record s { stack = st }) most left answers
went-on P v s st fails same most left answers =
    ap (λ m. ending_of most (Rest P m))
    (carried P v s outcomes.Fail (cases_of (db_in P v s) st) fails (sym same) left answers
    ∙ sym (carried P v (record s { stack = st }) outcomes.Fail (cases_of (db_in P v s) st) fails refl left answers))

-- a clause that fits is visited
pub went-into : (P : Program) (v : Views) (s : Progress) (st : State) (x : Option ClauseName) → s.machine.mode ≡ modes.Back outcomes.Fail → st.basis ≡ s.machine.stack.basis → RetriesBy (db_in P v s.machine) s.machine.stack st x →
    (most left : ℕ) (answers : List Answer) → now P v s.machine most left answers ≡ now P v (record s.machine { stack = st; mode = mode_by x }) most left answers
went-into P v s st x fails basis r most left answers =
    ap (ending_of most) (sym ((quiet-retry-by P v (record s { used = 0; limit = left }) st x fails basis r).rest left answers (omega (arith))))

-- where it fails, and the cases stand for what they did, it stands where it stood
pub stays-fails : (P : Program) (s : Progress) (st : State) → s.machine.mode ≡ modes.Back outcomes.Fail → st.basis ≡ s.machine.stack.basis → walks_in st ≡ walks_in s.machine.stack → ((v : Views) → cases_of (db_in P v s.machine) st ≡ cases_in P v s.machine) → Stays P s (at_stack s st)
stays-fails P s st fails basis walks same = record {
  used = refl;
  limit = refl;
  places = refl;
  there = record {
    basis = basis;
    layer = refl;
    mode = λ plain. refl;
    walks = walks;
    cases = same;
    local = refl;
    askable = λ may. back-may s.machine.layer.own st s.machine.mode outcomes.Fail fails;
    carry = λ may. subst (MayCarry st) (sym fails) tt;
    same = λ may v left answers.
        carried P v (record s.machine { stack = st }) outcomes.Fail (cases_in P v s.machine) fails (same v) left answers
        ∙ sym (carried P v s.machine outcomes.Fail (cases_in P v s.machine) fails refl left answers);
  };
}

-- ---- a walk that was rewound first

-- what is quiet from where it stands is quiet
pub quiet-from : (P : Program) (v : Views) (s t new : Progress) → IsOf P s.machine → Stays P s t → QuietIn P v t new → QuietIn P v s new
quiet-from P v s t new of stay q = record {
  used = q.used ∙ stay.used;
  limit = q.limit ∙ stay.limit;
  places = q.places ∙ stay.places;
  of = λ of. q.of (stays_of P s t of stay);
  latest = q.latest ∙ stays_latest P s t stay;
  plain = q.plain;
  rest = λ left answers few. q.rest left answers (omega (arith, few, stay.used, stay.limit)) ∙ ap (Rest P) (stay.there.same of.sound.askable v left answers);
  lighter = λ within. subst (λ m. weight (machine P v 0 [] new.machine) < weight m) (stay.there.same of.sound.askable v 0 []) (q.lighter (omega (arith, within, stay.used, stay.limit)));
}

-- the last of it does not fit
pub last-ends : (db : Database) (s st : State) → cases_of db st ≡ cases_of db s → EndsPlain db st → (below : List Case) × (cases_of db s ≡ Choice [] ∷ below) × (cases_of db st ≡ Choice [] ∷ below)
last-ends db s st same ends = (ends.below, sym same ∙ ends.cases, ends.cases)

-- a choice with nothing left that is closed
pub closes-choice : (s new : State) (o : Option Closed) (db : Database) (below : List Case) → cases_of db s ≡ Choice [] ∷ below → IfSome o (λ c. (db : Database) → ClosedAs db s new c) → IfNone o ((db : Database) → cases_of db s ≡ []) →
    IfSome o (λ c. BasisBehind c s.basis new.basis) → (cases_of db new ≡ below) × (new.basis ≡ s.basis)
closes-choice s new None db below was some none basis = let e : Choice [] ∷ below ≡ [] = sym was ∙ none db in absurd (cc)
closes-choice s new (Some closings.Choice) db below was some none basis = (tail-is (sym (some db).1 ∙ was), basis)
  where
    tail-is : {c d : Case} {cs ds : List Case} → c ∷ cs ≡ d ∷ ds → cs ≡ ds
    tail-is e = cc
closes-choice s new (Some closings.Handler) db below was some none basis = let e : Handle (some db).0 (some db).1 ∷ cases_of db new ≡ Choice [] ∷ below = sym (some db).2 ∙ was in absurd (cc)
closes-choice s new (Some closings.Transaction) db below was some none basis = let e : Handle Undo (some db).0 ∷ cases_of db new ≡ Choice [] ∷ below = sym (some db).1 ∙ was in absurd (cc)

-- a clause before others
pub retries-same : (db : Database) (s mid new : State) (x : Option ClauseName) → cases_of db mid ≡ cases_of db s → RetriesBy db mid new x → RetriesBy db s new x
retries-same db s mid new x same r = record { others = r.others; older = r.older; was = sym same ∙ r.was; cases = r.cases }

-- ---- what was sought at a spot, by the names that it has in two ways

pub same-known : (g k : View) (x y : ClauseName) (a b : Option Ahead) → spots.Known g x a ≡ spots.Known k y b → (g ≡ k) × (x ≡ y)
same-known g k x y a b e = (cc, cc)

-- what the journal told of a clause that own updates don't tell of
pub sought-known : (v : Views) (own : List Update) (g k : View) (x y : ClauseName) (a b : Option Ahead) (o : Option Clause) → spots.Known g x a ≡ spots.Known k y b → IsUntouched own g x → o ≡ clause_alive x (v g.place) →
    clause_alive y (whole (sight_in v own k)) ≡ o
sought-known v own g k x y a b o e untouched is =
    let same = same-known g k x y a b e in
    ap₂ (λ z w. clause_alive w (whole (sight_in v own z))) (sym same.0) (sym same.1) ∙ base-stays (sight_in v own g) x untouched.0 untouched.1 ∙ sym is

-- ---- results

pub if_none_both : {T E A B C : Type 0} (r : Outcomes (Option T) E) → IfOk r (λ o. IfNone o A) → IfOk r (λ o. IfNone o B) → (A → B → C) → IfOk r (λ o. IfNone o C)
if_none_both (Ok None) a b f = f a b
if_none_both (Ok (Some x)) a b f = tt
if_none_both (Err e) a b f = tt

pub if_none_map : {T E A B : Type 0} (r : Outcomes (Option T) E) → IfOk r (λ o. IfNone o A) → (A → B) → IfOk r (λ o. IfNone o B)
if_none_map (Ok None) a f = f a
if_none_map (Ok (Some x)) a f = tt
if_none_map (Err e) a f = tt

pub if_some_map : {T E : Type 0} {A B : T → Type 0} (r : Outcomes (Option T) E) → IfOk r (λ o. IfSome o A) → ((x : T) → A x → B x) → IfOk r (λ o. IfSome o B)
if_some_map (Ok None) a f = tt
if_some_map (Ok (Some x)) a f = f x a
if_some_map (Err e) a f = tt

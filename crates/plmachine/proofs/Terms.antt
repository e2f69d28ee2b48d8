-- A goal that comes as a term, by what is called by its number.
use Rattle.std.proofs.Common.{◌≡◌, ℕ, ◌≤◌, List, [], ◌∷◌, length, map, refl, sym, ap, ◌∙◌, subst, arith}
use Rattle.std.proofs.lemmas.List.{length-map}
use Rattle.std.specs.Prelude.{Option, Some, None, IfSome, IfNone, ⊤}
use Rattle.plterm.specs.Tree.{Tree, var, int, atom, compound}
use Rattle.plterm.proofs.Forests.{list_of-trees}
use Rattle.plterm.specs.declared.indicator.Indicator.{Indicator}
use Rattle.plclause.specs.Indicators.{indicator}
use Rattle.platoms.specs.Names.{IsTable, Extends}
use Rattle.plcells.specs.declared.cell.Cell.{Cell}
use Rattle.plcells.specs.Store.{Store, value, AreValues}
use Rattle.plprogram.specs.Program.{Program}
use Rattle.plsearch.specs.Forms.{NoGoal, form}
use Rattle.plcode.specs.declared.callee.Callee.{Callee}
use Rattle.plcode.specs.declared.callee.Callee.TheVariants as callees
use Rattle.plcode.specs.declared.callee.Number.{Number}
use Rattle.plcode.specs.declared.callee.Number.TheVariants.{Atom, Functor}
use Rattle.plcode.specs.Steps.{renamed}
use Rattle.plcode.specs.Callees.{callee_at, Compiled, IsCallee}
use Rattle.plgoals.specs.declared.form.Form.{Form}
use Rattle.plgoals.specs.declared.form.Form.TheVariants as forms
use Rattle.plgoals.specs.declared.form.Procedure.{Procedure}
use Rattle.plgoals.specs.declared.form.Procedure.TheVariants as procedures
use Rattle.plgoals.specs.Callables.{called as called_by, name_of, procedure_of, IsCallable, IsNoGoal}
use Rattle.plgoals.specs.Forms.{callee_of, shown_form, IsInside}
use Rattle.plstack.specs.Places.{called}
use Rattle.plgoals.proofs.Calling.{form-is}
use Rattle.plgoals.proofs.Rows.{code-kinds}
use Rattle.plmachine.specs.declared.machine.Machine.{Machine as Reached}
use Rattle.plmachine.specs.declared.machine.Mode.TheVariants as modes
use Rattle.plmachine.specs.declared.select.Source.{Source}
use Rattle.plmachine.specs.Machine.{IsBegun}
use Rattle.plmachine.specs.Selected.{IsCall, IsCallOf, IsCalledBy, IsSelected, StandsFor}

pub no-goal-form : (t : Tree) → IsNoGoal t → form t ≡ NoGoal
no-goal-form (var x) is = refl
no-goal-form (int i) is = refl
no-goal-form (atom f) is = absurd is
no-goal-form (compound f ts) is = absurd is

-- a form of a call is one of what is called
abbrev IsOfCallee : Callee → Form → Type 0
IsOfCallee k (forms.Call q) = k ≡ callee_of q
IsOfCallee k f = ⊤

-- a goal by its number and its values, and by their terms
same-called : (h : Store) (n : Number) (vs : List Cell) → IsTable h.names → IsCallable h.names n (length vs) → called h (name_of h.names n) vs ≡ called_by h.names n (map (value h) vs)
same-called h (Atom a) [] table is = refl
same-called h (Atom a) (v ∷ vs) table is = absurd (omega (arith, is.0))
same-called h (Functor f) [] table is = absurd (omega (arith, is.arity, (table.functors f is.within).some))
same-called h (Functor f) (v ∷ vs) table is = refl

-- the procedure of a goal by its number
number-indicator : (h : Store) (n : Number) (vs : List Cell) → IsCallable h.names n (length vs) → indicator (called_by h.names n (map (value h) vs)) ≡ procedure_of h.names n (length vs)
number-indicator h (Atom a) vs is = ap (procedure_of h.names (Atom a)) (sym is.0)
number-indicator h (Functor f) vs is =
    ap (λ (ts : List Tree). procedure_of h.names (Functor f) (length ts)) (list_of-trees (map (value h) vs))
    ∙ ap (procedure_of h.names (Functor f)) (length-map vs (value h))

module _ (P : Program) (s : Reached) (begun : IsBegun P s) (visits : s.mode ≡ modes.Visit) (args : AreValues s.stack.env.heap s.args.items) (few : length s.args.items ≤ 1024) (source : Source) (t : Tree) (stands : StandsFor s.stack source t) where
  -- an integer or a variable
  pub selected-none : IsNoGoal t → IsSelected P s forms.NoGoal source t
  selected-none none = record {
    begun = begun;
    visits = visits;
    args = args;
    few = few;
    inside = tt;
    is = sym (no-goal-form t none);
    stands = stands;
    call = tt;
  }

  -- an atom or a compound
  module _ (n : Number) (callable : IsCallable s.stack.env.heap.names n (length s.args.items)) (is : t ≡ called_by s.stack.env.heap.names n (map (value s.stack.env.heap) s.args.items))
      (more : Extends s.stack.basis.code.text.names s.stack.env.heap.names) (table : IsTable s.stack.env.heap.names) where
    abbrev procedure : Indicator
    procedure = procedure_of s.stack.env.heap.names n (length s.args.items)

    of-procedure : indicator t ≡ procedure
    of-procedure = ap indicator is ∙ number-indicator s.stack.env.heap n s.args.items callable

    callee : (k : Callee) → callee_at s.stack.basis.code.callees n ≡ k → IsCallee (renamed s.stack.env.heap.names s.stack.basis.code.text) s.stack.basis.code.procedures P procedure k
    callee k e = subst (IsCallee (renamed s.stack.env.heap.names s.stack.basis.code.text) s.stack.basis.code.procedures P procedure) e (begun.callees s.stack.env.heap.names more table n procedure callable)

    call-of : (q : Procedure) → callee_at s.stack.basis.code.callees n ≡ callee_of q → IsCallOf P s procedure q t
    call-of (procedures.Static i) e = record { static = callee (callees.Static i) e; goal = same-called s.stack.env.heap n s.args.items table callable ∙ sym is }
    call-of procedures.Unknown e = (callee callees.Unknown e).1

    is-call : (f : Form) → ((q : Procedure) → f ≡ forms.Call q → callee_at s.stack.basis.code.callees n ≡ callee_of q) → IsCall P s f t
    is-call forms.True known = tt
    is-call forms.False known = tt
    is-call (forms.Both a b) known = tt
    is-call (forms.Either a b) known = tt
    is-call (forms.IfThen i a) known = tt
    is-call (forms.IfThenElse i a b) known = tt
    is-call (forms.Not a) known = tt
    is-call (forms.Once a) known = tt
    is-call (forms.Catching g k r) known = tt
    is-call (forms.FindAll a g l) known = tt
    is-call (forms.Within i g) known = tt
    is-call (forms.Throwing a) known = tt
    is-call forms.CallWith known = tt
    is-call forms.Cut known = tt
    is-call forms.Halt known = tt
    is-call (forms.HaltWith a) known = tt
    is-call (forms.Adding side a) known = tt
    is-call (forms.Retrieving a b) known = tt
    is-call (forms.Retracting a) known = tt
    is-call (forms.RetractingAll a) known = tt
    is-call (forms.Declaring a) known = tt
    is-call (forms.BuiltIn b) known = tt
    is-call (forms.Call q) known = subst (λ p. IsCallOf P s p q t) (sym of-procedure) (call-of q (known q refl))
    is-call forms.NoGoal known = tt

    pub selected-some : (f : Form) → shown_form s.stack.env.heap procedure s.args.items f ≡ form (called_by s.stack.env.heap.names n (map (value s.stack.env.heap) s.args.items)) → IsInside s.stack.env.heap s.args.items f →
        ((q : Procedure) → f ≡ forms.Call q → callee_at s.stack.basis.code.callees n ≡ callee_of q) → IsSelected P s f source t
    selected-some f shows inside known = record {
      begun = begun;
      visits = visits;
      args = args;
      few = few;
      inside = inside;
      is = ap (λ p. shown_form s.stack.env.heap p s.args.items f) of-procedure ∙ shows ∙ ap form (sym is);
      stands = stands;
      call = is-call f known;
    }

    -- a call of a procedure of the program's text
    pub selected-static : (i : ℕ) → callee_at s.stack.basis.code.callees n ≡ callees.Static i → IsSelected P s (forms.Call (procedures.Static i)) source t
    selected-static i e = selected-some (forms.Call (procedures.Static i))
        (sym (form-is s.stack.env.heap s.stack.basis.code.callees n s.args.items (callees.Static i) (code-kinds P s.stack.basis.code s.stack.env.heap.names begun more table) callable e))
        tt (λ q same. subst (IsOfCallee (callee_at s.stack.basis.code.callees n)) same e)

-- the same, of a heap, values and code that are those of the machine
pub selected-by : (P : Program) (s : Reached) → IsBegun P s → s.mode ≡ modes.Visit → AreValues s.stack.env.heap s.args.items → length s.args.items ≤ 1024 → (source : Source) (t : Tree) → StandsFor s.stack source t →
    (n : Number) → IsCallable s.stack.env.heap.names n (length s.args.items) → t ≡ called_by s.stack.env.heap.names n (map (value s.stack.env.heap) s.args.items) → Extends s.stack.basis.code.text.names s.stack.env.heap.names → IsTable s.stack.env.heap.names →
    (h : Store) (xs : List Cell) (m : Compiled) → h ≡ s.stack.env.heap → xs ≡ s.args.items → m ≡ s.stack.basis.code → (f : Form) → shown_form h (procedure_of h.names n (length xs)) xs f ≡ form (called_by h.names n (map (value h) xs)) → IsInside h xs f →
    ((q : Procedure) → f ≡ forms.Call q → callee_at m.callees n ≡ callee_of q) → IsSelected P s f source t
selected-by P s begun visits args few source t stands n callable is more table h xs m eh ex em f shows inside known =
    let k = s.stack.env.heap in
    selected-some P s begun visits args few source t stands n callable is more table f
    (subst (λ xs. shown_form k (procedure_of k.names n (length xs)) xs f ≡ form (called_by k.names n (map (value k) xs))) ex (subst (λ h. shown_form h (procedure_of h.names n (length xs)) xs f ≡ form (called_by h.names n (map (value h) xs))) eh shows))
    (subst (λ xs. IsInside k xs f) ex (subst (λ h. IsInside h xs f) eh inside))
    (subst (λ m. (q : Procedure) → f ≡ forms.Call q → callee_at m.callees n ≡ callee_of q) em known)

-- a goal by its number, once the values of its arguments are there
pub numbered : (s t : Reached) (source : Source) (o : Option Number) → AreValues t.stack.env.heap t.args.items → length t.args.items ≤ 1024 → ((u : Tree) → StandsFor s.stack source u → StandsFor t.stack source u) →
    IfSome o (λ n. IsCallable t.stack.env.heap.names n (length t.args.items)) → IfSome o (λ n. (u : Tree) → StandsFor s.stack source u → u ≡ called_by t.stack.env.heap.names n (map (value t.stack.env.heap) t.args.items)) →
    IfNone o ((u : Tree) → StandsFor s.stack source u → IsNoGoal u) → (u : Tree) → StandsFor s.stack source u → IsCalledBy t o source u
numbered s t source (Some n) args few stands callable is none u there = record { values = args; few = few; stands = stands u there; callable = callable; is = is u there; none = tt }
numbered s t source None args few stands callable is none u there = record { values = args; few = few; stands = stands u there; callable = tt; is = tt; none = none u there }

-- a goal that is called by the number of a procedure of the program's text
pub static-by : (s : Reached) (o : Option Number) (n : Number) → o ≡ Some n → Extends s.stack.basis.code.text.names s.stack.env.heap.names → IsTable s.stack.env.heap.names →
    (k : Option ℕ) → IfSome k (λ i. callee_at s.stack.basis.code.callees n ≡ callees.Static i) →
    IfSome k (λ i. (P : Program) (source : Source) (t : Tree) → IsBegun P s → s.mode ≡ modes.Visit → IsCalledBy s o source t → IsSelected P s (forms.Call (procedures.Static i)) source t)
static-by s o n same more table None known = tt
static-by s o n same more table (Some i) known = λ P source t begun visits called.
    selected-static P s begun visits called.values called.few source t called.stands n
    (subst (λ o. IfSome o (λ n. IsCallable s.stack.env.heap.names n (length s.args.items))) same called.callable)
    (subst (λ o. IfSome o (λ n. t ≡ called_by s.stack.env.heap.names n (map (value s.stack.env.heap) s.args.items))) same called.is)
    more table i known

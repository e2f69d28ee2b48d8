-- What is called by a number.
use Rattle.std.specs.Prelude.{◌≡◌, ◌==◌, ℕ, suc, ◌<◌, Bool, false, Option, Some, None, if◌then◌else◌, List, [], ◌∷◌, length, get_or}
use Rattle.plterm.specs.declared.indicator.Indicator.{Indicator}
use Rattle.plnames.specs.declared.kind.Kind.{Kind}
use Rattle.plnames.specs.declared.kind.Kind.TheVariants as kinds
use Rattle.plnames.specs.Names.{Row, kind_of}
use Rattle.plclause.specs.Clause.{Clause}
use Rattle.plprogram.specs.Program.{Program, clauses_for, AreOwn}
use Rattle.platoms.specs.Names.{Table, IsTable, Extends, HasAtom, functor_name, functor_arity}
use Rattle.plcode.specs.declared.callee.Callee.{Callee}
use Rattle.plcode.specs.declared.callee.Callee.TheVariants.{Control, BuiltIn, Static, Unknown}
use Rattle.plcode.specs.declared.callee.Number.{Number}
use Rattle.plcode.specs.declared.callee.Number.TheVariants.{Atom, Functor}
use Rattle.plcode.specs.declared.callee.Entry.{Entry}
use Rattle.plcode.specs.declared.callee.Callees.{Callees}
use Rattle.plcode.specs.declared.clause.ClauseCode.{ClauseCode}
use Rattle.plcode.specs.Steps.{Text, renamed}
use Rattle.plcode.specs.Bodies.{IsCode}
use Rattle.plcode.specs.Clauses.{AreCodeOf, AreProcedures}

-- ---- numbers

-- the procedure with a functor's number
pub record IsProcedure (t : Table) (f : ℕ) (p : Indicator) : Type 0 where
  pub within : f < length t.functors
  pub name : functor_name t f ≡ p.name
  pub arity : functor_arity t f ≡ p.arity

-- the number of a procedure: its name's where it has no arguments, and else its functor's
abbrev pub IsNumber : Table → Number → Indicator → Type 0
IsNumber t (Atom a) p = (p.arity ≡ 0) × HasAtom t a p.name
IsNumber t (Functor f) p = IsProcedure t f p

-- the number of a procedure, or that no table has one for it
abbrev pub IsNumbered : Table → Indicator → Option Number → Type 0
IsNumbered t p (Some n) = IsNumber t n p
IsNumbered t p None = (u : Table) → IsTable u → (n : Number) → IsNumber u n p → ⊥

abbrev pub same_number : Number → Number → Bool
same_number (Atom a) (Atom b) = a == b
same_number (Atom a) (Functor g) = false
same_number (Functor f) (Atom b) = false
same_number (Functor f) (Functor g) = f == g

-- ---- a table by number

abbrev pub is_of : Option Number → Number → Bool
is_of (Some m) n = same_number m n
is_of None n = false

-- what the first entry for a number says; without one, `otherwise`
abbrev pub found : Callee → List Entry → Number → Callee
found otherwise [] n = otherwise
found otherwise (e ∷ es) n = if is_of e.number n then e.callee else found otherwise es n

abbrev pub callee_at : Callees → Number → Callee
callee_at m (Atom a) = get_or m.atoms.items a Unknown
callee_at m (Functor f) = get_or m.functors.items f Unknown

-- ---- what procedures are

abbrev pub of_kind : Kind → Callee
of_kind (kinds.Control c) = Control c
of_kind (kinds.BuiltIn b) = BuiltIn b

abbrev pub row_callee : Row → Indicator × Callee
row_callee r = (record { name = r.name; arity = r.arity }, of_kind r.kind)

-- a procedure of a program by its place; one without clauses is none
abbrev pub of_clauses : ℕ → List Clause → Callee
of_clauses i [] = Unknown
of_clauses i (x ∷ xs) = Static i

abbrev pub statics : ℕ → List (Indicator × List Clause) → List (Indicator × Callee)
statics i [] = []
statics i (e ∷ es) = (e.0, of_clauses i e.1) ∷ statics (suc i) es

-- procedures and what they are, each with its entry
abbrev pub AreEntries : Table → List (Indicator × Callee) → List Entry → Type 0
AreEntries t [] [] = Unit {0}
AreEntries t [] (e ∷ es) = ⊥
AreEntries t (w ∷ ws) [] = ⊥
AreEntries t (w ∷ ws) (e ∷ es) = IsNumbered t w.0 e.number × (e.callee ≡ w.1) × AreEntries t ws es

-- ---- the code of a program

-- a procedure of a program's text, by its place, with its code
pub record IsStatic (c : Text) (kss : List (List ClauseCode)) (P : Program) (p : Indicator) (i : ℕ) : Type 0 where
  pub free : kind_of p.name p.arity ≡ None
  pub entry : get_or P.procedures i (record { name = []; arity = 0 }, []) ≡ (p, clauses_for P p)
  pub within : i < length kss
  pub code : AreCodeOf c (get_or kss i []) (clauses_for P p)
  pub some : clauses_for P p ≡ [] → ⊥

-- what a callee says of its procedure
abbrev pub IsCallee : Text → List (List ClauseCode) → Program → Indicator → Callee → Type 0
IsCallee c kss P p (Control k) = kind_of p.name p.arity ≡ Some (kinds.Control k)
IsCallee c kss P p (BuiltIn b) = kind_of p.name p.arity ≡ Some (kinds.BuiltIn b)
IsCallee c kss P p (Static i) = IsStatic c kss P p i
IsCallee c kss P p Unknown = (kind_of p.name p.arity ≡ None) × (clauses_for P p ≡ [])

-- a program that is compiled: its text, the clauses of its procedures, in their order, and what is called by each number
pub record Compiled : Type 0 where
  pub text : Text
  pub procedures : List (List ClauseCode)
  pub callees : Callees

-- the code of a program: its procedures, in their order, each with clauses of its own, and for each number, also of names that come
-- later, what is called by it
pub record IsProgramCode (P : Program) (m : Compiled) : Type 0 where
  pub code : IsCode m.text
  pub own : AreOwn P.procedures
  pub procedures : AreProcedures m.text m.procedures P.procedures
  pub callees : (t : Table) → Extends m.text.names t → IsTable t → (n : Number) (p : Indicator) → IsNumber t n p
      → IsCallee (renamed t m.text) m.procedures P p (callee_at m.callees n)

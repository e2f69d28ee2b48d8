-- What a clause of a program's text does.
use Rattle.std.specs.Prelude.{ℕ, pos, negsuc, Bool, true, false, ◌||◌, nat_le, if◌then◌else◌, List, [], ◌∷◌, codes, Option, Some, None, is_some, Result, Ok, Err}
use Rattle.std.specs.List.{list_any}
use Rattle.std.specs.Str.{bytes_eq}
use Rattle.plterm.specs.Tree.{Tree, var, int, atom, compound, list_of}
use Rattle.plterm.specs.Variables.{copied}
use Rattle.plterm.specs.declared.indicator.Indicator.{Indicator}
use Rattle.plclause.specs.Conversion.{converted}
use Rattle.plclause.specs.Clausal.{Clausal, clausal}
use Rattle.plclause.specs.declared.form.ClauseForm.TheVariants as forms
use Rattle.plclause.specs.Indicators.{indicator}
use Rattle.plclause.specs.Clause.{Clause}
use Rattle.plops.specs.declared.operator.Kind.{Kind}
use Rattle.plprogram.specs.Changes.{kind_named, flag_named}
use Rattle.plprogram.specs.declared.change.Flag.{Flag}
use Rattle.plprogram.specs.declared.change.FlagError.{FlagError}
use Rattle.plload.specs.declared.error.RefusalKind.{RefusalKind}
use Rattle.plload.specs.declared.error.RefusalKind.TheVariants.{NotCallable, StaticRedefined, BadDirective}
use Rattle.plnames.specs.Names.{is_fixed, is_named}
use Rattle.plclause.specs.Lists.{only_argument, elements, is_list}
use Rattle.plclause.specs.Named.{name_of, number_to, each_of, indicators}

-- a clause of its procedure, a goal of main, names of dynamic procedures, operators of a priority and kind,
-- a flag's value, nothing, or a refusal
pub data Meaning : Type 0 where
  Adds : Clause → Meaning
  Runs : Tree → Meaning
  Declares : List Indicator → Meaning
  Operates : ℕ → Kind → List (List ℕ) → Meaning
  Sets : Flag → Meaning
  Passes : Meaning
  Refused : RefusalKind → Meaning

abbrev pub bad : Meaning
bad = Refused BadDirective

abbrev pub passes_if : Bool → Meaning
passes_if true = Passes
passes_if false = bad

-- no program defines a control construct, a built-in predicate or `-->`/2
abbrev pub is_reserved : Indicator → Bool
is_reserved p = is_fixed p || is_named p (codes "-->") 2

-- a goal of main is an atom or a compound, and convertible
abbrev pub goal_meaning : Tree → Meaning
goal_meaning (var v) = bad
goal_meaning (int i) = bad
goal_meaning (atom s) = Runs (copied 0 (atom s))
goal_meaning (compound s ts) = if is_some (converted (compound s ts)) then Runs (copied 0 (compound s ts)) else bad

-- dynamic/1: control constructs and built-in predicates stay static
abbrev pub dynamic_meaning : Option (List Indicator) → Meaning
dynamic_meaning None = bad
dynamic_meaning (Some ps) = if list_any is_fixed ps then bad else Declares ps

-- use_module/1 and use_module/2 of a library
abbrev pub is_library : Tree → Bool
is_library t = is_some (only_argument (codes "library") t)

-- set_prolog_flag/2
abbrev pub set_to : Result Flag FlagError → Meaning
set_to (Ok flag) = Sets flag
set_to (Err e) = bad

abbrev pub flag_meaning : Option (List ℕ) → Option (List ℕ) → Meaning
flag_meaning (Some f) v = set_to (flag_named f v)
flag_meaning None v = bad

-- op/3: a priority, a kind, and a name or a list of names
abbrev pub kind_in : Option (List ℕ) → Option Kind
kind_in None = None
kind_in (Some s) = kind_named s

abbrev pub names_of : Tree → Option (List (List ℕ))
names_of t = each_of name_of (if is_list t then elements t else Some (t ∷ []))

abbrev pub operator_meaning : Option ℕ → Option Kind → Option (List (List ℕ)) → Meaning
operator_meaning (Some p) (Some k) (Some names) = Operates p k names
operator_meaning (Some p) (Some k) None = bad
operator_meaning (Some p) None names = bad
operator_meaning None k names = bad

-- a directive by its name and arguments; of another name, none
abbrev pub of_one : List ℕ → Tree → Option Meaning
of_one s a =
    if bytes_eq s (codes "initialization") then Some (goal_meaning a)
    else (if bytes_eq s (codes "dynamic") then Some (dynamic_meaning (indicators a))
    else (if bytes_eq s (codes "discontiguous") || bytes_eq s (codes "multifile") then Some (passes_if (is_some (indicators a)))
    else (if bytes_eq s (codes "use_module") then Some (passes_if (is_library a))
    else (if bytes_eq s (codes "thread_local") then Some bad else None))))

abbrev pub of_two : List ℕ → Tree → Tree → Option Meaning
of_two s a b =
    if bytes_eq s (codes "set_prolog_flag") then Some (flag_meaning (name_of a) (name_of b))
    else (if bytes_eq s (codes "use_module") then Some (passes_if (is_library a))
    else (if bytes_eq s (codes "module") then Some bad else None))

abbrev pub of_three : List ℕ → Tree → Tree → Tree → Option Meaning
of_three s a b c = if bytes_eq s (codes "op") then Some (operator_meaning (number_to 1200 a) (kind_in (name_of b)) (names_of c)) else None

abbrev pub of_args : List ℕ → List Tree → Option Meaning
of_args s [] = None
of_args s (a ∷ []) = of_one s a
of_args s (a ∷ b ∷ []) = of_two s a b
of_args s (a ∷ b ∷ c ∷ []) = of_three s a b c
of_args s (a ∷ b ∷ c ∷ d ∷ ts) = None

-- the name of a directive, as an atom, is none
abbrev pub is_directive_name : List ℕ → Bool
is_directive_name s =
    bytes_eq s (codes "dynamic") || bytes_eq s (codes "discontiguous") || bytes_eq s (codes "multifile") || bytes_eq s (codes "op")
    || bytes_eq s (codes "set_prolog_flag") || bytes_eq s (codes "initialization") || bytes_eq s (codes "use_module")

abbrev pub or_goal : Option Meaning → Tree → Meaning
or_goal (Some m) t = m
or_goal None t = goal_meaning t

-- what a directive does; one of another name is a goal of main (7.4.2)
abbrev pub directive_meaning : Tree → Meaning
directive_meaning (var v) = bad
directive_meaning (int i) = bad
directive_meaning (atom s) = if is_directive_name s then bad else goal_meaning (atom s)
directive_meaning (compound s ts) = or_goal (of_args s (list_of ts)) (compound s ts)

-- a clause is added to its procedure
abbrev pub form_meaning : Clausal → Meaning
form_meaning forms.NoHead = Refused NotCallable
form_meaning (forms.BadHead t) = Refused NotCallable
form_meaning (forms.BadBody t) = Refused NotCallable
form_meaning (forms.IsClause c) = if is_reserved (indicator c.head) then Refused StaticRedefined else Adds c

abbrev pub clause_or : Tree → Option Tree → Meaning
clause_or t (Some goal) = goal_meaning goal
clause_or t None = form_meaning (clausal t)

abbrev pub meaning_or : Tree → Option Tree → Meaning
meaning_or t (Some directive) = directive_meaning directive
meaning_or t None = clause_or t (only_argument (codes "?-") t)

-- `:- D` is a directive, `?- G` a goal of main, and each other term a clause
abbrev pub meaning : Tree → Meaning
meaning t = meaning_or t (only_argument (codes ":-") t)

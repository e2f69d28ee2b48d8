-- Built-in predicates on the operators and the flags (ISO/IEC 13211-1 8.14.3, 8.14.4, 8.17).
use Rattle.std.specs.Prelude.{ℕ, ℤ, pos, negsuc, nat_le, ◌||◌, List, [], ◌∷◌, codes, Option, Some, None, Result, Ok, Err, if◌then◌else◌}
use Rattle.plterm.specs.Tree.{Tree, var, int, atom, compound, none, more}
use Rattle.plops.specs.declared.error.OpError.{OpError}
use Rattle.plops.specs.declared.error.OpError.TheVariants as causes
use Rattle.plops.specs.declared.operator.Kind.{Kind}
use Rattle.plops.specs.declared.table.Entry.{Entry}
use Rattle.plnames.specs.declared.kind.Flags.{Flags}
use Rattle.plnames.specs.declared.kind.Flags.TheVariants.{Operator, CurrentOperator, Set, Current}
use Rattle.plprogram.specs.Changes.{declared, kind_named, flag_named, with_flag}
use Rattle.plprogram.specs.declared.change.Flag.{Flag}
use Rattle.plprogram.specs.declared.change.FlagError.{FlagError}
use Rattle.plprogram.specs.declared.change.FlagError.TheVariants.{NoFlag, ReadOnly, NoValue}
use Rattle.plprogram.specs.declared.change.Refusal.{Refusal}
use Rattle.plprogram.specs.declared.settings.Settings.{Settings}
use Rattle.plbuiltin.specs.Current.{current_op, current_flag}
use Rattle.plerror.specs.Errors.{instantiation_error, type_error, domain_error, permission_error}
use Rattle.plbuiltin.specs.Lists.{Tail, Empty, Unbound, Other, elements_of, is_partial, is_variable}
use Rattle.plbuiltin.specs.Solution.{Solved, Raises, fails, sets}
use Rattle.plbuiltin.specs.Texts.{Found}

-- the names of atoms, or the error of the first term that is none
abbrev pub name_of : Tree → Found (List ℕ)
name_of (atom s) = Ok s
name_of t = Err (type_error (codes "atom") t)

abbrev pub before : Found (List ℕ) → Found (List (List ℕ)) → Found (List (List ℕ))
before (Err e) names = Err e
before (Ok name) (Err e) = Err e
before (Ok name) (Ok names) = Ok (name ∷ names)

abbrev pub names_of : List Tree → Found (List (List ℕ))
names_of [] = Ok []
names_of (t ∷ ts) = before (name_of t) (names_of ts)

-- an atom is one name, and a list as many as it has elements
abbrev pub one_name : Tree → Found (List (List ℕ))
one_name (atom s) = Ok (s ∷ [])
one_name t = Err (type_error (codes "list") t)

abbrev pub names_by : Tree → List Tree → Tail → Found (List (List ℕ))
names_by t ts Empty = names_of ts
names_by t ts Unbound = Err instantiation_error
names_by t ts Other = one_name t

abbrev pub names_in : Tree → Found (List (List ℕ))
names_in t = let es = elements_of t in names_by t es.items es.tail

-- names that are to be operators of a priority and a kind
pub record Declaration : Type 0 where
  pub priority : ℕ
  pub kind : Kind
  pub names : List (List ℕ)

abbrev pub of_kind : ℕ → List ℕ → Option Kind → List (List ℕ) → Found Declaration
of_kind priority kind (Some k) names = Ok (record { priority = priority; kind = k; names = names })
of_kind priority kind None names = Err (domain_error (codes "operator_specifier") (atom kind))

-- the priority is looked at before the specifier
abbrev pub of_priority : ℤ → List ℕ → Found (List (List ℕ)) → Found Declaration
of_priority priority kind (Err e) = Err e
of_priority (negsuc n) kind (Ok names) = Err (domain_error (codes "operator_priority") (int (negsuc n)))
of_priority (pos n) kind (Ok names) = if nat_le n 1200 then of_kind n kind (kind_named kind) names else Err (domain_error (codes "operator_priority") (int (pos n)))

abbrev pub of_types : Tree → Tree → Found (List (List ℕ)) → Found Declaration
of_types (int priority) (atom kind) names = of_priority priority kind names
of_types (int priority) kind names = Err (type_error (codes "atom") kind)
of_types priority kind names = Err (type_error (codes "integer") priority)

-- a variable in place of an argument or of a name is looked for first, then the types from the left, and then the domains
abbrev pub asked : Tree → Tree → Tree → Found Declaration
asked priority kind names =
    if is_variable priority || (is_variable kind || is_partial (elements_of names)) then Err instantiation_error
    else of_types priority kind (names_in names)

-- the error of a name that is not made an operator
abbrev pub refused_as : OpError → Tree → Tree
refused_as causes.Comma name = permission_error (codes "modify") (codes "operator") name
refused_as cause name = permission_error (codes "create") (codes "operator") name

-- all the names become operators, or none of them
abbrev pub with_operators : Result (List Entry) Refusal → Settings → Solved
with_operators (Ok entries) settings = sets (record settings { operators = entries })
with_operators (Err r) settings = Raises (refused_as r.cause (atom r.name))

-- (8.14.3)
abbrev pub op : Found Declaration → Settings → Solved
op (Ok a) settings = with_operators (declared a.priority a.kind a.names settings.operators) settings
op (Err e) settings = Raises e

-- a flag and a value that it does not have
abbrev pub flag_and_value : Tree → Tree → Tree
flag_and_value flag value = compound (codes "+") (more flag (more value none))

abbrev pub unset_as : FlagError → Tree → Tree → Tree
unset_as NoFlag flag value = domain_error (codes "prolog_flag") flag
unset_as ReadOnly flag value = permission_error (codes "modify") (codes "flag") flag
unset_as NoValue flag value = domain_error (codes "flag_value") (flag_and_value flag value)

abbrev pub set_to : Result Flag FlagError → Tree → Tree → Settings → Solved
set_to (Ok to) flag value settings = sets (with_flag to settings)
set_to (Err e) flag value settings = Raises (unset_as e flag value)

-- the name that a value is
abbrev pub value_named : Tree → Option (List ℕ)
value_named (atom s) = Some s
value_named t = None

-- (8.17.1)
abbrev pub set_flag : Tree → Tree → Settings → Solved
set_flag (var x) value settings = Raises instantiation_error
set_flag flag (var x) settings = Raises instantiation_error
set_flag (atom flag) value settings = set_to (flag_named flag (value_named value)) (atom flag) value settings
set_flag flag value settings = Raises (type_error (codes "atom") flag)

abbrev pub on_flags : Flags → List Tree → Settings → Solved
on_flags Operator (priority ∷ kind ∷ names ∷ []) settings = op (asked priority kind names) settings
on_flags CurrentOperator (priority ∷ kind ∷ name ∷ []) settings = current_op priority kind name settings
on_flags Set (flag ∷ value ∷ []) settings = set_flag flag value settings
on_flags Current (flag ∷ value ∷ []) settings = current_flag flag value settings
on_flags b us settings = fails settings

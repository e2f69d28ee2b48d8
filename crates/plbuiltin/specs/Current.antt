-- The operators and the flags as they stand (ISO/IEC 13211-1 8.14.4, 8.17.2).
use Rattle.std.specs.Prelude.{ℕ, pos, negsuc, nat_le, Bool, ◌||◌, List, [], ◌∷◌, map, codes, Option, Some, None, if◌then◌else◌}
use Rattle.std.specs.Str.{bytes_eq}
use Rattle.plterm.specs.Tree.{Tree, var, int, atom}
use Rattle.plops.specs.Listing.{current_ops}
use Rattle.plops.specs.declared.flag.Quotes.{Quotes}
use Rattle.plops.specs.declared.flag.Quotes.TheVariants.{Codes, Chars, Atom}
use Rattle.plops.specs.declared.operator.Kind.{Kind}
use Rattle.plops.specs.declared.operator.Kind.TheVariants.{Xfx, Xfy, Yfx, Fx, Fy, Xf, Yf}
use Rattle.plops.specs.declared.table.CurrentOp.{CurrentOp}
use Rattle.plprogram.specs.Changes.{kind_named, is_read_only}
use Rattle.plprogram.specs.declared.settings.Settings.{Settings}
use Rattle.plprogram.specs.declared.settings.Unknown.{Unknown}
use Rattle.plprogram.specs.declared.settings.Unknown.TheVariants.{Error, Fail}
use Rattle.plbuiltin.specs.Errors.{atom_error, first_error}
use Rattle.plerror.specs.Errors.{type_error, domain_error}
use Rattle.plbuiltin.specs.Solution.{Solved, unless, are_one_of}

-- the error of an argument that is to be a variable or a priority
abbrev pub priority_error : Tree → Option Tree
priority_error (var x) = None
priority_error (int (pos n)) = if nat_le n 1200 then None else Some (domain_error (codes "operator_priority") (int (pos n)))
priority_error p = Some (domain_error (codes "operator_priority") p)

-- that of a name which is to be that of a kind of operator
abbrev pub specifier_known : Option Kind → List ℕ → Option Tree
specifier_known (Some kind) name = None
specifier_known None name = Some (domain_error (codes "operator_specifier") (atom name))

abbrev pub specifier_error : Tree → Option Tree
specifier_error (var x) = None
specifier_error (atom name) = specifier_known (kind_named name) name
specifier_error t = Some (domain_error (codes "operator_specifier") t)

abbrev pub kind_name : Kind → List ℕ
kind_name Xfx = codes "xfx"
kind_name Xfy = codes "xfy"
kind_name Yfx = codes "yfx"
kind_name Fx = codes "fx"
kind_name Fy = codes "fy"
kind_name Xf = codes "xf"
kind_name Yf = codes "yf"

-- an operator: its priority, its specifier and its name
abbrev pub operator_terms : CurrentOp → List Tree
operator_terms o = int (pos o.priority) ∷ atom (kind_name o.kind) ∷ atom o.name ∷ []

-- the operators by name, of a name first the prefix one (8.14.4)
abbrev pub current_op : Tree → Tree → Tree → Settings → Solved
current_op p t n settings =
    unless (first_error (priority_error p ∷ specifier_error t ∷ atom_error n ∷ [])) (are_one_of (p ∷ t ∷ n ∷ []) (map operator_terms (current_ops settings.operators)) settings)

abbrev pub quotes_name : Quotes → List ℕ
quotes_name Codes = codes "codes"
quotes_name Chars = codes "chars"
quotes_name Atom = codes "atom"

abbrev pub unknown_name : Unknown → List ℕ
unknown_name Error = codes "error"
unknown_name Fail = codes "fail"

-- a flag and its value
abbrev pub flag_terms : List ℕ → Tree → List Tree
flag_terms name value = atom name ∷ value ∷ []

abbrev pub current_flags : Settings → List (List Tree)
current_flags settings =
    flag_terms (codes "bounded") (atom (codes "true"))
    ∷ flag_terms (codes "max_integer") (int (pos 9223372036854775807))
    ∷ flag_terms (codes "min_integer") (int (negsuc 9223372036854775807))
    ∷ flag_terms (codes "integer_rounding_function") (atom (codes "toward_zero"))
    ∷ flag_terms (codes "max_arity") (int (pos 1024))
    ∷ flag_terms (codes "occurs_check") (atom (codes "true"))
    ∷ flag_terms (codes "unknown") (atom (unknown_name settings.unknown))
    ∷ flag_terms (codes "double_quotes") (atom (quotes_name settings.quotes))
    ∷ []

abbrev pub is_flag : List ℕ → Bool
is_flag name = is_read_only name || bytes_eq name (codes "unknown") || bytes_eq name (codes "double_quotes")

-- the error of an argument that is to be a variable or the name of a flag
abbrev pub flag_error : Tree → Option Tree
flag_error (var x) = None
flag_error (atom name) = if is_flag name then None else Some (domain_error (codes "prolog_flag") (atom name))
flag_error t = Some (type_error (codes "atom") t)

-- (8.17.2)
abbrev pub current_flag : Tree → Tree → Settings → Solved
current_flag flag value settings = unless (flag_error flag) (are_one_of (flag ∷ value ∷ []) (current_flags settings) settings)

-- How a text or a goal changes the operators and the flags (ISO/IEC 13211-1 8.14.3, 8.17.1).
use Rattle.std.specs.Prelude.{◌≡◌, ℕ, Bool, ◌||◌, List, [], ◌∷◌, Option, Some, None, Result, Ok, Err, codes, if◌then◌else◌}
use Rattle.std.specs.Str.{bytes_eq}
use Rattle.plops.specs.Changes.{added, refusal}
use Rattle.plops.specs.declared.error.OpError.{OpError}
use Rattle.plops.specs.declared.flag.Quotes.{Quotes}
use Rattle.plops.specs.declared.flag.Quotes.TheVariants.{Codes, Chars, Atom}
use Rattle.plops.specs.declared.operator.Kind.{Kind}
use Rattle.plops.specs.declared.operator.Kind.TheVariants.{Xfx, Xfy, Yfx, Fx, Fy, Xf, Yf}
use Rattle.plops.specs.declared.table.Entry.{Entry}
use Rattle.plprogram.specs.declared.change.Flag.{Flag}
use Rattle.plprogram.specs.declared.change.Flag.TheVariants as flags
use Rattle.plprogram.specs.declared.change.FlagError.{FlagError}
use Rattle.plprogram.specs.declared.change.FlagError.TheVariants.{NoFlag, ReadOnly, NoValue}
use Rattle.plprogram.specs.declared.change.Refusal.{Refusal}
use Rattle.plprogram.specs.declared.settings.Settings.{Settings}
use Rattle.plprogram.specs.declared.settings.Unknown.{Unknown}
use Rattle.plprogram.specs.declared.settings.Unknown.TheVariants.{Error, Fail}

-- a table that comes where a name is not refused
abbrev pub unless : Option OpError → List ℕ → Result (List Entry) Refusal → Result (List Entry) Refusal
unless None name table = table
unless (Some cause) name table = Err (record { cause = cause; name = name })

-- the table once names are operators of a priority and kind; or the first of them that is refused
abbrev pub declared : ℕ → Kind → List (List ℕ) → List Entry → Result (List Entry) Refusal
declared priority kind [] entries = Ok entries
declared priority kind (name ∷ names) entries = unless (refusal priority kind name entries) name (declared priority kind names (added priority kind name entries))

abbrev pub go_on : Option OpError → List Entry → List Entry → List Entry
go_on None entries table = table
go_on (Some cause) entries table = entries

-- the table with the names before the first one that is refused, or with all of them
abbrev pub until_refused : ℕ → Kind → List (List ℕ) → List Entry → List Entry
until_refused priority kind [] entries = entries
until_refused priority kind (name ∷ names) entries = go_on (refusal priority kind name entries) entries (until_refused priority kind names (added priority kind name entries))

-- what `declare` answers: the table after it, or a refusal
abbrev pub Declares : Result (List Entry) Refusal → List Entry → Result (Unit {0}) Refusal → Type 0
Declares (Ok entries) new (Ok _) = new ≡ entries
Declares (Ok entries) new (Err r) = ⊥
Declares (Err r) new (Ok _) = ⊥
Declares (Err r) new (Err s) = s ≡ r

-- the kind of operator that a name says
abbrev pub kind_named : List ℕ → Option Kind
kind_named s =
    if bytes_eq s (codes "xfx") then Some Xfx
    else (if bytes_eq s (codes "xfy") then Some Xfy
    else (if bytes_eq s (codes "yfx") then Some Yfx
    else (if bytes_eq s (codes "fx") then Some Fx
    else (if bytes_eq s (codes "fy") then Some Fy
    else (if bytes_eq s (codes "xf") then Some Xf
    else (if bytes_eq s (codes "yf") then Some Yf else None))))))

-- the value of a flag that a name says
abbrev pub quotes_named : Option (List ℕ) → Option Quotes
quotes_named None = None
quotes_named (Some v) =
    if bytes_eq v (codes "codes") then Some Codes
    else (if bytes_eq v (codes "chars") then Some Chars
    else (if bytes_eq v (codes "atom") then Some Atom else None))

abbrev pub unknown_named : Option (List ℕ) → Option Unknown
unknown_named None = None
unknown_named (Some v) =
    if bytes_eq v (codes "error") then Some Error
    else (if bytes_eq v (codes "fail") then Some Fail else None)

-- flags that keep their values (7.11.1)
abbrev pub is_read_only : List ℕ → Bool
is_read_only f =
    bytes_eq f (codes "bounded") || bytes_eq f (codes "max_integer") || bytes_eq f (codes "min_integer")
    || bytes_eq f (codes "integer_rounding_function") || bytes_eq f (codes "max_arity") || bytes_eq f (codes "occurs_check")

abbrev pub quoted : Option Quotes → Result Flag FlagError
quoted (Some quotes) = Ok (flags.Quotes quotes)
quoted None = Err NoValue

abbrev pub calling : Option Unknown → Result Flag FlagError
calling (Some unknown) = Ok (flags.Unknown unknown)
calling None = Err NoValue

-- the flag of a name with the value that another name says, where there is one
abbrev pub flag_named : List ℕ → Option (List ℕ) → Result Flag FlagError
flag_named f v =
    if bytes_eq f (codes "double_quotes") then quoted (quotes_named v)
    else (if bytes_eq f (codes "unknown") then calling (unknown_named v)
    else (if is_read_only f then Err ReadOnly else Err NoFlag))

-- the settings once a flag is set
abbrev pub with_flag : Flag → Settings → Settings
with_flag (flags.Quotes quotes) s = record s { quotes = quotes }
with_flag (flags.Unknown unknown) s = record s { unknown = unknown }

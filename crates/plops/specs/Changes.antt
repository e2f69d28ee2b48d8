-- How a table of operators changes (8.14.3).
use Rattle.std.specs.Prelude.{◌≡◌, ℕ, List, [], ◌∷◌, ◌++◌, Bool, true, false, ◌&&◌, ◌==◌, nat_lt, if◌then◌else◌, Option, Some, None, is_some, is_none, unwrap_or, filter, Result, Ok, Err}
use Rattle.std.specs.List.{list_all}
use Rattle.std.specs.Str.{bytes_eq}
use Rattle.std.specs.Cmp.Lexicographic.{slice_cmp}
use Rattle.std.specs.Ordering.{is_lt, nat_cmp}
use Rattle.plops.specs.declared.operator.Kind.{Kind}
use Rattle.plops.specs.declared.operator.Kind.TheVariants as kinds
use Rattle.plops.specs.declared.table.Entry.{Entry}
use Rattle.plops.specs.declared.error.OpError.{OpError}
use Rattle.plops.specs.declared.error.OpError.TheVariants as errors
use Rattle.plops.specs.Operators.{operator_of}
use Rattle.plops.specs.Tables.{plain, with_operator, find}
use Rattle.plops.specs.Sane.{comma, is_reserved}

-- an entry without the operator that stands where one of a kind does
abbrev pub without : Entry → Kind → Entry
without e kinds.Fx = record e { as_prefix = None }
without e kinds.Fy = record e { as_prefix = None }
without e kinds.Xfx = record e { as_infix = None }
without e kinds.Xfy = record e { as_infix = None }
without e kinds.Yfx = record e { as_infix = None }
without e kinds.Xf = record e { as_postfix = None }
without e kinds.Yf = record e { as_postfix = None }

-- an entry once an operator is declared; priority 0 removes it
abbrev pub changed : ℕ → Kind → Entry → Entry
changed priority kind e = if priority == 0 then without e kind else with_operator e (operator_of priority kind)

-- the name is no operator
abbrev pub is_plain : Entry → Bool
is_plain e = is_none e.as_prefix && (is_none e.as_infix && is_none e.as_postfix)

-- one name comes before another, byte by byte
abbrev pub is_before : List ℕ → List ℕ → Bool
is_before name other = is_lt (slice_cmp nat_cmp name other)

-- each name comes before those of the later entries
abbrev pub is_rising : List Entry → Bool
is_rising [] = true
is_rising (e ∷ entries) = list_all (λ x. is_before e.name x.name) entries && is_rising entries

-- an entry is kept if its name is an operator
abbrev pub kept : Entry → List Entry
kept e = if is_plain e then [] else e ∷ []

-- an entry put among the others by name, in place of one of the same name
abbrev pub put : Entry → List Entry → List Entry
put e entries = filter (λ x. is_before x.name e.name) entries ++ kept e ++ filter (λ x. is_before e.name x.name) entries

-- what a name is in a table
abbrev pub entry_of : List Entry → List ℕ → Entry
entry_of entries name = unwrap_or (find entries name) (plain name)

-- the table once an operator is declared
abbrev pub added : ℕ → Kind → List ℕ → List Entry → List Entry
added priority kind name entries = put (changed priority kind (entry_of entries name)) entries

-- an operator of a kind would be an infix beside a postfix that the name is, or the other way
abbrev pub is_beside : Kind → Entry → Bool
is_beside kinds.Fx e = false
is_beside kinds.Fy e = false
is_beside kinds.Xfx e = is_some e.as_postfix
is_beside kinds.Xfy e = is_some e.as_postfix
is_beside kinds.Yfx e = is_some e.as_postfix
is_beside kinds.Xf e = is_some e.as_infix
is_beside kinds.Yf e = is_some e.as_infix

-- why an operator is not declared, if it is not
abbrev pub refusal : ℕ → Kind → List ℕ → List Entry → Option OpError
refusal priority kind name entries =
    if nat_lt 1200 priority then Some errors.Priority
    else (if bytes_eq name comma then Some errors.Comma
    else (if is_reserved name then Some errors.Reserved
    else (if nat_lt 0 priority && is_beside kind (entry_of entries name) then Some errors.InfixPostfix
    else None)))

-- what `add` answers of a table: it is changed, or stays as it was
abbrev pub Adds : ℕ → Kind → List ℕ → List Entry → List Entry → Result (Unit {0}) OpError → Type 0
Adds priority kind name old new (Ok _) = (refusal priority kind name old ≡ None) × (new ≡ added priority kind name old)
Adds priority kind name old new (Err errors.NoMemory) = (refusal priority kind name old ≡ None) × (new ≡ old)
Adds priority kind name old new (Err e) = (refusal priority kind name old ≡ Some e) × (new ≡ old)

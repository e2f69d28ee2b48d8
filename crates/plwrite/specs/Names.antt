-- How a name is spelled: bare, or quoted where it has to be.
use Rattle.std.specs.Prelude.{ℕ, ◌+◌, ◌/◌, ◌%◌, List, [], ◌∷◌, ◌++◌, length, Bool, true, false, ◌||◌, ◌&&◌, not, ◌==◌, nat_lt, nat_eq, if◌then◌else◌, codes}
use Rattle.std.specs.List.{flat_map, list_all, starts_with}
use Rattle.std.specs.Str.{bytes_eq}
use Rattle.std.specs.Char.{is_ascii_lowercase}
use Rattle.plterm.specs.Characters.{is_alphanumeric, is_symbol}
use Rattle.plwrite.specs.declared.style.Style.{Style}
use Rattle.plwrite.specs.declared.style.Style.TheVariants.{Plain, Quoted, Canonical, Listed}

-- a name that stands for itself alone
abbrev pub is_solo : List ℕ → Bool
is_solo s = bytes_eq s (codes "[]") || (bytes_eq s (codes "{}") || (bytes_eq s (codes "!") || bytes_eq s (codes ";")))

-- a small letter, and then letters, digits and `_`
abbrev pub is_small : List ℕ → Bool
is_small [] = false
is_small (b ∷ bytes) = is_ascii_lowercase b && list_all is_alphanumeric bytes

-- symbol characters, but neither an end token nor the start of a comment
abbrev pub is_symbolic : List ℕ → Bool
is_symbolic s = (list_all is_symbol s && not (length s == 0)) && (not (bytes_eq s (codes ".")) && not (starts_with nat_eq s (codes "/*")))

-- the name is read back from its own characters
abbrev pub is_bare : List ℕ → Bool
is_bare s = is_solo s || (is_small s || is_symbolic s)

abbrev pub hex_digit : ℕ → ℕ
hex_digit d = if nat_lt d 10 then 48 + d else 87 + d

-- the hexadecimal digits of a byte, without a leading zero
abbrev pub hex : ℕ → List ℕ
hex b = if nat_lt b 16 then hex_digit b ∷ [] else hex_digit (b / 16) ∷ hex_digit (b % 16) ∷ []

-- a byte of a name within quotes
abbrev pub escaped : ℕ → List ℕ
escaped b =
    if b == 92 then codes "\\\\"
    else (if b == 39 then codes "\\'"
    else (if b == 7 then codes "\\a"
    else (if b == 8 then codes "\\b"
    else (if b == 9 then codes "\\t"
    else (if b == 10 then codes "\\n"
    else (if b == 11 then codes "\\v"
    else (if b == 12 then codes "\\f"
    else (if b == 13 then codes "\\r"
    else (if nat_lt b 32 || (b == 127) then codes "\\x" ++ (hex b ++ codes "\\")
    else b ∷ [])))))))))

abbrev pub quoted : List ℕ → List ℕ
quoted s = 39 ∷ (flat_map escaped s ++ 39 ∷ [])

abbrev pub quoted_unless : Bool → List ℕ → List ℕ
quoted_unless true s = s
quoted_unless false s = quoted s

-- a name as an atom or an operator
abbrev pub name_text : Style → List ℕ → List ℕ
name_text Plain s = s
name_text Quoted s = quoted_unless (is_bare s) s
name_text Canonical s = quoted_unless (is_bare s) s
name_text Listed s = quoted_unless (is_bare s) s

abbrev pub is_empty_brackets : List ℕ → Bool
is_empty_brackets s = bytes_eq s (codes "[]") || bytes_eq s (codes "{}")

-- a name before its arguments
abbrev pub functor_text : Style → List ℕ → List ℕ
functor_text Plain s = s
functor_text Quoted s = quoted_unless (is_bare s && not (is_empty_brackets s)) s
functor_text Canonical s = quoted_unless (is_bare s && not (is_empty_brackets s)) s
functor_text Listed s = quoted_unless (is_bare s && not (is_empty_brackets s)) s

-- Characters past ASCII (UTF-8).
use Rattle.std.specs.Prelude.{ℕ, ◌-◌, List, [], ◌∷◌, length, take, Bool, false, ◌&&◌, ◌==◌, nat_eq, nat_lt, nat_le, if◌then◌else◌, slice_index, Option, Some, None}
use Rattle.std.specs.List.{starts_with}
use Rattle.std.specs.Str.{is_utf8, chars}

abbrev pub begins_with : ℕ → List ℕ → Bool
begins_with b [] = false
begins_with b (c ∷ bytes) = c == b

-- how many bytes a character has whose first byte is b, at least 128
abbrev pub width : ℕ → ℕ
width b = if nat_lt b 224 then 2 else (if nat_lt b 240 then 3 else 4)

-- so many bytes are there, and they are well formed
abbrev pub is_character : ℕ → List ℕ → Bool
is_character b bytes = nat_le (width b) (length (b ∷ bytes)) && is_utf8 (take (width b) (b ∷ bytes))

-- how many bytes of a character follow its first one, b
abbrev pub rest_of_character : ℕ → List ℕ → Option ℕ
rest_of_character b bytes =
    if nat_lt b 128 then Some 0
    else (if is_character b bytes then Some (width b - 1) else None)

-- the code of a character of these bytes
unfoldable pub code_at : List ℕ → ℕ
code_at bytes = slice_index (chars bytes) 0

-- a byte order mark at the start of the text is layout
abbrev pub after_mark : List ℕ → ℕ → ℕ
after_mark text from = if (from == 0) && starts_with nat_eq text (0xEF ∷ 0xBB ∷ 0xBF ∷ []) then 3 else from

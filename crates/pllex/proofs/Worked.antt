-- The tokens of small texts, one form each.
use Rattle.std.proofs.Common.{◌≡◌, ℕ, [], ◌∷◌, codes, refl, inl, inr}
use Rattle.pllex.specs.declared.token.Token.{Token}
use Rattle.pllex.specs.declared.token.Kind.{Kind}
use Rattle.pllex.specs.declared.token.Kind.TheVariants.{Name, QuotedName, Variable, Integer, DoubleQuoted, Open, OpenSquare, CloseCurly, Bar, End}
use Rattle.pllex.specs.declared.token.Scanned.TheVariants as items
use Rattle.pllex.specs.declared.token.Fault.TheVariants.{BadCharacter, OpenQuoted, BadEscape, IntTooBig, FloatLiteral, OpenComment, NoEnd}
use Rattle.std.specs.Char.{encode_utf8}
use Rattle.std.specs.Str.{chars}
use Rattle.pllex.specs.Characters.{code_at}
use Rattle.pllex.specs.Escapes.{escape_code}
use Rattle.pllex.specs.Quoted.{quoted, quoted_value}
use Rattle.pllex.specs.Named.{value_of}
use Rattle.pllex.specs.Tokens.{run_end, gap, value, item_of, next_item, IsClause, IsFault, IsOver}

abbrev at : Kind → ℕ → ℕ → Token
at kind start end = record { kind = kind; start = start; end = end }

-- ---- tokens, each the longest that can stand there

letters : next_item (codes "aB_1(") 0 ≡ items.Token (at Name 0 4)
unfolding next_item gap item_of run_end
letters = refl

symbols : next_item (codes " :- X") 0 ≡ items.Token (at Name 1 3)
unfolding next_item gap item_of run_end
symbols = refl

semicolon : next_item (codes ";;") 0 ≡ items.Token (at Name 0 1)
unfolding next_item gap item_of run_end
semicolon = refl

cut : next_item (codes "!") 0 ≡ items.Token (at Name 0 1)
unfolding next_item gap item_of run_end
cut = refl

underscore : next_item (codes "_a,") 0 ≡ items.Token (at Variable 0 2)
unfolding next_item gap item_of run_end
underscore = refl

digits : next_item (codes "120.") 0 ≡ items.Token (at (Integer 120) 0 3)
unfolding next_item gap item_of run_end value
digits = refl

-- the greatest value that a token may have
greatest : next_item (codes "9223372036854775808") 0 ≡ items.Token (at (Integer 9223372036854775808) 0 19)
unfolding next_item gap item_of run_end value
greatest = refl

open_bracket : next_item (codes "(") 0 ≡ items.Token (at Open 0 1)
unfolding next_item gap item_of run_end
open_bracket = refl

-- an end is a full stop before layout, a comment or the end of the text
end_before_line : next_item (10 ∷ 46 ∷ 10 ∷ []) 0 ≡ items.Token (at End 1 2)
unfolding next_item gap item_of run_end
end_before_line = refl

end_before_comment : next_item (codes ".%") 0 ≡ items.Token (at End 0 1)
unfolding next_item gap item_of run_end
end_before_comment = refl

no_end : next_item (codes ".(") 0 ≡ items.Token (at Name 0 1)
unfolding next_item gap item_of run_end
no_end = refl

no_end_in_symbols : next_item (codes "=.") 0 ≡ items.Token (at Name 0 2)
unfolding next_item gap item_of run_end
no_end_in_symbols = refl

-- ---- quoted items

quoted_name : next_item (codes "'a b'c") 0 ≡ items.Token (at QuotedName 0 5)
unfolding next_item gap item_of run_end quoted
quoted_name = refl

no_characters : next_item (codes "''") 0 ≡ items.Token (at QuotedName 0 2)
unfolding next_item gap item_of run_end quoted
no_characters = refl

-- two quotes stand for one
doubled_quote : next_item (codes "'a''b'") 0 ≡ items.Token (at QuotedName 0 6)
unfolding next_item gap item_of run_end quoted
doubled_quote = refl

doubled_value : value_of (codes "'a''b'") (at QuotedName 0 6) ≡ codes "a'b"
unfolding quoted_value encode_utf8
doubled_value = refl

double_quoted : next_item (codes "\"a'\"") 0 ≡ items.Token (at DoubleQuoted 0 4)
unfolding next_item gap item_of run_end quoted
double_quoted = refl

double_value : value_of (codes "\"a'\"") (at DoubleQuoted 0 4) ≡ codes "a'"
unfolding quoted_value encode_utf8
double_value = refl

escapes : next_item (codes "'\\n\\\\'") 0 ≡ items.Token (at QuotedName 0 6)
unfolding next_item gap item_of run_end quoted
escapes = refl

escapes_value : value_of (codes "'\\n\\\\'") (at QuotedName 0 6) ≡ 10 ∷ 92 ∷ []
unfolding quoted_value encode_utf8
escapes_value = refl

hexadecimal_code : next_item (codes "'\\x4a\\b'") 0 ≡ items.Token (at QuotedName 0 8)
unfolding next_item gap item_of run_end quoted
hexadecimal_code = refl

hexadecimal_value : value_of (codes "'\\x4a\\b'") (at QuotedName 0 8) ≡ codes "Jb"
unfolding quoted_value encode_utf8
hexadecimal_value = refl

octal_value : value_of (codes "'\\101\\1'") (at QuotedName 0 8) ≡ codes "A1"
unfolding quoted_value encode_utf8
octal_value = refl

-- a newline behind a backslash stands for nothing
line_goes_on : next_item (39 ∷ 97 ∷ 92 ∷ 10 ∷ 98 ∷ 39 ∷ []) 0 ≡ items.Token (at QuotedName 0 6)
unfolding next_item gap item_of run_end quoted
line_goes_on = refl

line_value : value_of (39 ∷ 97 ∷ 92 ∷ 10 ∷ 98 ∷ 39 ∷ []) (at QuotedName 0 6) ≡ codes "ab"
unfolding quoted_value encode_utf8
line_value = refl

-- faults of quoted items, each where it is met first
not_closed_quote : next_item (codes " 'a") 0 ≡ items.Fault OpenQuoted 1
unfolding next_item gap item_of run_end quoted
not_closed_quote = refl

line_ends : next_item (39 ∷ 97 ∷ 10 ∷ 39 ∷ []) 0 ≡ items.Fault OpenQuoted 0
unfolding next_item gap item_of run_end quoted
line_ends = refl

ends_behind_backslash : next_item (codes "'a\\") 0 ≡ items.Fault OpenQuoted 0
unfolding next_item gap item_of run_end quoted
ends_behind_backslash = refl

no_escape : next_item (codes "'a\\q'") 0 ≡ items.Fault BadEscape 2
unfolding next_item gap item_of run_end quoted
no_escape = refl

code_not_closed : next_item (codes "'\\x41'") 0 ≡ items.Fault BadEscape 1
unfolding next_item gap item_of run_end quoted
code_not_closed = refl

no_code : next_item (codes "'\\x\\'") 0 ≡ items.Fault BadEscape 1
unfolding next_item gap item_of run_end quoted
no_code = refl

surrogate : next_item (codes "'\\xD800\\'") 0 ≡ items.Fault BadEscape 1
unfolding next_item gap item_of run_end quoted
surrogate = refl

beyond_characters : next_item (codes "'\\x110000\\'") 0 ≡ items.Fault BadEscape 1
unfolding next_item gap item_of run_end quoted
beyond_characters = refl

control_in_quotes : next_item (39 ∷ 7 ∷ 39 ∷ []) 0 ≡ items.Fault BadCharacter 1
unfolding next_item gap item_of run_end quoted
control_in_quotes = refl

return_in_quotes : next_item (39 ∷ 97 ∷ 13 ∷ 10 ∷ 39 ∷ []) 0 ≡ items.Fault BadCharacter 2
unfolding next_item gap item_of run_end quoted
return_in_quotes = refl

-- ---- integers of other bases, and codes of characters

hexadecimal : next_item (codes "0xFFg") 0 ≡ items.Token (at (Integer 255) 0 4)
unfolding next_item gap item_of run_end value
hexadecimal = refl

octal : next_item (codes "0o178") 0 ≡ items.Token (at (Integer 15) 0 4)
unfolding next_item gap item_of run_end value
octal = refl

binary : next_item (codes "0b102") 0 ≡ items.Token (at (Integer 2) 0 4)
unfolding next_item gap item_of run_end value
binary = refl

-- with no digit of the base the 0 stands alone
zero_and_name : next_item (codes "0xg") 0 ≡ items.Token (at (Integer 0) 0 1)
unfolding next_item gap item_of run_end value
zero_and_name = refl

great_hexadecimal : next_item (codes "0x8000000000000001") 0 ≡ items.Fault IntTooBig 0
unfolding next_item gap item_of run_end value
great_hexadecimal = refl

character : next_item (codes "0'ab") 0 ≡ items.Token (at (Integer 97) 0 3)
unfolding next_item gap item_of run_end code_at chars
character = refl

two_quotes : next_item (codes "0'''") 0 ≡ items.Token (at (Integer 39) 0 4)
unfolding next_item gap item_of run_end
two_quotes = refl

one_quote : next_item (codes "0'',") 0 ≡ items.Token (at (Integer 39) 0 3)
unfolding next_item gap item_of run_end
one_quote = refl

escaped_character : next_item (codes "0'\\x41\\.") 0 ≡ items.Token (at (Integer 65) 0 7)
unfolding next_item gap item_of run_end escape_code
escaped_character = refl

zero_and_quote : next_item (codes "0'") 0 ≡ items.Token (at (Integer 0) 0 1)
unfolding next_item gap item_of run_end
zero_and_quote = refl

no_character : next_item (48 ∷ 39 ∷ 10 ∷ []) 0 ≡ items.Fault BadCharacter 2
unfolding next_item gap item_of run_end
no_character = refl

escaped_newline : next_item (48 ∷ 39 ∷ 92 ∷ 10 ∷ []) 0 ≡ items.Fault BadEscape 2
unfolding next_item gap item_of run_end escape_code
escaped_newline = refl

unfinished_escape : next_item (codes "0'\\x4") 0 ≡ items.Fault BadEscape 2
unfolding next_item gap item_of run_end escape_code
unfinished_escape = refl

-- ---- punctuation

square_bracket : next_item (codes "[]") 0 ≡ items.Token (at OpenSquare 0 1)
unfolding next_item gap item_of run_end
square_bracket = refl

curly_bracket : next_item (codes "}") 0 ≡ items.Token (at CloseCurly 0 1)
unfolding next_item gap item_of run_end
curly_bracket = refl

bar : next_item (codes "||") 0 ≡ items.Token (at Bar 0 1)
unfolding next_item gap item_of run_end
bar = refl

-- ---- layout

line_comment : next_item (37 ∷ 120 ∷ 10 ∷ 97 ∷ []) 0 ≡ items.Token (at Name 3 4)
unfolding next_item gap item_of run_end
line_comment = refl

bracketed_comment : next_item (codes "/*/ **/a") 0 ≡ items.Token (at Name 7 8)
unfolding next_item gap item_of run_end
bracketed_comment = refl

-- a comment begins where a token could, and not within symbols
comment_in_symbols : next_item (codes "+/* */") 0 ≡ items.Token (at Name 0 3)
unfolding next_item gap item_of run_end
comment_in_symbols = refl

mark_at_start : next_item (0xEF ∷ 0xBB ∷ 0xBF ∷ 97 ∷ []) 0 ≡ items.Token (at Name 3 4)
unfolding next_item gap item_of run_end
mark_at_start = refl

only_layout : IsOver (codes " % a comment to the end of the text") 0
unfolding next_item gap item_of run_end
only_layout = refl

-- ---- faults

control_character : next_item (7 ∷ []) 0 ≡ items.Fault BadCharacter 0
unfolding next_item gap item_of run_end
control_character = refl

too_big : next_item (codes "x:9223372036854775809") 2 ≡ items.Fault IntTooBig 2
unfolding next_item gap item_of run_end value
too_big = refl

fraction : next_item (codes "1.5") 0 ≡ items.Fault FloatLiteral 0
unfolding next_item gap item_of run_end value
fraction = refl

-- a float literal, however big its digits
big_fraction : next_item (codes "9223372036854775809.5") 0 ≡ items.Fault FloatLiteral 0
unfolding next_item gap item_of run_end value
big_fraction = refl

not_closed : next_item (codes "  /* *") 0 ≡ items.Fault OpenComment 2
unfolding next_item gap item_of run_end
not_closed = refl

-- ---- clauses

clause : IsClause (codes "a. b") 0 (at Name 0 1 ∷ at End 1 2 ∷ []) 2
unfolding next_item gap item_of run_end
clause = (at Name 0 1 ∷ [], at End 1 2, 1, (refl, refl, refl), refl, refl, refl, refl)

-- the text ends behind a token: the fault is at the first one
no_end_token : IsFault (codes " a b") 0 NoEnd 1
unfolding next_item gap item_of run_end
no_end_token = (at Name 1 2 ∷ at Name 3 4 ∷ [], 4, (refl, refl, (refl, refl, refl)), inr (refl, refl, refl))

-- the first fault that is met
fault : IsFault (codes "a 'b") 0 OpenQuoted 2
unfolding next_item gap item_of run_end quoted
fault = (at Name 0 1 ∷ [], 1, (refl, refl, refl), inl refl)

-- The tokens of a text, by longest match.
use Rattle.std.specs.Prelude.{◌≡◌, ℕ, zero, suc, ◌+◌, ◌-◌, ◌*◌, List, [], ◌∷◌, ◌++◌, take, drop, Bool, true, false, ◌&&◌, ◌||◌, ◌==◌, nat_le, if◌then◌else◌, ◌⊎◌, Option, Some, None, is_some}
use Rattle.std.specs.Char.{is_ascii_lowercase, is_ascii_uppercase, digit_value}
use Rattle.plterm.specs.Characters.{is_symbol}
use Rattle.pllex.specs.declared.token.Base.{Base}
use Rattle.pllex.specs.declared.token.Base.TheVariants.{Binary, Octal, Decimal, Hexadecimal}
use Rattle.pllex.specs.declared.escape.Escape.TheVariants.{Begins}
use Rattle.pllex.specs.declared.escape.Coded.{Coded}
use Rattle.pllex.specs.declared.escape.Coded.TheVariants as coded
use Rattle.pllex.specs.declared.quoted.Quote.{Quote}
use Rattle.pllex.specs.declared.quoted.Quote.TheVariants.{Single, Double}
use Rattle.pllex.specs.declared.quoted.Within.TheVariants.{Inside}
use Rattle.pllex.specs.declared.quoted.Quoted.{Quoted}
use Rattle.pllex.specs.declared.quoted.Quoted.TheVariants as ends
use Rattle.pllex.specs.declared.token.Class.{Class}
use Rattle.pllex.specs.declared.token.Class.TheVariants.{Alphanumeric, Symbol, Digit}
use Rattle.pllex.specs.declared.token.Kind.{Kind}
use Rattle.pllex.specs.declared.token.Kind.TheVariants as kinds
use Rattle.pllex.specs.declared.token.Token.{Token}
use Rattle.pllex.specs.declared.token.Fault.{Fault}
use Rattle.pllex.specs.declared.token.Fault.TheVariants as faults
use Rattle.pllex.specs.declared.token.Scanned.{Scanned}
use Rattle.pllex.specs.declared.token.Scanned.TheVariants as items
use Rattle.pllex.specs.declared.layout.Mode.{Mode}
use Rattle.pllex.specs.declared.layout.Mode.TheVariants as modes
use Rattle.pllex.specs.declared.layout.After.{After}
use Rattle.pllex.specs.declared.layout.After.TheVariants as afters
use Rattle.pllex.specs.declared.layout.Gap.{Gap}
use Rattle.pllex.specs.declared.layout.Gap.TheVariants as gaps
use Rattle.pllex.specs.Characters.{begins_with, rest_of_character, code_at, after_mark}
use Rattle.pllex.specs.Classes.{is_layout, radix, is_digit, is_control, in_class}
use Rattle.pllex.specs.Escapes.{escape_code}
use Rattle.pllex.specs.Quoted.{quoted}

-- where the longest run of a class ends, from a place on before these bytes
unfoldable pub run_end : Class → ℕ → List ℕ → ℕ
run_end class place [] = place
run_end class place (b ∷ bytes) = if in_class class b then run_end class (place + 1) bytes else place

abbrev pub begins_in : Class → List ℕ → Bool
begins_in class [] = false
begins_in class (c ∷ bytes) = in_class class c

-- Layout, byte by byte: what a byte at a place does, before these bytes.
abbrev pub between : ℕ → ℕ → List ℕ → After
between place b bytes =
    if is_layout b then afters.Goes modes.Between
    else (if b == 37 then afters.Goes (modes.Line 0)
    else (if (b == 47) && begins_with 42 bytes then afters.Goes (modes.Enters place) else afters.Ends))

-- past the first byte of a character, if it is one
abbrev pub past : (ℕ → Mode) → Option ℕ → After
past mode (Some rest) = afters.Goes (mode rest)
past mode None = afters.Bad

abbrev pub on_line : ℕ → List ℕ → After
on_line b bytes = if b == 10 then afters.Goes modes.Between else past modes.Line (rest_of_character b bytes)

abbrev pub in_comment : ℕ → ℕ → List ℕ → After
in_comment start b bytes =
    if (b == 42) && begins_with 47 bytes then afters.Goes modes.Leaves
    else past (modes.Inside start) (rest_of_character b bytes)

abbrev pub turn : Mode → ℕ → ℕ → List ℕ → After
turn modes.Between place b bytes = between place b bytes
turn (modes.Line zero) place b bytes = on_line b bytes
turn (modes.Line (suc rest)) place b bytes = afters.Goes (modes.Line rest)
turn (modes.Enters start) place b bytes = afters.Goes (modes.Inside start 0)
turn (modes.Inside start zero) place b bytes = in_comment start b bytes
turn (modes.Inside start (suc rest)) place b bytes = afters.Goes (modes.Inside start rest)
turn modes.Leaves place b bytes = afters.Goes modes.Between

-- at the end of the text
abbrev pub gap_end : Mode → ℕ → Gap
gap_end modes.Between place = gaps.Before place
gap_end (modes.Line rest) place = gaps.Before place
gap_end (modes.Enters start) place = gaps.Unclosed start
gap_end (modes.Inside start rest) place = gaps.Unclosed start
gap_end modes.Leaves place = gaps.Before place

abbrev pub goes_on : (Mode → Gap) → ℕ → After → Gap
goes_on rest place (afters.Goes next) = rest next
goes_on rest place afters.Ends = gaps.Before place
goes_on rest place afters.Bad = gaps.Bad place

-- what stands behind layout, which begins at a place in this mode
unfoldable pub gap : Mode → ℕ → List ℕ → Gap
gap mode place [] = gap_end mode place
gap mode place (b ∷ bytes) = goes_on (λ next. gap next (place + 1) bytes) place (turn mode place b bytes)

abbrev pub token : Kind → ℕ → ℕ → Scanned
token kind start end = items.Token (record { kind = kind; start = start; end = end })

-- a name or a variable has at most 65,535 bytes
abbrev pub named : Kind → ℕ → ℕ → Scanned
named kind start end = if nat_le (end - start) 65535 then token kind start end else items.Fault faults.NameTooLong start

-- behind a full stop that stands alone: layout, a comment or the end of the text
abbrev pub ends_here : List ℕ → Bool
ends_here [] = true
ends_here (b ∷ bytes) = is_layout b || (b == 37)

-- an end token, or a name of symbol characters
abbrev pub symbols : ℕ → ℕ → ℕ → List ℕ → Scanned
symbols b place end bytes = if (b == 46) && ends_here bytes then token kinds.End place (place + 1) else named kinds.Name place end

-- the value of digits of a base, behind those of a number
unfoldable pub value : Base → ℕ → List ℕ → ℕ
value base n [] = n
value base n (b ∷ bytes) = if is_digit base b then value base (radix base * n + digit_value b) bytes else n

-- behind the digits of a number that starts at a place
abbrev pub is_fraction : List ℕ → Bool
is_fraction [] = false
is_fraction (b ∷ bytes) = (b == 46) && begins_in (Digit Decimal) bytes

-- an integer is at most 2^63
abbrev pub in_range : ℕ → Option ℕ
in_range n = if nat_le n 9223372036854775808 then Some n else None

abbrev pub integer : Option ℕ → ℕ → ℕ → Scanned
integer (Some n) start end = token (kinds.Integer n) start end
integer None start end = items.Fault faults.IntTooBig start

-- decimal digits from a place on: these bytes
abbrev pub decimal : List ℕ → ℕ → List ℕ → Scanned
decimal text start digits =
    let end = run_end (Digit Decimal) start digits in
    if is_fraction (drop end text) then items.Fault faults.FloatLiteral start
    else integer (in_range (value Decimal 0 digits)) start end

-- digits of a base behind two characters, as 0x: these bytes
abbrev pub based : Base → ℕ → List ℕ → Scanned
based base start digits = integer (in_range (value base 0 digits)) start (run_end (Digit base) (start + 2) digits)

-- the base that a letter behind a 0 names
abbrev pub base_of : ℕ → Option Base
base_of b = if b == 120 then Some Hexadecimal else (if b == 111 then Some Octal else (if b == 98 then Some Binary else None))

-- behind 0 and a letter: digits of its base, or the letter begins another token
abbrev pub after_letter : List ℕ → ℕ → List ℕ → List ℕ → Option Base → Scanned
after_letter text start digits bytes None = decimal text start digits
after_letter text start digits bytes (Some base) = if begins_in (Digit base) bytes then based base start bytes else decimal text start digits

abbrev pub of_coded : ℕ → ℕ → Coded → Scanned
of_coded start at (coded.Character c end) = token (kinds.Integer c) start end
of_coded start at coded.NoCharacter = items.Fault faults.BadEscape at

abbrev pub bare_code : ℕ → ℕ → List ℕ → Option ℕ → Scanned
bare_code start b bytes (Some rest) = token (kinds.Integer (code_at (take (suc rest) (b ∷ bytes)))) start (start + 3 + rest)
bare_code start b bytes None = items.Fault faults.BadUtf8 (start + 2)

-- the code of a character behind 0 and a quote: two quotes or one, an escape sequence, or one that stands for itself
abbrev pub character_code : ℕ → List ℕ → Scanned
character_code start [] = token (kinds.Integer 0) start (start + 1)
character_code start (b ∷ bytes) =
    if b == 39 then token (kinds.Integer 39) start (if begins_with 39 bytes then start + 4 else start + 3)
    else (if b == 92 then of_coded start (start + 2) (escape_code Begins (start + 3) bytes)
    else (if (b == 10) || is_control b then items.Fault faults.BadCharacter (start + 2)
    else bare_code start b bytes (rest_of_character b bytes)))

-- a number that begins with 0, before these bytes
abbrev pub zero_number : List ℕ → ℕ → List ℕ → Scanned
zero_number text start [] = decimal text start (48 ∷ [])
zero_number text start (b ∷ bytes) =
    if b == 39 then character_code start bytes
    else after_letter text start (48 ∷ b ∷ bytes) bytes (base_of b)

abbrev pub number : List ℕ → ℕ → ℕ → List ℕ → Scanned
number text start b bytes = if b == 48 then zero_number text start bytes else decimal text start (b ∷ bytes)

abbrev pub of_quoted : Kind → ℕ → Quoted → Scanned
of_quoted kind start (ends.Closed end) = token kind start end
of_quoted kind start (ends.Bad fault at) = items.Fault fault at

abbrev pub quoted_item : Quote → Kind → ℕ → List ℕ → Scanned
quoted_item quote kind start bytes = of_quoted kind start (quoted quote start (Inside 0) 0 (start + 1) bytes)

-- ( ) [ ] { } , |
abbrev pub punctuation : ℕ → Option Kind
punctuation b =
    if b == 40 then Some kinds.Open
    else (if b == 41 then Some kinds.Close
    else (if b == 91 then Some kinds.OpenSquare
    else (if b == 93 then Some kinds.CloseSquare
    else (if b == 123 then Some kinds.OpenCurly
    else (if b == 125 then Some kinds.CloseCurly
    else (if b == 44 then Some kinds.Comma
    else (if b == 124 then Some kinds.Bar
    else None)))))))

-- a byte that begins no token: the character is a bad one, or its bytes are
abbrev pub stray : ℕ → List ℕ → Fault
stray b bytes = if is_some (rest_of_character b bytes) then faults.BadCharacter else faults.BadUtf8

abbrev pub marked : ℕ → ℕ → List ℕ → Option Kind → Scanned
marked place b bytes (Some kind) = token kind place (place + 1)
marked place b bytes None =
    if is_symbol b then symbols b place (run_end Symbol (place + 1) bytes) bytes
    else items.Fault (stray b bytes) place

-- what begins with a byte at a place of the text, before these bytes
unfoldable pub item_of : List ℕ → ℕ → ℕ → List ℕ → Scanned
item_of text place b bytes =
    if is_ascii_lowercase b then named kinds.Name place (run_end Alphanumeric (place + 1) bytes)
    else (if is_ascii_uppercase b || (b == 95) then named kinds.Variable place (run_end Alphanumeric (place + 1) bytes)
    else (if is_digit Decimal b then number text place b bytes
    else (if b == 39 then quoted_item Single kinds.QuotedName place bytes
    else (if b == 34 then quoted_item Double kinds.DoubleQuoted place bytes
    else (if (b == 33) || (b == 59) then token kinds.Name place (place + 1)
    else marked place b bytes (punctuation b))))))

abbrev pub item_at : List ℕ → ℕ → List ℕ → Scanned
item_at text place [] = items.Nothing
item_at text place (b ∷ bytes) = item_of text place b bytes

abbrev pub after_gap : List ℕ → Gap → Scanned
after_gap text (gaps.Before place) = item_at text place (drop place text)
after_gap text (gaps.Unclosed start) = items.Fault faults.OpenComment start
after_gap text (gaps.Bad place) = items.Fault faults.BadUtf8 place

-- the next token where layout begins at a place
abbrev pub item_behind : List ℕ → ℕ → Scanned
item_behind text place = after_gap text (gap modes.Between place (drop place text))

-- the next token of the text from a place on, the fault, or the end of the text
unfoldable pub next_item : List ℕ → ℕ → Scanned
next_item text from = item_behind text (after_mark text from)

abbrev pub is_end : Kind → Bool
is_end kinds.Name = false
is_end kinds.QuotedName = false
is_end kinds.Variable = false
is_end (kinds.Integer n) = false
is_end kinds.DoubleQuoted = false
is_end kinds.Open = false
is_end kinds.Close = false
is_end kinds.OpenSquare = false
is_end kinds.CloseSquare = false
is_end kinds.OpenCurly = false
is_end kinds.CloseCurly = false
is_end kinds.Comma = false
is_end kinds.Bar = false
is_end kinds.End = true

-- the tokens, none an end, stand one behind the other between two places
abbrev pub TokensBetween : List ℕ → ℕ → List Token → ℕ → Type 0
TokensBetween text from [] place = from ≡ place
TokensBetween text from (t ∷ ts) place = (next_item text from ≡ items.Token t) × (is_end t.kind ≡ false) × TokensBetween text t.end ts place

-- the tokens of a clause, the end token last, and the place behind it
abbrev pub IsClause : List ℕ → ℕ → List Token → ℕ → Type 0
IsClause text from ts after =
    (front : List Token) × (end : Token) × (place : ℕ) × TokensBetween text from front place
    × (next_item text place ≡ items.Token end) × (is_end end.kind ≡ true) × (ts ≡ front ++ end ∷ []) × (after ≡ end.end)

-- the place of the first token
abbrev pub IsFirst : List Token → ℕ → Type 0
IsFirst [] place = ⊥
IsFirst (t ∷ ts) place = t.start ≡ place

-- no end token is reached: a fault is met, or the text ends behind a token
abbrev pub IsFault : List ℕ → ℕ → Fault → ℕ → Type 0
IsFault text from fault place =
    (front : List Token) × (stop : ℕ) × TokensBetween text from front stop
    × ((next_item text stop ≡ items.Fault fault place) ⊎ ((next_item text stop ≡ items.Nothing) × (fault ≡ faults.NoEnd) × IsFirst front place))

-- only layout is left
abbrev pub IsOver : List ℕ → ℕ → Type 0
IsOver text from = next_item text from ≡ items.Nothing

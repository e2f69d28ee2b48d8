-- Quoted items, byte by byte: names in single quotes, and double-quoted items.
use Rattle.std.specs.Prelude.{ℕ, zero, suc, ◌+◌, List, [], ◌∷◌, ◌++◌, take, ◌==◌, nat_le, if◌then◌else◌, Option, Some, None, encode_utf8}
use Rattle.std.specs.Char.{len_utf8}
use Rattle.pllex.specs.declared.token.Fault.TheVariants as faults
use Rattle.pllex.specs.declared.escape.Escape.{Escape}
use Rattle.pllex.specs.declared.escape.Escape.TheVariants as escapes
use Rattle.pllex.specs.declared.escape.AfterEscape.{AfterEscape}
use Rattle.pllex.specs.declared.escape.AfterEscape.TheVariants as turns
use Rattle.pllex.specs.declared.quoted.Quote.{Quote}
use Rattle.pllex.specs.declared.quoted.Quote.TheVariants.{Single, Double}
use Rattle.pllex.specs.declared.quoted.Within.{Within}
use Rattle.pllex.specs.declared.quoted.Within.TheVariants as modes
use Rattle.pllex.specs.declared.quoted.QuotedStep.{QuotedStep}
use Rattle.pllex.specs.declared.quoted.QuotedStep.TheVariants as quoted_turns
use Rattle.pllex.specs.declared.quoted.Onward.{Onward}
use Rattle.pllex.specs.declared.quoted.Onward.TheVariants as onwards
use Rattle.pllex.specs.declared.quoted.Quoted.{Quoted}
use Rattle.pllex.specs.declared.quoted.Quoted.TheVariants as ends
use Rattle.pllex.specs.Characters.{begins_with, rest_of_character}
use Rattle.pllex.specs.Classes.{is_control}
use Rattle.pllex.specs.Escapes.{escape_turn}

abbrev pub mark : Quote → ℕ
mark Single = 39
mark Double = 34

-- a character that stands for itself
abbrev pub bare : ℕ → Option ℕ → QuotedStep
bare place (Some rest) = quoted_turns.Keeps rest
bare place None = quoted_turns.Bad faults.BadUtf8 place

-- a character, an escape sequence, or a quote: two stand for one, and one alone closes the item
abbrev pub plain_turn : Quote → ℕ → ℕ → ℕ → List ℕ → QuotedStep
plain_turn quote start place b bytes =
    if b == mark quote then (if begins_with (mark quote) bytes then quoted_turns.Adds modes.Twin b else quoted_turns.Closes)
    else (if b == 92 then quoted_turns.Goes (modes.Escaped place escapes.Begins)
    else (if b == 10 then quoted_turns.Bad faults.OpenQuoted start
    else (if is_control b then quoted_turns.Bad faults.BadCharacter place
    else bare place (rest_of_character b bytes))))

abbrev pub of_escape : ℕ → AfterEscape → QuotedStep
of_escape at (turns.Goes next) = quoted_turns.Goes (modes.Escaped at next)
of_escape at (turns.Is c) = quoted_turns.Adds (modes.Inside 0) c
of_escape at turns.Bad = quoted_turns.Bad faults.BadEscape at

-- a newline behind a backslash stands for nothing; in a code it leaves the item open
abbrev pub newline_turn : ℕ → Escape → QuotedStep
newline_turn start escapes.Begins = quoted_turns.Goes (modes.Inside 0)
newline_turn start escapes.BeforeDigits = quoted_turns.Bad faults.OpenQuoted start
newline_turn start (escapes.Digits base code) = quoted_turns.Bad faults.OpenQuoted start

-- what a byte at a place does in an item that starts at a place, before these bytes
abbrev pub quoted_turn : Quote → ℕ → Within → ℕ → ℕ → List ℕ → QuotedStep
quoted_turn quote start (modes.Inside zero) place b bytes = plain_turn quote start place b bytes
quoted_turn quote start (modes.Inside (suc rest)) place b bytes = quoted_turns.Goes (modes.Inside rest)
quoted_turn quote start modes.Twin place b bytes = quoted_turns.Goes (modes.Inside 0)
quoted_turn quote start (modes.Escaped at escape) place b bytes =
    if b == 10 then newline_turn start escape else of_escape at (escape_turn escape b)

-- how many bytes the value of a name has, so far at most 65,535; those of a double-quoted item are not counted
abbrev pub counted : Quote → ℕ → ℕ → ℕ
counted Single count more = count + more
counted Double count more = count

abbrev pub bounded : Quote → ℕ → ℕ → ℕ → Within → Onward
bounded quote start count more next =
    if nat_le (counted quote count more) 65535 then onwards.Goes next (counted quote count more)
    else onwards.Ends (ends.Bad faults.NameTooLong start)

abbrev pub counted_turn : Quote → ℕ → ℕ → ℕ → QuotedStep → Onward
counted_turn quote start count place (quoted_turns.Goes next) = onwards.Goes next count
counted_turn quote start count place (quoted_turns.Adds next c) = bounded quote start count (len_utf8 c) next
counted_turn quote start count place (quoted_turns.Keeps rest) = bounded quote start count (suc rest) (modes.Inside rest)
counted_turn quote start count place quoted_turns.Closes = onwards.Ends (ends.Closed (place + 1))
counted_turn quote start count place (quoted_turns.Bad fault at) = onwards.Ends (ends.Bad fault at)

abbrev pub quoted_goes_on : (Within → ℕ → Quoted) → Onward → Quoted
quoted_goes_on rest (onwards.Goes next count) = rest next count
quoted_goes_on rest (onwards.Ends end) = end

-- where the item ends, or its first fault: it starts at a place, and goes on in a mode, with so many bytes of its
-- value counted, at a place before these bytes
unfoldable pub quoted : Quote → ℕ → Within → ℕ → ℕ → List ℕ → Quoted
quoted quote start mode count place [] = ends.Bad faults.OpenQuoted start
quoted quote start mode count place (b ∷ bytes) =
    quoted_goes_on (λ next more. quoted quote start next more (place + 1) bytes) (counted_turn quote start count place (quoted_turn quote start mode place b bytes))

-- what a byte adds to the item's value: it is the first of these
abbrev pub value_step : List ℕ → QuotedStep → List ℕ
value_step bytes (quoted_turns.Goes next) = []
value_step bytes (quoted_turns.Adds next c) = encode_utf8 c
value_step bytes (quoted_turns.Keeps rest) = take (rest + 1) bytes
value_step bytes quoted_turns.Closes = []
value_step bytes (quoted_turns.Bad fault at) = []

abbrev pub next_mode : QuotedStep → Option Within
next_mode (quoted_turns.Goes next) = Some next
next_mode (quoted_turns.Adds next c) = Some next
next_mode (quoted_turns.Keeps rest) = Some (modes.Inside rest)
next_mode quoted_turns.Closes = None
next_mode (quoted_turns.Bad fault at) = None

abbrev pub value_goes_on : (Within → List ℕ) → Option Within → List ℕ
value_goes_on rest (Some next) = rest next
value_goes_on rest None = []

-- the bytes of the item's value from there on
unfoldable pub quoted_value : Quote → ℕ → Within → ℕ → List ℕ → List ℕ
quoted_value quote start mode place [] = []
quoted_value quote start mode place (b ∷ bytes) =
    value_step (b ∷ bytes) (quoted_turn quote start mode place b bytes)
    ++ value_goes_on (λ next. quoted_value quote start next (place + 1) bytes) (next_mode (quoted_turn quote start mode place b bytes))

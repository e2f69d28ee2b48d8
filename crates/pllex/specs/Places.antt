-- Places within a text.
use Rattle.std.specs.Prelude.{◌≡◌, ℕ, ◌≤◌, ◌<◌, ◌+◌}
use Rattle.pllex.specs.declared.token.Scanned.{Scanned}
use Rattle.pllex.specs.declared.token.Scanned.TheVariants as items
use Rattle.pllex.specs.declared.escape.Coded.{Coded}
use Rattle.pllex.specs.declared.escape.Coded.TheVariants as coded
use Rattle.pllex.specs.declared.quoted.QuotedStep.{QuotedStep}
use Rattle.pllex.specs.declared.quoted.QuotedStep.TheVariants as turns
use Rattle.pllex.specs.declared.quoted.Onward.{Onward}
use Rattle.pllex.specs.declared.quoted.Onward.TheVariants as onwards
use Rattle.pllex.specs.declared.quoted.Quoted.{Quoted}
use Rattle.pllex.specs.declared.quoted.Quoted.TheVariants as ends
use Rattle.pllex.specs.declared.layout.Gap.{Gap}
use Rattle.pllex.specs.declared.layout.Gap.TheVariants as gaps

abbrev pub IsWithin : ℕ → ℕ → Gap → Type 0
IsWithin from len (gaps.Before place) = (from ≤ place) × (place ≤ len)
IsWithin from len (gaps.Unclosed start) = Unit {0}
IsWithin from len (gaps.Bad place) = Unit {0}

-- a token that starts at a place and ends behind it, within the text
abbrev pub Advances : ℕ → ℕ → Scanned → Type 0
Advances place len (items.Token t) = (place ≤ t.start) × (t.start < t.end) × (t.end ≤ len)
Advances place len (items.Fault f at) = Unit {0}
Advances place len items.Nothing = Unit {0}

-- an escape sequence ends behind where it begins, within the text
abbrev pub IsCoded : ℕ → ℕ → Coded → Type 0
IsCoded from len (coded.Character c end) = (from < end) × (end ≤ len)
IsCoded from len coded.NoCharacter = Unit {0}

-- a character has at most three further bytes
abbrev pub KeepsFew : QuotedStep → Type 0
KeepsFew (turns.Goes next) = Unit {0}
KeepsFew (turns.Adds next c) = Unit {0}
KeepsFew (turns.Keeps rest) = rest ≤ 3
KeepsFew turns.Closes = Unit {0}
KeepsFew (turns.Bad fault at) = Unit {0}

-- and they lie within the text
abbrev pub KeepsWithin : ℕ → ℕ → QuotedStep → Type 0
KeepsWithin place len (turns.Goes next) = Unit {0}
KeepsWithin place len (turns.Adds next c) = Unit {0}
KeepsWithin place len (turns.Keeps rest) = place + rest + 1 ≤ len
KeepsWithin place len turns.Closes = Unit {0}
KeepsWithin place len (turns.Bad fault at) = Unit {0}

-- so far at most 65,535 bytes are counted
abbrev pub IsFew : Onward → Type 0
IsFew (onwards.Goes next count) = count ≤ 65535
IsFew (onwards.Ends end) = Unit {0}

-- a quoted item that closes does so behind its start, within the text
abbrev pub IsEndWithin : ℕ → ℕ → Quoted → Type 0
IsEndWithin start len (ends.Closed end) = (start < end) × (end ≤ len)
IsEndWithin start len (ends.Bad fault at) = Unit {0}

-- an item that closes at a byte ends behind it
abbrev pub EndsAt : ℕ → Onward → Type 0
EndsAt place (onwards.Goes next count) = Unit {0}
EndsAt place (onwards.Ends (ends.Closed end)) = end ≡ place + 1
EndsAt place (onwards.Ends (ends.Bad fault at)) = Unit {0}

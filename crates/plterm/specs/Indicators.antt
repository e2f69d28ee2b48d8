-- When indicators are the same.
use Rattle.std.specs.Prelude.{◌==◌, ◌&&◌, Bool}
use Rattle.std.specs.Str.{bytes_eq}
use Rattle.plterm.specs.declared.indicator.Indicator.{Indicator}

-- whether name and arity are the same
abbrev pub same_indicator : Indicator → Indicator → Bool
same_indicator a b = bytes_eq a.name b.name && (a.arity == b.arity)

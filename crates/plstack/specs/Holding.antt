-- What open cases hold.
use Rattle.std.specs.Prelude.{◌≡◌, List, [], ◌∷◌}
use Rattle.std.specs.Bool.{⊤}
use Rattle.plstack.specs.declared.frame.Marks.{Marks}
use Rattle.plstack.specs.declared.hold.Held.{Held}
use Rattle.plstack.specs.declared.hold.Newest.{Newest}
use Rattle.plstack.specs.declared.hold.Newest.TheVariants as newest
use Rattle.plstack.specs.declared.frame.Frame.{Frame}
use Rattle.plstack.specs.declared.frame.Frame.TheVariants.{Plain, Open}
use Rattle.plstack.specs.Places.{kept}

-- the marks of nothing
abbrev pub no_marks : Marks
no_marks = record { env = record { heap = record { cells = 0; trail = 0; numbers = 0; wide = 0 }; slots = 0; noted = 0; count = 0 }; links = 0; saved = 0 }

-- what the newest case that comes back to something holds, of frames with the newest first: its marks, and how many values behind them
abbrev pub held : List Frame → Held
held [] = record { marks = no_marks; kept = 0 }
held (Plain n ∷ fs) = held fs
held (Open p r ∷ fs) = record { marks = p.marks; kept = kept r }

-- the newest case of frames, with the newest first, that comes back to something
abbrev pub IsNewest : List Frame → Newest → Type 0
IsNewest fs newest.Unknown = ⊤
IsNewest fs newest.Nothing = held fs ≡ held []
IsNewest fs (newest.Open p r) = held fs ≡ record { marks = p.now.marks; kept = kept r.now }

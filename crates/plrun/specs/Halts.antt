-- How a thread comes to an end.
use Rattle.std.specs.Prelude.{ℕ, List, [], ◌∷◌, ◌++◌, length}
use Rattle.plevent.specs.declared.request.ThreadEnd.{ThreadEnd}
use Rattle.plevent.specs.declared.request.Request.{Request}
use Rattle.plevent.specs.declared.act.Entry.{Entry}
use Rattle.plevent.specs.Rows.{adds}

-- the journal once thread t has told of its end: one that has ended the run tells nothing more
abbrev pub told : ThreadEnd → ℕ → List Entry → List Entry
told (ThreadEnd.Halt n) t h = h
told e t h = h ++ adds h 1 t (Request.Finish e)

-- its places then
abbrev pub told_places : ThreadEnd → List Entry → List ℕ → List ℕ
told_places (ThreadEnd.Halt n) h places = places
told_places e h places = places ++ length h ∷ []

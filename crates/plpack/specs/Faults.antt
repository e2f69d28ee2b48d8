-- What an error of unpacking says.
use Rattle.std.specs.Prelude.{ℕ, List}
use Rattle.plpack.specs.declared.unpacking.UnpackError.{UnpackError}
use Rattle.plpack.specs.declared.unpacking.UnpackError.TheVariants.{BadPack, NoMemory}
use Rattle.plpack.specs.Unpacking.{IsFault, NonePacked}

-- the place is that of the first bad item
abbrev pub Tells : List ℕ → UnpackError → Type 0
Tells bytes (BadPack place) = IsFault bytes place
Tells bytes NoMemory = Unit {0}

-- no term's bytes begin the bytes, unless memory ran out
abbrev pub TellsNone : List ℕ → UnpackError → Type 0
TellsNone bytes (BadPack place) = NonePacked bytes
TellsNone bytes NoMemory = Unit {0}

-- Programs with the library.
use Rattle.std.specs.Prelude.{◌≡◌}
use Rattle.plprogram.specs.Program.{Program}
use Rattle.plprogram.specs.Library.{with_library}
use Rattle.plload.specs.Loading.{Loads, Accepts}
use Rattle.pllibrary.specs.declared.text.TheConstants.{LIBRARY}

-- the program that the library's text is
abbrev pub IsLibrary : Program → Type 0
IsLibrary library = Loads LIBRARY.now (Accepts library)

-- a program, and the same with those procedures of the library that it lacks
abbrev pub HasLibrary : Program → Program → Type 0
HasLibrary program whole = (library : Program) × IsLibrary library × (whole ≡ with_library program library)

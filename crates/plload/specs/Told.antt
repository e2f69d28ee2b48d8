-- What an error of loading tells.
use Rattle.std.specs.Prelude.{ℕ, List}
use Rattle.plload.specs.declared.error.LoadError.{LoadError}
use Rattle.plload.specs.declared.error.LoadError.TheVariants.{Refused, NoMemory}
use Rattle.plload.specs.Loading.{Loads, Refuses}
use Rattle.plload.specs.Listing.{Lists}

abbrev pub Tells : List ℕ → LoadError → Type 0
Tells text (Refused line column kind) = Loads text (Refuses line column kind) × Lists text (Refuses line column kind)
Tells text NoMemory = Unit {0}

-- The operators and the flags.
use Rattle.plops.specs.Given.{iso_table}
use Rattle.plops.specs.declared.flag.Quotes.TheVariants.{Codes}
use Rattle.plprogram.specs.declared.settings.Settings.{Settings}
use Rattle.plprogram.specs.declared.settings.Unknown.TheVariants.{Error}

-- at the start of a text
abbrev pub iso_settings : Settings
iso_settings = record { operators = iso_table; quotes = Codes; unknown = Error }

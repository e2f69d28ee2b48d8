-- What the words of a command line are read as.
use Rattle.std.specs.Prelude.{◌≡◌, List, Some}
use Rattle.clap.specs.Words.{Text, matches_of}
use Rattle.plwords.specs.declared.form.Form.{Form}
use Rattle.plwords.specs.declared.words.Command.{Command}
use Rattle.plwords.specs.Forms.{texts}
use Rattle.plwords.specs.Arguments.{prolog_app, IsTaken, command_in}

abbrev pub shown : Command → Form Text × Text
shown c = (texts c.form, c.path.now)

-- `clap` reads the words as this form, whose goal is a text, and this path of the program
unfoldable pub IsRead : List Text → Form Text → Text → Type 0
IsRead words form path = IsTaken words × (command_in (matches_of prolog_app words) ≡ Some (form, path))

-- it reads them as some form and path
abbrev pub IsLine : List Text → Type 0
IsLine words = (form : Form Text) × (path : Text) × IsRead words form path

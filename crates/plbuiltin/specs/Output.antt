-- Built-in predicates that write (ISO/IEC 13211-1 8.11.7, 8.12, 8.14).
use Rattle.std.specs.Prelude.{ℕ, pos, negsuc, List, [], ◌∷◌, ◌++◌, replicate, Ok, Err}
use Rattle.std.specs.Char.{encode_utf8}
use Rattle.plterm.specs.Tree.{Tree}
use Rattle.plarith.specs.Errors.{Evaluated, error_of}
use Rattle.plarith.specs.Evaluation.{eval}
use Rattle.plwrite.specs.Writing.{written}
use Rattle.plwrite.specs.declared.style.Style.{Style}
use Rattle.plwrite.specs.declared.style.Style.TheVariants.{Plain, Quoted, Canonical}
use Rattle.plnames.specs.declared.kind.Output.{Output}
use Rattle.plnames.specs.declared.kind.Output.TheVariants.{Write, WriteQuoted, WriteCanonical, WriteLine, Newline, Flush, PutCharacter, Tab, Format}
use Rattle.plnames.specs.declared.kind.Spelling.TheVariants.{Characters}
use Rattle.plprogram.specs.declared.settings.Settings.{Settings}
use Rattle.plbuiltin.specs.Solution.{Solved, Raises, fails, writes}
use Rattle.plbuiltin.specs.Texts.{Found, character_of}
use Rattle.plbuiltin.specs.Format.{format}

-- the text of a term under the operators as they stand
abbrev pub term_output : Style → List Tree → Settings → Solved
term_output style (a ∷ []) settings = writes (written settings.operators style a) settings
term_output style us settings = fails settings

-- and a newline behind it
abbrev pub line_output : List Tree → Settings → Solved
line_output (a ∷ []) settings = writes (written settings.operators Plain a ++ 10 ∷ []) settings
line_output us settings = fails settings

-- a text that no argument tells
abbrev pub fixed_output : List ℕ → List Tree → Settings → Solved
fixed_output text [] settings = writes text settings
fixed_output text us settings = fails settings

-- a character (8.12.3)
abbrev pub character_output : Found ℕ → Settings → Solved
character_output (Ok c) settings = writes (encode_utf8 c) settings
character_output (Err e) settings = Raises e

-- as many spaces as an expression comes to
abbrev pub spaces : Evaluated → Settings → Solved
spaces (Ok (pos n)) settings = writes (replicate n 32) settings
spaces (Ok (negsuc n)) settings = writes [] settings
spaces (Err e) settings = Raises (error_of e)

abbrev pub put_character : List Tree → Settings → Solved
put_character (c ∷ []) settings = character_output (character_of Characters c) settings
put_character us settings = fails settings

abbrev pub tab : List Tree → Settings → Solved
tab (e ∷ []) settings = spaces (eval e) settings
tab us settings = fails settings

abbrev pub on_output : Output → List Tree → Settings → Solved
on_output Write us settings = term_output Plain us settings
on_output WriteQuoted us settings = term_output Quoted us settings
on_output WriteCanonical us settings = term_output Canonical us settings
on_output WriteLine us settings = line_output us settings
on_output Newline us settings = fixed_output (10 ∷ []) us settings
on_output Flush us settings = fixed_output [] us settings
on_output PutCharacter us settings = put_character us settings
on_output Tab us settings = tab us settings
on_output Format us settings = format us settings

-- Formatted output: format/1 and format/2.
use Rattle.std.specs.Prelude.{ℕ, ◌==◌, ◌||◌, Bool, true, false, List, [], ◌∷◌, ◌++◌, length, count_by, codes, Option, Some, None, Ok, Err, if◌then◌else◌}
use Rattle.std.specs.List.{list_any}
use Rattle.std.specs.Str.{bytes_eq}
use Rattle.plterm.specs.Tree.{Tree, int, atom}
use Rattle.plwrite.specs.Writing.{written}
use Rattle.plwrite.specs.declared.style.Style.{Style}
use Rattle.plwrite.specs.declared.style.Style.TheVariants.{Plain, Quoted}
use Rattle.plnames.specs.declared.kind.Spelling.TheVariants.{Characters, Codes}
use Rattle.plprogram.specs.declared.settings.Settings.{Settings}
use Rattle.plerror.specs.Errors.{instantiation_error, type_error, domain_error}
use Rattle.plbuiltin.specs.Lists.{Tail, Empty, Unbound, Other, elements_of, is_partial}
use Rattle.plbuiltin.specs.Solution.{Solved, Raises, fails, writes}
use Rattle.plbuiltin.specs.Texts.{Found, number_text, text_in}

-- what becomes of an argument: it is written in a style, or as the name that it is, or as the integer
pub data Directive : Type 0 where
  Written : Style → Directive
  Name : Directive
  Number : Directive

-- what a format's text is made of: bytes that are written, directives that take an argument, and what is no directive
pub data Piece : Type 0 where
  Byte : ℕ → Piece
  Takes : Directive → Piece
  Amiss : Piece

-- what a byte behind a tilde says: `~w`, `~q` and `~p`, `~a`, `~d`, `~n` and `~~`
abbrev pub directive : ℕ → Piece
directive c =
    if c == 119 then Takes (Written Plain)
    else (if c == 113 || c == 112 then Takes (Written Quoted)
    else (if c == 97 then Takes Name
    else (if c == 100 then Takes Number
    else (if c == 110 then Byte 10
    else (if c == 126 then Byte 126 else Amiss)))))

-- the pieces of a text, behind a tilde or not
abbrev pub pieces : Bool → List ℕ → List Piece
pieces false [] = []
pieces true [] = Amiss ∷ []
pieces false (c ∷ cs) = if c == 126 then pieces true cs else Byte c ∷ pieces false cs
pieces true (c ∷ cs) = directive c ∷ pieces false cs

-- the text that a list of codes or of characters spells
abbrev pub listed_text : Found (List ℕ) → Found (List ℕ) → Tree → Found (List ℕ)
listed_text (Ok text) other t = Ok text
listed_text (Err e) (Ok text) t = Ok text
listed_text (Err e) (Err d) t = if is_partial (elements_of t) then Err instantiation_error else Err (type_error (codes "atom") t)

-- the text of a format, which is an atom or such a list
abbrev pub control_text : Tree → Found (List ℕ)
control_text (atom name) = if bytes_eq name (codes "[]") then Ok [] else Ok name
control_text t = listed_text (text_in Codes t) (text_in Characters t) t

-- the elements of a list are the arguments, and another term is one argument
abbrev pub arguments_by : List Tree → Tail → Tree → List Tree
arguments_by ts Empty a = ts
arguments_by ts Unbound a = a ∷ []
arguments_by ts Other a = a ∷ []

abbrev pub arguments_of : Tree → List Tree
arguments_of a = let es = elements_of a in arguments_by es.items es.tail a

-- what a directive makes of its argument
abbrev pub argument_text : Directive → Tree → Settings → Found (List ℕ)
argument_text (Written style) t settings = Ok (written settings.operators style t)
argument_text Name (atom name) settings = Ok name
argument_text Name t settings = Err (type_error (codes "atom") t)
argument_text Number (int i) settings = Ok (number_text i)
argument_text Number t settings = Err (type_error (codes "integer") t)

-- a text before what follows it
abbrev pub joined : Found (List ℕ) → Found (List ℕ) → Found (List ℕ)
joined (Err e) rest = Err e
joined (Ok text) (Err e) = Err e
joined (Ok text) (Ok rest) = Ok (text ++ rest)

abbrev pub is_amiss : Piece → Bool
is_amiss Amiss = true
is_amiss p = false

abbrev pub takes_one : Piece → Bool
takes_one (Takes d) = true
takes_one p = false

-- what is no directive is looked for first, wherever it stands in a format f, and then the number of the terms that the arguments a are
abbrev pub format_fault : Tree → Tree → List Piece → List Tree → Option Tree
format_fault f a ps ts =
    if list_any is_amiss ps then Some (domain_error (codes "format_control") f)
    else (if count_by takes_one ps == length ts then None else Some (domain_error (codes "format_arguments") a))

-- what the pieces of a format without such a fault make of its arguments, from the left
abbrev pub formatted : Settings → List Piece → List Tree → Found (List ℕ)
formatted s (Byte c ∷ ps) ts = joined (Ok (c ∷ [])) (formatted s ps ts)
formatted s (Takes d ∷ ps) (t ∷ ts) = joined (argument_text d t s) (formatted s ps ts)
formatted s ps ts = Ok []

abbrev pub faultless : Option Tree → Found (List ℕ) → Found (List ℕ)
faultless (Some e) text = Err e
faultless None text = text

-- the pieces of a format's text
abbrev pub pieces_of : Found (List ℕ) → Found (List Piece)
pieces_of (Ok text) = Ok (pieces false text)
pieces_of (Err e) = Err e

abbrev pub formatted_by : Found (List Piece) → Tree → Tree → Settings → Found (List ℕ)
formatted_by (Ok ps) f a settings = let ts = arguments_of a in faultless (format_fault f a ps ts) (formatted settings ps ts)
formatted_by (Err e) f a settings = Err e

-- nothing is written where it raises
abbrev pub text_output : Found (List ℕ) → Settings → Solved
text_output (Ok text) settings = writes text settings
text_output (Err e) settings = Raises e

abbrev pub format_to : Tree → Tree → Settings → Solved
format_to f a settings = text_output (formatted_by (pieces_of (control_text f)) f a settings) settings

-- format/1 has no argument
abbrev pub format : List Tree → Settings → Solved
format (f ∷ []) settings = format_to f (atom (codes "[]")) settings
format (f ∷ a ∷ []) settings = format_to f a settings
format us settings = fails settings

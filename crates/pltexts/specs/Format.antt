-- Formats as the code holds them.
use Rattle.std.specs.Prelude.{ℕ, List, Vec, map, codes, Option, Some, None, Result, Ok, Err}
use Rattle.std.specs.Global.{Global}
use Rattle.plterm.specs.Tree.{Tree, atom}
use Rattle.plcells.specs.declared.cell.Cell.{Cell}
use Rattle.plcells.specs.Store.{Store, value, IsValue}
use Rattle.plbuiltin.specs.Format.{Directive, Written, Name, Number, Piece, Byte, Takes, Amiss}
use Rattle.plbuiltin.specs.Texts.{Found}
use Rattle.pltexts.specs.declared.format.Directive.{Directive as Held}
use Rattle.pltexts.specs.declared.format.Directive.TheVariants as directives
use Rattle.pltexts.specs.declared.format.Piece.{Piece as Part}
use Rattle.pltexts.specs.declared.format.Piece.TheVariants as parts

abbrev pub directive_as : Held → Directive
directive_as (directives.Written style) = Written style
directive_as directives.Name = Name
directive_as directives.Number = Number

abbrev pub piece_as : Part → Piece
piece_as (parts.Byte c) = Byte c
piece_as (parts.Takes d) = Takes (directive_as d)
piece_as parts.Amiss = Amiss

abbrev pub pieces_as : Result (Vec Part Global) Tree → Found (List Piece)
pieces_as (Ok ps) = Ok (map piece_as ps.items)
pieces_as (Err e) = Err e

abbrev pub text_as : Result (Vec ℕ Global) Tree → Found (List ℕ)
text_as (Ok text) = Ok text.items
text_as (Err e) = Err e

-- format/1 has the empty list in place of its arguments
abbrev pub given : Store → Option Cell → Tree
given h (Some v) = value h v
given h None = atom (codes "[]")

abbrev pub IsGiven : Store → Option Cell → Type 0
IsGiven h (Some v) = IsValue h v
IsGiven h None = Unit {0}

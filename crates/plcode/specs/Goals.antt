-- The piece that a goal comes to, by what its name is.
use Rattle.std.specs.Prelude.{◌==◌, ℕ, Option, Some, None, if◌then◌else◌}
use Rattle.plterm.specs.declared.node.Node.{Node}
use Rattle.plterm.specs.declared.node.Node.TheVariants.{Compound}
use Rattle.plnames.specs.Names.{kind_of}
use Rattle.plnames.specs.declared.kind.Kind.{Kind}
use Rattle.plnames.specs.declared.kind.Kind.TheVariants as kinds
use Rattle.plnames.specs.declared.kind.Control.{Control}
use Rattle.plnames.specs.declared.kind.Control.TheVariants as controls
use Rattle.plcode.specs.declared.body.Piece.{Piece}
use Rattle.plcode.specs.declared.body.Piece.TheVariants.{And, Or, IfThen}

-- the control constructs of two arguments that are goals
abbrev pub holder : Control → Option Piece
holder controls.And = Some And
holder controls.Or = Some Or
holder controls.IfThen = Some IfThen
holder c = None

abbrev pub holder_of : Option Kind → Option Piece
holder_of (Some (kinds.Control c)) = holder c
holder_of (Some (kinds.BuiltIn b)) = None
holder_of None = None

-- the piece of a goal with k arguments that are goals
abbrev pub piece_for : Option Kind → ℕ → Option Piece
piece_for kind k = if k == 2 then holder_of kind else None

-- the piece of a node
abbrev pub piece_at : Node → Option Piece
piece_at (Compound s k) = piece_for (kind_of s k) k
piece_at n = None

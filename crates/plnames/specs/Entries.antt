-- The rows and the kept names as the entries of a map by name and arity.
use Rattle.std.specs.Prelude.{◌==◌, ◌&&◌, ℕ, List, [], ◌∷◌, Option, Some, None, if◌then◌else◌}
use Rattle.std.specs.Borrow.{Bor}
use Rattle.std.specs.Str.{bytes_eq}
use Rattle.plterm.specs.declared.indicator.Indicator.{Indicator}
use Rattle.plnames.specs.declared.kind.Kind.{Kind}
use Rattle.plnames.specs.Names.{Row}

-- a name, an arity, and what they are; nothing, where they are kept
pub record Noted : Type 0 where
  pub name : List ℕ
  pub arity : ℕ
  pub kind : Option Kind

abbrev pub whole_row : Row → Noted
whole_row r = record { name = r.name; arity = r.arity; kind = Some r.kind }

abbrev pub kept_row : Indicator → Noted
kept_row p = record { name = p.name; arity = p.arity; kind = None }

-- a row of the code's table
abbrev pub row_of : Bor (List ℕ) × ℕ × Kind → Row
row_of r = record { name = r.0.now; arity = r.1; kind = r.2 }

abbrev pub noted_row : Bor (List ℕ) × ℕ × Kind → Noted
noted_row r = record { name = r.0.now; arity = r.1; kind = Some r.2 }

-- a name that is kept
abbrev pub name_row : Bor (List ℕ) × ℕ → Noted
name_row n = record { name = n.0.now; arity = n.1; kind = None }

-- an entry of a map
abbrev pub entry_row : (Bor (List ℕ) × ℕ) × Option Kind → Noted
entry_row e = record { name = e.0.0.now; arity = e.0.1; kind = e.1 }

-- one more, in place of one of its name and arity
abbrev pub put : List Noted → Noted → List Noted
put [] r = r ∷ []
put (s ∷ ss) r = if bytes_eq r.name s.name && (r.arity == s.arity) then record s { kind = r.kind } ∷ ss else s ∷ put ss r

-- what was noted first of a name and arity
abbrev pub noted_in : List Noted → List ℕ → ℕ → Option (Option Kind)
noted_in [] name arity = None
noted_in (s ∷ ss) name arity = if bytes_eq name s.name && (arity == s.arity) then Some s.kind else noted_in ss name arity

-- What a name with an arity is.
use Rattle.std.specs.Prelude.{◌==◌, ◌&&◌, ◌||◌, ℕ, Bool, List, [], ◌∷◌, map, Option, Some, None, is_some, if◌then◌else◌}
use Rattle.std.specs.List.{list_any}
use Rattle.std.specs.Str.{bytes_eq}
use Rattle.plterm.specs.declared.indicator.Indicator.{Indicator}
use Rattle.plnames.specs.declared.kind.Kind.{Kind}
use Rattle.plnames.specs.declared.rows.TheConstants.{ROWS, KEPT}

abbrev pub is_named : Indicator → List ℕ → ℕ → Bool
is_named p name arity = bytes_eq p.name name && (p.arity == arity)

-- a name, an arity, and what they are
pub record Row : Type 0 where
  pub name : List ℕ
  pub arity : ℕ
  pub kind : Kind

-- the rows of the table
unfoldable pub rows : List Row
rows = map (λ row. record { name = row.0.now; arity = row.1; kind = row.2 }) ROWS.now

-- the kind of the first row of that name and arity, if there is one
abbrev pub kind_in : List Row → List ℕ → ℕ → Option Kind
kind_in [] name arity = None
kind_in (row ∷ rest) name arity = if bytes_eq name row.name && (arity == row.arity) then Some row.kind else kind_in rest name arity

-- what a name with an arity is: a control construct or a built-in predicate, if it is one
abbrev pub kind_of : List ℕ → ℕ → Option Kind
kind_of name arity = kind_in rows name arity

-- the names with arities that are kept for what has no row yet
unfoldable pub kept : List Indicator
kept = map (λ n. record { name = n.0.now; arity = n.1 }) KEPT.now

abbrev pub is_among : List Indicator → Indicator → Bool
is_among names p = list_any (λ n. is_named p n.name n.arity) names

-- static, whatever the program holds (7.5.2)
abbrev pub is_fixed : Indicator → Bool
is_fixed p = is_some (kind_of p.name p.arity) || is_among kept p

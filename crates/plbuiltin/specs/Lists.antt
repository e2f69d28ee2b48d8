-- Terms as lists (ISO/IEC 13211-1 6.3.5).
use Rattle.std.specs.Prelude.{Bool, true, false, ◌||◌, List, [], ◌∷◌, codes, if◌then◌else◌}
use Rattle.std.specs.List.{list_any}
use Rattle.std.specs.Str.{bytes_eq}
use Rattle.plterm.specs.Tree.{Tree, var, int, atom, compound, Trees, none, more}
use Rattle.plerror.specs.Errors.{instantiation_error, type_error}

-- what stands behind the last element: the empty list, a variable, or another term
pub data Tail : Type 0 where
  Empty : Tail
  Unbound : Tail
  Other : Tail

pub record Elements : Type 0 where
  pub items : List Tree
  pub tail : Tail

-- no element
abbrev pub ends : Tail → Elements
ends tail = record { items = []; tail = tail }

abbrev pub before : Tree → Elements → Elements
before t es = record { items = t ∷ es.items; tail = es.tail }

-- the elements from the left, as far as they go
unfoldable mutual
  pub elements_of : Tree → Elements
  elements_of (var x) = ends Unbound
  elements_of (int i) = ends Other
  elements_of (atom name) = if bytes_eq name (codes "[]") then ends Empty else ends Other
  elements_of (compound name ts) = if bytes_eq name (codes ".") then elements_in ts else ends Other

  -- of the arguments of a list's cell
  pub elements_in : Trees → Elements
  elements_in none = ends Other
  elements_in (more t none) = ends Other
  elements_in (more t (more u none)) = before t (elements_of u)
  elements_in (more t (more u (more v ts))) = ends Other

-- the elements of a list, or the error of a term that is none
pub data Checked : Type 0 where
  Whole : List Tree → Checked
  Amiss : Tree → Checked

abbrev pub checked_by : List Tree → Tail → Tree → Checked
checked_by ts Empty l = Whole ts
checked_by ts Unbound l = Amiss instantiation_error
checked_by ts Other l = Amiss (type_error (codes "list") l)

abbrev pub checked : Tree → Checked
checked l = let es = elements_of l in checked_by es.items es.tail l

-- a term may be a list: it is one, or its end is not known
abbrev pub may_end : Tail → Bool
may_end Empty = true
may_end Unbound = true
may_end Other = false

abbrev pub may_be_list : Tree → Bool
may_be_list l = may_end (elements_of l).tail

-- a variable, a list whose end is one, or a list with an element that is one
abbrev pub is_variable : Tree → Bool
is_variable (var x) = true
is_variable t = false

abbrev pub is_unbound : Tail → Bool
is_unbound Unbound = true
is_unbound Empty = false
is_unbound Other = false

abbrev pub is_partial : Elements → Bool
is_partial es = is_unbound es.tail || list_any is_variable es.items

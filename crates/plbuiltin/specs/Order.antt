-- Built-in predicates that compare terms (ISO/IEC 13211-1 8.4), and ground/1 (8.3.10).
use Rattle.std.specs.Prelude.{ℕ, Bool, ◌||◌, List, [], ◌∷◌, codes, if◌then◌else◌}
use Rattle.std.specs.Str.{bytes_eq}
use Rattle.std.specs.declared.cmp.Ordering.{Ordering}
use Rattle.std.specs.declared.cmp.Ordering.TheVariants as orderings
use Rattle.std.specs.Ordering.{is_eq, is_ne, is_lt, is_le, is_gt, is_ge}
use Rattle.plterm.specs.Tree.{Tree, var, atom}
use Rattle.plterm.specs.Order.{order}
use Rattle.plterm.specs.Ground.{is_ground}
use Rattle.plnames.specs.declared.kind.Order.{Order}
use Rattle.plnames.specs.declared.kind.Order.TheVariants.{Holds, Compare, Ground}
use Rattle.plnames.specs.declared.kind.Relation.{Relation}
use Rattle.plnames.specs.declared.kind.Relation.TheVariants.{Same, Different, Before, NotAfter, After, NotBefore}
use Rattle.plprogram.specs.declared.settings.Settings.{Settings}
use Rattle.plerror.specs.Errors.{type_error, domain_error}
use Rattle.plbuiltin.specs.Solution.{Solved, Raises, fails, unifies, decides}

-- whether two terms of an order stand so
abbrev pub stand : Relation → Ordering → Bool
stand Same o = is_eq o
stand Different o = is_ne o
stand Before o = is_lt o
stand NotAfter o = is_le o
stand After o = is_gt o
stand NotBefore o = is_ge o

-- an order as compare/3 names it
abbrev pub sign : Ordering → List ℕ
sign orderings.Less = codes "<"
sign orderings.Equal = codes "="
sign orderings.Greater = codes ">"

abbrev pub is_sign : List ℕ → Bool
is_sign name = bytes_eq name (codes "<") || bytes_eq name (codes "=") || bytes_eq name (codes ">")

-- an order that is bound is one of the three atoms (8.4.2)
abbrev pub compare : List Tree → Settings → Solved
compare (var x ∷ a ∷ b ∷ []) settings = unifies (var x) (atom (sign (order a b))) settings
compare (atom name ∷ a ∷ b ∷ []) settings =
    if is_sign name then unifies (atom name) (atom (sign (order a b))) settings else Raises (domain_error (codes "order") (atom name))
compare (o ∷ a ∷ b ∷ []) settings = Raises (type_error (codes "atom") o)
compare us settings = fails settings

abbrev pub on_order : Order → List Tree → Settings → Solved
on_order (Holds r) (a ∷ b ∷ []) settings = decides (stand r (order a b)) settings
on_order Compare us settings = compare us settings
on_order Ground (t ∷ []) settings = decides (is_ground t) settings
on_order b us settings = fails settings

-- Built-in predicates that put the elements of a list in order (ISO/IEC 13211-1 Cor.2 8.4.3, 8.4.4).
use Rattle.std.specs.Prelude.{Bool, true, false, ◌&&◌, List, [], ◌∷◌, codes, Option, Some, None, if◌then◌else◌}
use Rattle.std.specs.Str.{bytes_eq}
use Rattle.plterm.specs.Tree.{Tree, var, compound, Trees, none, more}
use Rattle.plread.specs.Texts.{listed}
use Rattle.plsort.specs.Sorted.{sorted, set_of, by_key}
use Rattle.plnames.specs.declared.kind.Sorting.{Sorting}
use Rattle.plnames.specs.declared.kind.Sorting.TheVariants.{Once, Each, Keys}
use Rattle.plprogram.specs.declared.settings.Settings.{Settings}
use Rattle.plerror.specs.Errors.{instantiation_error, type_error}
use Rattle.plbuiltin.specs.Lists.{Checked, Whole, Amiss, checked}
use Rattle.plbuiltin.specs.Solution.{Solved, Raises, fails, unifies}

-- K-V has the arguments K and V
abbrev pub is_two : Trees → Bool
is_two none = false
is_two (more t none) = false
is_two (more t (more u none)) = true
is_two (more t (more u (more v ts))) = false

abbrev pub is_pair : Tree → Bool
is_pair (compound f ts) = is_two ts && bytes_eq f (codes "-")
is_pair t = false

-- the error of an element that is no pair
abbrev pub pair_fault : Tree → Option Tree
pair_fault (var x) = Some instantiation_error
pair_fault t = if is_pair t then None else Some (type_error (codes "pair") t)

abbrev pub or_else : Option Tree → Option Tree → Option Tree
or_else (Some e) other = Some e
or_else None other = other

-- of the first one that is none
abbrev pub pairs_fault : List Tree → Option Tree
pairs_fault [] = None
pairs_fault (t ∷ ts) = or_else (pair_fault t) (pairs_fault ts)

abbrev pub keyed : Option Tree → List Tree → Tree → Settings → Solved
keyed None ts s settings = unifies s (listed (by_key ts)) settings
keyed (Some e) ts s settings = Raises e

-- the elements of a list in their order, unified with a term
abbrev pub in_order : Sorting → Checked → Tree → Settings → Solved
in_order b (Amiss e) s settings = Raises e
in_order Once (Whole ts) s settings = unifies s (listed (set_of ts)) settings
in_order Each (Whole ts) s settings = unifies s (listed (sorted ts)) settings
in_order Keys (Whole ts) s settings = keyed (pairs_fault ts) ts s settings

abbrev pub on_sorting : Sorting → List Tree → Settings → Solved
on_sorting b (l ∷ s ∷ []) settings = in_order b (checked l) s settings
on_sorting b us settings = fails settings

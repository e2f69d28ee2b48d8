-- Built-in predicates that ask what a term is (ISO/IEC 13211-1 8.3).
use Rattle.std.specs.Prelude.{Bool, true, false, List, [], ◌∷◌}
use Rattle.plterm.specs.Tree.{Tree, var, int, atom, compound}
use Rattle.plnames.specs.declared.kind.Tests.{Tests}
use Rattle.plnames.specs.declared.kind.Tests.TheVariants.{Variable, Bound, Atom, Integer, Atomic, Compound, Callable, ProperList}
use Rattle.plprogram.specs.declared.settings.Settings.{Settings}
use Rattle.plbuiltin.specs.Lists.{Tail, Empty, Unbound, Other, elements_of}
use Rattle.plbuiltin.specs.Solution.{Solved, fails, decides}

abbrev pub is_empty : Tail → Bool
is_empty Empty = true
is_empty Unbound = false
is_empty Other = false

-- a list: the empty one, or an element before a list
abbrev pub is_list : Tree → Bool
is_list t = is_empty (elements_of t).tail

abbrev pub holds : Tests → Tree → Bool
holds Variable (var x) = true
holds Variable t = false
holds Bound (var x) = false
holds Bound t = true
holds Atom (atom name) = true
holds Atom t = false
holds Integer (int i) = true
holds Integer t = false
holds Atomic (int i) = true
holds Atomic (atom name) = true
holds Atomic t = false
holds Compound (compound name ts) = true
holds Compound t = false
holds Callable (atom name) = true
holds Callable (compound name ts) = true
holds Callable t = false
holds ProperList t = is_list t

-- none of them raises an error
abbrev pub on_tests : Tests → List Tree → Settings → Solved
on_tests b (t ∷ []) settings = decides (holds b t) settings
on_tests b us settings = fails settings

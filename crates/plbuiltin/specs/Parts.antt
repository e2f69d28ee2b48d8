-- Built-in predicates on the parts of a term (ISO/IEC 13211-1 8.5), and its variables (Cor.2 8.5.5).
use Rattle.std.specs.Prelude.{ℕ, zero, suc, nat_le, pos, negsuc, List, [], ◌∷◌, map, length, codes, if◌then◌else◌}
use Rattle.plterm.specs.Tree.{Tree, var, int, atom, compound, Trees, none, more, trees, list_of}
use Rattle.plterm.specs.Variables.{variables, copied}
use Rattle.plread.specs.Texts.{listed}
use Rattle.plnames.specs.declared.kind.Parts.{Parts}
use Rattle.plnames.specs.declared.kind.Parts.TheVariants.{Argument, Functor, Univ, Copy, Variables}
use Rattle.plprogram.specs.declared.settings.Settings.{Settings}
use Rattle.plerror.specs.Errors.{instantiation_error, type_error, domain_error, representation_error}
use Rattle.plbuiltin.specs.Lists.{Tail, Empty, Unbound, Other, elements_of}
use Rattle.plbuiltin.specs.Solution.{Solved, Raises, Gives, fails, unifies}

-- a term is the argument with a number, of which the first one has 1
abbrev pub is_argument : ℕ → Trees → Tree → Settings → Solved
is_argument n none a settings = fails settings
is_argument zero (more t ts) a settings = fails settings
is_argument (suc zero) (more t ts) a settings = unifies a t settings
is_argument (suc (suc n)) (more t ts) a settings = is_argument (suc n) ts a settings

-- variables are looked for first (8.5.2)
abbrev pub arg : Tree → Tree → Tree → Settings → Solved
arg (var x) t a settings = Raises instantiation_error
arg n (var x) a settings = Raises instantiation_error
arg (int (pos n)) (compound f ts) a settings = is_argument n ts a settings
arg (int (negsuc n)) (compound f ts) a settings = Raises (domain_error (codes "not_less_than_zero") (int (negsuc n)))
arg (int n) t a settings = Raises (type_error (codes "compound") t)
arg n t a settings = Raises (type_error (codes "integer") n)

-- two terms at once
abbrev pub both : Tree → Tree → Tree
both a b = compound (codes "-") (more a (more b none))

-- variables with the numbers from n on
abbrev pub variables_from : ℕ → ℕ → List Tree
variables_from n zero = []
variables_from n (suc k) = var n ∷ variables_from (suc n) k

-- a compound of a name, its arguments new variables
abbrev pub made : Tree → Tree → ℕ → Settings → ℕ → Solved
made t name zero settings n = unifies t name settings
made t (atom f) (suc k) settings n = Gives (record { left = t; right = compound f (trees (variables_from n (suc k))); new = suc k } ∷ []) [] settings
made t name (suc k) settings n = Raises (type_error (codes "callable") name)

-- a term is made of a name and a number of arguments (8.5.1)
abbrev pub make : Tree → Tree → Tree → Settings → ℕ → Solved
make t (var x) a settings n = Raises instantiation_error
make t name (var x) settings n = Raises instantiation_error
make t (compound f ts) a settings n = Raises (type_error (codes "atomic") (compound f ts))
make t name (int (pos k)) settings n = if nat_le k 1024 then made t name k settings n else Raises (representation_error (codes "max_arity"))
make t name (int (negsuc k)) settings n = Raises (domain_error (codes "not_less_than_zero") (int (negsuc k)))
make t name a settings n = Raises (type_error (codes "integer") a)

-- of a term that is bound, its name and the number of its arguments
abbrev pub functor : Tree → Tree → Tree → Settings → ℕ → Solved
functor (var x) name a settings n = make (var x) name a settings n
functor (compound f ts) name a settings n = unifies (both name a) (both (atom f) (int (pos (length (list_of ts))))) settings
functor t name a settings n = unifies (both name a) (both t (int (pos 0))) settings

-- a name with arguments, of which there are at most 1,024
abbrev pub with_name : Tree → List ℕ → List Tree → Settings → Solved
with_name t f ts settings = if nat_le (length ts) 1024 then unifies t (compound f (trees ts)) settings else Raises (representation_error (codes "max_arity"))

-- the term whose name and arguments are the elements of a list; a variable as its head or its end is looked for first, then whether it is a list
abbrev pub from_list : Tree → List Tree → Tail → Tree → Settings → Solved
from_list t (var x ∷ ts) tail l settings = Raises instantiation_error
from_list t ts Unbound l settings = Raises instantiation_error
from_list t ts Other l settings = Raises (type_error (codes "list") l)
from_list t [] Empty l settings = Raises (domain_error (codes "non_empty_list") l)
from_list t (compound f us ∷ ts) Empty l settings = Raises (type_error (codes "atomic") (compound f us))
from_list t (name ∷ []) Empty l settings = unifies t name settings
from_list t (atom f ∷ u ∷ us) Empty l settings = with_name t f (u ∷ us) settings
from_list t (name ∷ u ∷ us) Empty l settings = Raises (type_error (codes "callable") name)

-- (8.5.3)
abbrev pub univ : Tree → Tree → Settings → Solved
univ (var x) l settings = let es = elements_of l in from_list (var x) es.items es.tail l settings
univ (compound f ts) l settings = unifies l (listed (atom f ∷ list_of ts)) settings
univ t l settings = unifies l (listed (t ∷ [])) settings

-- a copy has new variables (8.5.4)
abbrev pub copy : Tree → Tree → Settings → ℕ → Solved
copy t c settings n = Gives (record { left = c; right = copied n t; new = length (variables t) } ∷ []) [] settings

-- the variables by first occurrence
abbrev pub term_variables : Tree → Tree → Settings → Solved
term_variables t l settings = unifies l (listed (map var (variables t))) settings

abbrev pub on_parts : Parts → List Tree → Settings → ℕ → Solved
on_parts Argument (i ∷ t ∷ a ∷ []) settings n = arg i t a settings
on_parts Functor (t ∷ name ∷ a ∷ []) settings n = functor t name a settings n
on_parts Univ (t ∷ l ∷ []) settings n = univ t l settings
on_parts Copy (t ∷ c ∷ []) settings n = copy t c settings n
on_parts Variables (t ∷ l ∷ []) settings n = term_variables t l settings
on_parts b us settings n = fails settings

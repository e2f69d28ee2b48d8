-- Terms that name procedures: `Name/Arity`, alone, in a sequence or in a list.
use Rattle.std.specs.Prelude.{ℕ, pos, negsuc, Bool, true, false, ◌||◌, nat_le, if◌then◌else◌, List, [], ◌∷◌, ◌++◌, codes, Option, Some, None}
use Rattle.plterm.specs.Tree.{Tree, var, int, atom, compound}
use Rattle.plterm.specs.declared.indicator.Indicator.{Indicator}
use Rattle.plclause.specs.Lists.{pair_of, items, behind, elements, members, is_atom, is_list, each}

-- `Name/Arity`, where an arity is at most 1,024
abbrev pub name_of : Tree → Option (List ℕ)
name_of (atom s) = Some s
name_of t = None

abbrev pub number_to : ℕ → Tree → Option ℕ
number_to most (int (pos n)) = if nat_le n most then Some n else None
number_to most (int (negsuc n)) = None
number_to most t = None

abbrev pub named : Option (List ℕ) → Option ℕ → Option Indicator
named (Some s) (Some n) = Some (record { name = s; arity = n })
named (Some s) None = None
named None n = None

abbrev pub named_by : Option (Tree × Tree) → Option Indicator
named_by None = None
named_by (Some (a, b)) = named (name_of a) (number_to 1024 b)

abbrev pub indicator_of : Tree → Option Indicator
indicator_of t = named_by (pair_of (codes "/") t)

-- indicators: one, a sequence of them, or a list
abbrev pub each_of : {A : Type 0} → (Tree → Option A) → Option (List Tree) → Option (List A)
each_of f None = None
each_of f (Some ts) = each f ts

abbrev pub indicators : Tree → Option (List Indicator)
indicators t = each_of indicator_of (if is_list t then elements t else Some (members t))

-- the terms that are to be indicators: the elements of a list, with what stands in place of its end, or the members of a sequence
abbrev pub end_of : Tree → List Tree
end_of t = if is_atom (codes "[]") t then [] else t ∷ []

abbrev pub named_terms : Tree → List Tree
named_terms t = if is_list t then items (codes ".") t ++ end_of (behind (codes ".") t) else members t

-- such a term that is not known yet: a variable, or one in place of its name or arity
abbrev pub is_var : Tree → Bool
is_var (var v) = true
is_var (int i) = false
is_var (atom s) = false
is_var (compound s ts) = false

abbrev pub is_open_pair : Option (Tree × Tree) → Bool
is_open_pair None = false
is_open_pair (Some (a, b)) = is_var a || is_var b

abbrev pub is_open : Tree → Bool
is_open t = is_var t || is_open_pair (pair_of (codes "/") t)

-- The copies that findall/3 keeps (ISO/IEC 13211-1 8.10.1).
use Rattle.std.specs.Prelude.{ℕ, ◌+◌, List, [], ◌∷◌, ◌++◌, filter, map, length, nat_le, nat_lt}
use Rattle.plterm.specs.Tree.{Tree}
use Rattle.plterm.specs.Variables.{copied, variables}
use Rattle.plread.specs.Texts.{listed}
use Rattle.plbuiltin.specs.Solution.{Solution}
use Rattle.plsearch.specs.Types.{Kept, Local}

-- what is kept for handlers below a level, up to a level, and from a level on
abbrev pub kept_below : ℕ → List Kept → List Kept
kept_below d = filter (λ k. nat_lt k.level d)

abbrev pub kept_up_to : ℕ → List Kept → List Kept
kept_up_to d = filter (λ k. nat_le k.level d)

abbrev pub kept_from : ℕ → List Kept → List Kept
kept_from d = filter (λ k. nat_le d k.level)

-- a copy of a term is kept for the handler of a level, and nothing any more for those inside of it
abbrev pub with_copy : ℕ → Tree → List Kept → List Kept
with_copy l t ks = kept_up_to l ks ++ record { level = l; copy = copied 0 t } ∷ []

abbrev pub collected : ℕ → Tree → Local → Local
collected l t w = record w { kept = with_copy l t w.kept }

-- nothing is kept any more from a level on
abbrev pub dropped : ℕ → Local → Local
dropped d w = record w { kept = kept_below d w.kept }

-- the variables of the copies are new, and apart
abbrev pub renumbered : ℕ → List Tree → List Tree
renumbered n [] = []
renumbered n (t ∷ ts) = copied n t ∷ renumbered (n + length (variables t)) ts

abbrev pub count_new : List Tree → ℕ
count_new [] = 0
count_new (t ∷ ts) = length (variables t) + count_new ts

-- a term is unified with the list of copies, where so many variables are in use
abbrev pub gathered : Tree → List Tree → ℕ → Solution
gathered l ts n = record { left = l; right = listed (renumbered n ts); new = count_new ts }

-- the copies that are kept from a level on, in their order
abbrev pub copies_from : ℕ → List Kept → List Tree
copies_from d ks = map (λ k. k.copy) (kept_from d ks)

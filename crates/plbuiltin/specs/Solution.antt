-- What a call of a built-in predicate gives.
use Rattle.std.specs.Prelude.{ℕ, Bool, true, false, List, [], ◌∷◌, map, codes, Option, Some, None}
use Rattle.plterm.specs.Tree.{Tree, atom, compound, trees}
use Rattle.plprogram.specs.declared.settings.Settings.{Settings}

-- a solution: two terms that are unified, and how many variables they have that were not in use
pub record Solution : Type 0 where
  pub left : Tree
  pub right : Tree
  pub new : ℕ

-- an error term; or the solutions in their order, the bytes that are written, and the settings after it
pub data Solved : Type 0 where
  Raises : Tree → Solved
  Gives : List Solution → List ℕ → Settings → Solved

abbrev pub fails : Settings → Solved
fails settings = Gives [] [] settings

-- the two terms are unified
abbrev pub unifies : Tree → Tree → Settings → Solved
unifies left right settings = Gives (record { left = left; right = right; new = 0 } ∷ []) [] settings

-- it is true once these bytes are written; both sides are one atom
abbrev pub writes : List ℕ → Settings → Solved
writes bytes settings = Gives (record { left = atom (codes "true"); right = atom (codes "true"); new = 0 } ∷ []) bytes settings

-- it is true, and these are the settings from then on
abbrev pub sets : Settings → Solved
sets settings = writes [] settings

-- it is true, or fails
abbrev pub decides : Bool → Settings → Solved
decides true settings = writes [] settings
decides false settings = fails settings

-- it raises an error, where there is one
abbrev pub unless : Option Tree → Solved → Solved
unless (Some e) solved = Raises e
unless None solved = solved

-- several terms at once
abbrev pub together : List Tree → Tree
together ts = compound (codes "-") (trees ts)

-- they are unified with one term
abbrev pub against : List Tree → Tree → Solution
against us t = record { left = together us; right = t; new = 0 }

-- or with as many others
abbrev pub are : List Tree → List Tree → Solution
are us ts = against us (together ts)

-- they are unified with one group of others after another
abbrev pub are_one_of : List Tree → List (List Tree) → Settings → Solved
are_one_of us tss settings = Gives (map (are us) tss) [] settings

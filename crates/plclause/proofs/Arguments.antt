-- The arguments of a compound.
use Rattle.std.proofs.Common.{◌≡◌, ℕ, Bool, true, false, List, [], ◌∷◌, Option, Some, None, ◌<◌, length, refl, sym, ap, ◌∙◌, bytes_eq, arith, length-append}
use Rattle.plterm.specs.Tree.{Tree, var, int, atom, compound, none, more, trees}
use Rattle.plterm.proofs.Forests.{list_of-trees}
use Rattle.plterm.specs.Reading.{spelling}
use Rattle.plclause.specs.Lists.{only_argument, only_of, pair_of, pair_if, items, behind}

pub only_shown : (name s : List ℕ) (args : List Tree) → only_argument name (compound s (trees args)) ≡ only_of name s args
only_shown name s args = ap (only_of name s) (list_of-trees args)

more_of : (name s : List ℕ) (t : Tree) (rest : List Tree) → (rest ≡ [] → ⊥) → only_of name s (t ∷ rest) ≡ None
more_of name s t [] n = absurd (n refl)
more_of name s t (u ∷ us) n = refl

-- of more than one, none is the only one
pub more_arguments : (name s : List ℕ) (t : Tree) (args rest : List Tree) → args ≡ t ∷ rest → (rest ≡ [] → ⊥) → None ≡ only_argument name (compound s (trees args))
more_arguments name s t args rest e n = sym (only_shown name s args ∙ ap (only_of name s) e ∙ more_of name s t rest n)

beyond : (name s : List ℕ) (t u : Tree) (rest : List Tree) → (rest ≡ [] → ⊥) → pair_of name (compound s (trees (t ∷ u ∷ rest))) ≡ None
beyond name s t u [] n = absurd (n refl)
beyond name s t u (v ∷ vs) n = refl

-- more than two are no pair
pub more_than_pair : (name s : List ℕ) (t u : Tree) (args rest last : List Tree) → args ≡ t ∷ rest → rest ≡ u ∷ last → (last ≡ [] → ⊥) → None ≡ pair_of name (compound s (trees args))
more_than_pair name s t u args rest last e f n = sym (ap (λ us. pair_of name (compound s (trees us))) (e ∙ ap (λ us. t ∷ us) f) ∙ beyond name s t u last n)

-- along a pair
pub record Along (name : List ℕ) (t a b : Tree) : Type 0 where
  pub items : items name t ≡ a ∷ items name b
  pub behind : behind name t ≡ behind name b
  pub smaller : length (spelling b) < length (spelling t)

left_in : Tree → Option (Tree × Tree) → Tree
left_in t None = t
left_in t (Some p) = p.0

right_in : Tree → Option (Tree × Tree) → Tree
right_in t None = t
right_in t (Some p) = p.1

along_if : (name s : List ℕ) (a b c d : Tree) (x : Bool) → bytes_eq s name ≡ x → pair_if x a b ≡ Some (c, d) → Along name (compound s (more a (more b none))) c d
along_if name s a b c d true e h =
    let first : a ≡ c = unfold left_in in ap (left_in a) h in
    let second : b ≡ d = unfold right_in in ap (right_in b) h in
    record {
      items = rw (e, first, second) refl;
      behind = rw (e, second) refl;
      smaller = rw (← second) (simp (length-append) (omega arith));
    }
along_if name s a b c d false e h = cc

pub along : (name : List ℕ) (t a b : Tree) → pair_of name t ≡ Some (a, b) → Along name t a b
along name (var v) a b h = cc
along name (int i) a b h = cc
along name (atom s) a b h = cc
along name (compound s none) a b h = cc
along name (compound s (more c none)) a b h = cc
along name (compound s (more c (more d none))) a b h = along_if name s c d a b (bytes_eq s name) refl h
along name (compound s (more c (more d (more e ts)))) a b h = cc

-- where no pair stands, nothing is along it
pub record Alone (name : List ℕ) (t : Tree) : Type 0 where
  pub items : items name t ≡ []
  pub behind : behind name t ≡ t

alone_if : (name s : List ℕ) (a b : Tree) (x : Bool) → bytes_eq s name ≡ x → pair_if x a b ≡ None → Alone name (compound s (more a (more b none)))
alone_if name s a b true e h = cc
alone_if name s a b false e h = record { items = rw e refl; behind = rw e refl }

pub alone : (name : List ℕ) (t : Tree) → pair_of name t ≡ None → Alone name t
alone name (var v) h = record { items = refl; behind = refl }
alone name (int i) h = record { items = refl; behind = refl }
alone name (atom s) h = record { items = refl; behind = refl }
alone name (compound s none) h = record { items = refl; behind = refl }
alone name (compound s (more c none)) h = record { items = refl; behind = refl }
alone name (compound s (more c (more d none))) h = alone_if name s c d (bytes_eq s name) refl h
alone name (compound s (more c (more d (more e ts)))) h = record { items = refl; behind = refl }

-- Terms without variables are their own copies.
use Rattle.std.proofs.Common.{◌≡◌, ℕ, true, List, [], ◌∷◌, ◌++◌, refl, ap, ap₂, ◌∙◌}
use Rattle.std.proofs.lemmas.Bool.{and_parts}
use Rattle.plterm.specs.declared.node.Node.{Node}
use Rattle.plterm.specs.Tree.{Tree, var, int, atom, compound, Trees, none, more}
use Rattle.plterm.specs.Ground.{is_ground, are_ground}
use Rattle.plterm.specs.Reading.{spelling, spellings}
use Rattle.plterm.specs.Variables.{seen_after, with_node, variables, renamed, all_renamed, copied}

seen-append : (xs ys : List Node) (seen : List ℕ) → seen_after seen (xs ++ ys) ≡ seen_after (seen_after seen xs) ys
seen-append [] ys seen = refl
seen-append (n ∷ ns) ys seen = seen-append ns ys (with_node seen n)

mutual
  unfolding is_ground

  seen-ground : (t : Tree) (seen : List ℕ) → is_ground t ≡ true → seen_after seen (spelling t) ≡ seen
  seen-ground (var v) seen g = absurd (cc)
  seen-ground (int i) seen g = refl
  seen-ground (atom s) seen g = refl
  seen-ground (compound s ts) seen g = seen-grounds ts seen g

  seen-grounds : (ts : Trees) (seen : List ℕ) → are_ground ts ≡ true → seen_after seen (spellings ts) ≡ seen
  seen-grounds none seen g = refl
  seen-grounds (more t ts) seen g =
      let both = and_parts _ _ g in
      seen-append (spelling t) (spellings ts) seen ∙ ap (λ x. seen_after x (spellings ts)) (seen-ground t seen both.0) ∙ seen-grounds ts seen both.1

pub variables-ground : (t : Tree) → is_ground t ≡ true → variables t ≡ []
variables-ground t g = seen-ground t [] g

mutual
  unfolding is_ground

  renamed-ground : (f : ℕ → ℕ) (t : Tree) → is_ground t ≡ true → renamed f t ≡ t
  renamed-ground f (var v) g = absurd (cc)
  renamed-ground f (int i) g = refl
  renamed-ground f (atom s) g = refl
  renamed-ground f (compound s ts) g = ap (compound s) (all-renamed-ground f ts g)

  all-renamed-ground : (f : ℕ → ℕ) (ts : Trees) → are_ground ts ≡ true → all_renamed f ts ≡ ts
  all-renamed-ground f none g = refl
  all-renamed-ground f (more t ts) g =
      let both = and_parts _ _ g in
      ap₂ more (renamed-ground f t both.0) (all-renamed-ground f ts both.1)

pub copied-ground : (n : ℕ) (t : Tree) → is_ground t ≡ true → copied n t ≡ t
copied-ground n t g = renamed-ground _ t g
